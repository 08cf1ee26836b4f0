use Rattle.std.proofs.Common.{map, take}
use Rattle.kola_values.specs.Sets.{Each}
use Rattle.kola_database.specs.MeetsTests.{IsHeld}
use Rattle.kola_database.specs.ObjectViews.{object_tree}
use Rattle.kola_load.proofs.db.all_held.Given as goal

abbrev pub invariant-loop-object : goal.invariant-loop-object
invariant-loop-object l = Each IsHeld (take l.object-index (map object_tree l.objects))
