use Rattle.std.proofs.Common.{◌≡◌, map, drop}
use Rattle.kola_database.specs.MeetsTests.{keys_are_met}
use Rattle.kola_database.specs.ObjectViews.{object_tree}
use Rattle.kola_database.proofs.meets.keys_are_met.Given as goal

abbrev pub invariant-loop-i : goal.invariant-loop-i
invariant-loop-i l = keys_are_met l.schema (map object_tree (drop l.i l.objects)) ≡ keys_are_met l.schema (map object_tree l.objects)
