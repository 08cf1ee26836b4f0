use Rattle.std.proofs.Common.{◌≡◌, map, drop}
use Rattle.kola_database.specs.MeetsTests.{no_two, same_object}
use Rattle.kola_database.specs.ObjectViews.{object_tree}
use Rattle.kola_database.proofs.meets.objects_are_distinct.Given as goal

abbrev pub invariant-loop-i : goal.invariant-loop-i
invariant-loop-i l = no_two same_object (map object_tree (drop l.i l.objects)) ≡ no_two same_object (map object_tree l.objects)
