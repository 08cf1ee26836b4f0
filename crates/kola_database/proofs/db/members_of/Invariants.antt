use Rattle.std.proofs.Common.{◌≡◌, map, take}
use Rattle.kola_values.specs.Databases.{objects_of}
use Rattle.kola_values.specs.Views.{value_tree}
use Rattle.kola_database.specs.ObjectViews.{object_tree}
use Rattle.kola_database.proofs.db.members_of.Given as goal

abbrev pub invariant-loop-object : goal.invariant-loop-object
invariant-loop-object l = map value_tree l.members.items ≡ take l.object-index (objects_of l.class (map object_tree l.objects))
