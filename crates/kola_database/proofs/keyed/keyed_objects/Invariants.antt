use Rattle.std.proofs.Common.{◌≡◌, ◌++◌, map, drop}
use Rattle.kola_database.specs.KeyedObjects.{keyed_objects}
use Rattle.kola_database.specs.ObjectViews.{object_tree}
use Rattle.kola_database.specs.KeyedViews.{keyed_tree}
use Rattle.kola_database.proofs.keyed.keyed_objects.Given as goal

abbrev pub invariant-loop-object : goal.invariant-loop-object
invariant-loop-object l = map keyed_tree l.list.items ++ keyed_objects l.schema (map object_tree (drop l.object-index l.objects)) ≡ keyed_objects l.schema (map object_tree l.objects)
