use Rattle.std.proofs.Common.{◌≡◌, ◌++◌, map, drop}
use Rattle.kola_database.specs.KeyedObjects.{keyed_from}
use Rattle.kola_database.specs.ObjectViews.{object_tree}
use Rattle.kola_database.specs.KeyedViews.{keyed_tree}
use Rattle.kola_database.proofs.keyed.push_keys.Given as goal

abbrev pub invariant-loop-place : goal.invariant-loop-place
invariant-loop-place l = map keyed_tree l.list.items ++ keyed_from (object_tree l.object) l.place (drop l.place l.keys) ≡ map keyed_tree l.initial.list.items ++ keyed_from (object_tree l.object) 0 l.keys
