use Rattle.std.proofs.Common.{◌≡◌, ◌++◌, map, flat_map}
use Rattle.std.specs.Vec.Iter.{into_iter_items}
use Rattle.kola_database.specs.ObjectViews.{object_tree}
use Rattle.kola_load.proofs.db.joined.Given as goal

abbrev pub invariant-loop-list : goal.invariant-loop-list
invariant-loop-list l =
    (goal.iterator-loop-list).can_next l.list-iterator ×
    (goal.iterator-loop-list).is_finite l.list-iterator ×
    (map object_tree l.all.items ++ flat_map (λ os. map object_tree os.items) (into_iter_items l.list-iterator) ≡ flat_map (λ os. map object_tree os.items) l.fn.lists.items)
