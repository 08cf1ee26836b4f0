use Rattle.std.proofs.Common.{◌≡◌, ◌++◌, map}
use Rattle.std.specs.Vec.Iter.{into_iter_items}
use Rattle.kola_load.specs.JsonViews.{view}
use Rattle.kola_database.specs.ObjectViews.{object_tree}
use Rattle.kola_load.specs.Ids.{there}
use Rattle.kola_load.specs.Loading.{first_of, object_fault}
use Rattle.kola_load.specs.Written.{object_in}
use Rattle.kola_load.proofs.objects.read_class.Given as goal

abbrev pub invariant-loop-element : goal.invariant-loop-element
invariant-loop-element l =
    (goal.iterator-loop-element).can_next l.element-iterator ×
    (goal.iterator-loop-element).is_finite l.element-iterator ×
    (map object_tree l.objects.items ++ map (object_in l.class) (map view (into_iter_items l.element-iterator)) ≡ map (object_in l.class) (map view l.fn.elements.items)) ×
    (first_of (object_fault (there l.ids) l.class) (map view (into_iter_items l.element-iterator)) ≡ first_of (object_fault (there l.ids) l.class) (map view l.fn.elements.items))
