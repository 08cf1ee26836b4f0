use Rattle.std.proofs.Common.{◌≡◌, true, ◌++◌, map}
use Rattle.std.specs.Vec.Iter.{into_iter_items}
use Rattle.kola_values.specs.Sets.{Each}
use Rattle.kola_schema.specs.Schemas.{are_distinct, names_of}
use Rattle.kola_schema.specs.SchemaViews.{class_tree}
use Rattle.kola_schema.proofs.schema.indexed.Given as goal

abbrev pub invariant-loop-class : goal.invariant-loop-class
invariant-loop-class l =
    (goal.iterator-loop-class).can_next l.class-iterator ×
    (goal.iterator-loop-class).is_finite l.class-iterator ×
    (l.all.items ++ map class_tree (into_iter_items l.class-iterator) ≡ map class_tree l.fn.classes.items) ×
    Each (λ k. are_distinct (names_of k.attributes) ≡ true) (map class_tree (into_iter_items l.class-iterator))
