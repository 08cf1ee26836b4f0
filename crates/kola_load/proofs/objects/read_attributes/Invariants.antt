use Rattle.std.proofs.Common.{◌≡◌, map, take, drop}
use Rattle.kola_load.specs.JsonViews.{table_view}
use Rattle.kola_schema.specs.SchemaViews.{class_tree}
use Rattle.kola_load.specs.Ids.{there}
use Rattle.kola_load.specs.Loading.{first_of, attribute_fault}
use Rattle.kola_load.specs.Written.{attribute_in}
use Rattle.kola_load.proofs.objects.read_attributes.Given as goal

abbrev pub invariant-loop-attribute : goal.invariant-loop-attribute
invariant-loop-attribute l =
    (l.values ≡ map (attribute_in (table_view l.object)) (take l.attribute-index l.class.attributes))
    × (first_of (attribute_fault (there l.ids) (class_tree l.class) (table_view l.object)) (drop l.attribute-index l.class.attributes)
    ≡ first_of (attribute_fault (there l.ids) (class_tree l.class) (table_view l.object)) l.class.attributes)
