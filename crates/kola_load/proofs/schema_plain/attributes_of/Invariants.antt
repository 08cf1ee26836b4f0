use Rattle.std.proofs.Common.{◌≡◌, map, take}
use Rattle.kola_load.specs.PlainSchemas.{plain_attribute}
use Rattle.kola_load.specs.SchemaViews.{attribute_view}
use Rattle.kola_load.proofs.schema_plain.attributes_of.Given as goal

abbrev pub invariant-loop-attribute : goal.invariant-loop-attribute
invariant-loop-attribute l = l.all ≡ take l.attribute-index (map plain_attribute (map attribute_view l.attributes))
