use Rattle.std.proofs.Common.{ap, ◌∙◌}
use Rattle.kola_schema.specs.Schemas.{are_distinct, names_of}
use Rattle.kola_schema.proofs.Schemas.{attribute_names_seen}
use Rattle.kola_schema.proofs.schema.IndexedClass.make.Goals as goal

pub attribute_table-requires : goal.attribute_table-requires
attribute_table-requires c = ap are_distinct (attribute_names_seen c.as_slice.result.now ∙ ap (λ l. names_of l) c.as_slice.ensures) ∙ c.requires

pub invariant_of-result : goal.invariant_of-result
invariant_of-result c = c.in_ok-attributes.ensures ∙ attribute_names_seen c.as_slice.result.now ∙ ap (λ l. names_of l) c.as_slice.ensures
