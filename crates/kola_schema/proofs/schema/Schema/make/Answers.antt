use Rattle.std.proofs.Common.{map, ap, ◌∙◌, sym}
use Rattle.kola_schema.specs.Schemas.{are_distinct, is_schema, class_names, extent_names}
use Rattle.kola_schema.proofs.Schemas.{class_names_apart, extent_names_apart, attribute_names_apart, class_names_seen, extent_names_seen}
use Rattle.kola_schema.proofs.schema.Schema.make.Goals as goal

pub class_table-requires : goal.class_table-requires
class_table-requires c = ap (λ l. are_distinct (map (λ d. d.name) l)) c.as_slice.ensures.value ∙ class_names_apart c.args.classes.items c.requires

pub extent_table-requires : goal.extent_table-requires
extent_table-requires c = ap (λ l. are_distinct (map (λ d. d.extent) l)) c.as_slice-2.ensures.value ∙ extent_names_apart c.args.classes.items c.requires

pub indexed-requires : goal.indexed-requires
indexed-requires c = attribute_names_apart _ c.requires

pub invariant_of-result : goal.invariant_of-result
invariant_of-result c =
    let cs = c.args.classes.items in (
      ap is_schema c.in_ok-classes.ensures ∙ c.requires,
      c.in_ok-names.ensures ∙ ap (map (λ d. d.name)) c.as_slice.ensures.value ∙ class_names_seen cs ∙ ap class_names (sym c.in_ok-classes.ensures),
      c.in_ok-extents.ensures ∙ ap (map (λ d. d.extent)) c.as_slice-2.ensures.value ∙ extent_names_seen cs ∙ ap extent_names (sym c.in_ok-classes.ensures),
    )
