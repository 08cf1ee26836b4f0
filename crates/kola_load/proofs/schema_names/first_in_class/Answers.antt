use Rattle.std.proofs.Common.{[], map, ap, ◌∙◌}
use Rattle.kola_load.specs.FirstMarks.{names_from, twice, unknown_types, unknown_keys}
use Rattle.kola_load.specs.SchemaViews.{named_view, attribute_view, key_view, class_view}
use Rattle.kola_load.proofs.MarkLoops.{class_parts, attributes_seen}
use Rattle.kola_load.proofs.schema_names.first_in_class.Goals as goal

pub returns : goal.returns
returns c =
    let listed = ap (map named_view) (c.as_slice.ensures.value ∙ c.in_ok-names.ensures) ∙ attributes_seen c.args.class.now.attributes.items in
    class_parts c.args.known.now c.in_ok-table.table (class_view c.args.class.now) c.in_ok-table.twice c.unknown_types-types.result c.unknown_keys-keys.result c.not_allowed.result c.earlier.result c.earlier-2.result c.earlier-3.result
    (c.in_ok-table.ensures.table ∙ ap (names_from []) listed)
    (c.in_ok-table.ensures.twice ∙ ap twice listed)
    (c.unknown_types-types.ensures ∙ ap (λ xs. unknown_types c.args.known.now (map attribute_view xs)) c.as_slice-2.ensures.value)
    (c.unknown_keys-keys.ensures ∙ ap (λ ks. unknown_keys c.in_ok-table.table (map key_view ks)) c.as_slice-3.ensures.value)
    c.not_allowed.ensures c.earlier.ensures c.earlier-2.ensures c.earlier-3.ensures
