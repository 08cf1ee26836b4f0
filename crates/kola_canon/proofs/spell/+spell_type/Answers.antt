use Rattle.std.proofs.Common.{◌++◌, map, ap, ◌∙◌, refl, arith, codes}
use Rattle.kola_values.specs.Types.{of_type_fields}
use Rattle.kola_values.specs.Views.{type_tree, type_entry}
use Rattle.kola_canon.specs.Spelling.{type_spelling, further_field_types}
use Rattle.kola_values.specs.Models.Weights.{types_weight}
use Rattle.kola_values.proofs.Loops.{type_entry_falls}
use Rattle.kola_canon.proofs.Texts.{further_field_types_push, type_field, spelt_more, regroup}
use Rattle.kola_canon.proofs.spell.+spell_type.Goals as goal

pub spell_field_types-spell_type-requires-in-loop-label : goal.spell_field_types-spell_type-requires-in-loop-label
spell_field_types-spell_type-requires-in-loop-label t c =
    let others = c.in-Some.others.now in
    let h = type_entry_falls others (map type_entry others) c.loop-label.label-index c.loop-label-item.result refl c.loop-label-test.true c.loop-label-item.is in
    (omega (arith, h, ap (λ l. types_weight (of_type_fields (map type_entry l))) c.in-Some.ensures.cases.0, c.decreases), tt)

pub spell_field_types-loop-label-preserved : goal.spell_field_types-loop-label-preserved
spell_field_types-loop-label-preserved t c =
    let f = c.loop-label-item.result in
    c.in_ok-spell_type-2.ensures
    ∙ ap (λ l. l ++ type_spelling (type_tree f.1)) (c.in_ok-spell_label-2.ensures ∙ ap (λ l. l ++ (f.0 ++ codes ": ")) c.in_ok-push_bytes.ensures.ok)
    ∙ regroup c.loop-label.out.items (codes ", ") f.0 (codes ": ") (type_spelling (type_tree f.1))
    ∙ spelt_more type_entry (λ us. further_field_types (of_type_fields us)) type_field further_field_types_push c.spell_type.new.out.items c.loop-label.out.items c.in-Some.others.now c.loop-label.label-index f c.loop-label.invariant c.loop-label-test.true c.loop-label-item.is
