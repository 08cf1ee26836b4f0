use Rattle.std.proofs.Common.{◌++◌, map, ap, ◌∙◌, refl, arith, codes}
use Rattle.std.proofs.lemmas.List.{append_assoc}
use Rattle.kola_values.specs.Values.{of_items, of_fields}
use Rattle.kola_values.specs.Views.{value_tree, value_entry}
use Rattle.kola_canon.specs.Spelling.{value_spelling, further_members, further_fields}
use Rattle.kola_values.specs.Models.Weights.{members_weight, fields_weight}
use Rattle.kola_values.proofs.Loops.{member_falls, value_entry_falls}
use Rattle.kola_canon.proofs.Texts.{further_members_push, further_fields_push, value_field, spelt_more, regroup}
use Rattle.kola_canon.proofs.spell.+spell_value.Goals as goal

pub spell_members-spell_value-requires-in-loop-member : goal.spell_members-spell_value-requires-in-loop-member
spell_members-spell_value-requires-in-loop-member t c =
    let others = c.in-Some.others.now in
    let h = member_falls others (map value_tree others) c.loop-member.member-index c.member-item.result refl c.loop-member-test.true c.member-item.is in
    (omega (arith, h, ap (λ l. members_weight (of_items (map value_tree l))) c.in-Some.ensures.cases.0, c.decreases), tt)

pub spell_members-loop-member-preserved : goal.spell_members-loop-member-preserved
spell_members-loop-member-preserved t c =
    let x = c.member-item.result in
    c.in_ok-spell_value-2.ensures
    ∙ ap (λ l. l ++ value_spelling (value_tree x)) c.in_ok-push_bytes.ensures.ok
    ∙ append_assoc c.loop-member.out.items (codes ", ") (value_spelling (value_tree x))
    ∙ spelt_more value_tree (λ us. further_members (of_items us)) (λ u. codes ", " ++ value_spelling u) further_members_push c.spell_value.new.out.items c.loop-member.out.items c.in-Some.others.now c.loop-member.member-index x c.loop-member.invariant c.loop-member-test.true c.member-item.is

pub spell_fields-spell_value-requires-in-loop-label : goal.spell_fields-spell_value-requires-in-loop-label
spell_fields-spell_value-requires-in-loop-label t c =
    let others = c.in-Some.others.now in
    let h = value_entry_falls others (map value_entry others) c.loop-label.label-index c.loop-label-item.result refl c.loop-label-test.true c.loop-label-item.is in
    (omega (arith, h, ap (λ l. fields_weight (of_fields (map value_entry l))) c.in-Some.ensures.cases.0, c.decreases), tt)

pub spell_fields-loop-label-preserved : goal.spell_fields-loop-label-preserved
spell_fields-loop-label-preserved t c =
    let f = c.loop-label-item.result in
    c.in_ok-spell_value-2.ensures
    ∙ ap (λ l. l ++ value_spelling (value_tree f.1)) (c.in_ok-spell_label-2.ensures ∙ ap (λ l. l ++ (f.0 ++ codes ": ")) c.in_ok-push_bytes.ensures.ok)
    ∙ regroup c.loop-label.out.items (codes ", ") f.0 (codes ": ") (value_spelling (value_tree f.1))
    ∙ spelt_more value_entry (λ us. further_fields (of_fields us)) value_field further_fields_push c.spell_value.new.out.items c.loop-label.out.items c.in-Some.others.now c.loop-label.label-index f c.loop-label.invariant c.loop-label-test.true c.loop-label-item.is
