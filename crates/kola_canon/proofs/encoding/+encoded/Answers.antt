use Rattle.std.proofs.Common.{◌≡◌, ◌+◌, ◌-◌, map, length, refl, sym, ap, ap₂, ◌∙◌, drop, subst, arith}
use Rattle.kola_values.specs.Values.{VPair, VSet, of_items, of_fields}
use Rattle.kola_values.specs.Sets.{Rising, Each}
use Rattle.kola_values.specs.WellFormed.{WellFormed}
use Rattle.kola_canon.specs.Encoding.{enc, enc_fields}
use Rattle.kola_values.specs.Views.{value_tree, value_entry}
use Rattle.kola_values.specs.Models.Weights.{weight, members_weight}
use Rattle.kola_values.proofs.Loops.{member_falls, value_entry_falls}
use Rattle.kola_canon.proofs.EncodingOrder.{enc_members-of_items}
use Rattle.kola_canon.proofs.EncodingLoops.{one_more_value, value_well_formed, made_more, made_well_formed, set_parts}
use Rattle.kola_canon.proofs.encoding.+encoded.Goals as goal

pub encoded-encoded_members-requires : goal.encoded-encoded_members-requires
encoded-encoded_members-requires t c =
    let h = ap (λ l. members_weight (of_items l)) c.as_slice-in-Set.ensures in
    let k = ap (λ z. weight (value_tree z)) c.in-Set.is in
    let w = set_parts _ (subst (λ z. WellFormed (enc (value_tree z))) c.in-Set.is c.requires) in
    (omega (arith, h, k, c.decreases), subst (λ l. Each WellFormed (map enc l)) (sym c.as_slice-in-Set.ensures) w.1)

pub encoded-from_rising-requires : goal.encoded-from_rising-requires
encoded-from_rising-requires t c =
    let w = set_parts _ (subst (λ z. WellFormed (enc (value_tree z))) c.in-Set.is c.requires) in
    subst Rising (sym (c.in_ok-members-in-Set.ensures ∙ ap (map enc) c.as_slice-in-Set.ensures)) w.0

pub encoded-returns-in_ok-from_rising-in-Set : goal.encoded-returns-in_ok-from_rising-in-Set
encoded-returns-in_ok-from_rising-in-Set t c =
    ap (λ l. VSet (of_items l)) (c.in_ok-from_rising-in-Set.ensures ∙ (c.in_ok-members-in-Set.ensures ∙ ap (map enc) c.as_slice-in-Set.ensures))
    ∙ ap VSet (sym (enc_members-of_items _))
    ∙ sym (ap (λ z. enc (value_tree z)) c.in-Set.is)

pub encoded_fields-encoded-requires : goal.encoded_fields-encoded-requires
encoded_fields-encoded-requires t c =
    let us = map value_entry c.args.fields.now in
    let i = length c.args.fields.now - 1 in
    let h = value_entry_falls c.args.fields.now us i c.index-fields-left.result refl (omega arith) c.index-fields-left.is in
    let k = ap (λ f. weight (value_tree f.1)) c.index-fields-left.is in
    let w = value_well_formed c.args.fields.now us i c.index-fields-left.result refl (omega arith) c.index-fields-left.is c.requires in
    (omega (arith, h, k, c.decreases), subst (λ f. WellFormed (enc (value_tree f.1))) c.index-fields-left.is w)

pub encoded_fields-encoded-requires-in-loop-left : goal.encoded_fields-encoded-requires-in-loop-left
encoded_fields-encoded-requires-in-loop-left t c =
    let us = map value_entry c.args.fields.now in
    let i = c.loop-left.left - 1 in
    let x = c.index-fields-left-in-loop-left.result in
    let is = c.index-fields-left-in-loop-left.is in
    let h = value_entry_falls c.args.fields.now us i x refl (omega (arith, c.loop-left.invariant.0)) is in
    let k = ap (λ f. weight (value_tree f.1)) is in
    let w = value_well_formed c.args.fields.now us i x refl (omega (arith, c.loop-left.invariant.0)) is c.requires in
    (omega (arith, h, k, c.decreases), subst (λ f. WellFormed (enc (value_tree f.1))) is w)

pub encoded_fields-loop-left-preserved : goal.encoded_fields-loop-left-preserved
encoded_fields-loop-left-preserved t c =
    let us = map value_entry c.args.fields.now in
    let is = c.index-fields-left-in-loop-left.is in
    let n : c.loop-left.left - 1 + 1 ≡ c.loop-left.left = omega arith in (
      omega (arith, c.loop-left.invariant.0),
      c.in_ok-all-2.ensures
          ∙ ap₂ VPair (c.in_ok-first.ensures ∙ sym (ap (λ f. enc (value_tree f.1)) is)) (c.loop-left.invariant.1 ∙ ap (λ i. enc_fields (of_fields (drop i us))) (sym n))
          ∙ sym (one_more_value c.args.fields.now us (c.loop-left.left - 1) c.index-fields-left-in-loop-left.result refl (omega (arith, c.loop-left.invariant.0)) is),
    )

pub encoded_fields-returns : goal.encoded_fields-returns
encoded_fields-returns t c =
    let us = map value_entry c.args.fields.now in
    let n : c.loop-left.left ≡ 0 = omega arith in
    c.loop-left.invariant.1 ∙ ap (λ i. enc_fields (of_fields (drop i us))) n

pub encoded_members-encoded-requires : goal.encoded_members-encoded-requires
encoded_members-encoded-requires t c =
    let h = member_falls c.args.members.now (map value_tree c.args.members.now) c.loop-member.member-index c.member-item.result refl c.loop-member-test.true c.member-item.is in
    (omega (arith, h, c.decreases), made_well_formed enc c.args.members.now c.loop-member.member-index c.member-item.result c.loop-member-test.true c.member-item.is c.requires)

pub encoded_members-loop-member-preserved : goal.encoded_members-loop-member-preserved
encoded_members-loop-member-preserved t c =
    ap (map value_tree) c.in_ok-push.ensures.items
    ∙ made_more enc c.loop-member.all.items c.args.members.now c.loop-member.member-index c.member-item.result c.in_ok-encoded.field-0
    c.loop-member.invariant c.loop-member-test.true c.member-item.is c.in_ok-encoded.ensures
