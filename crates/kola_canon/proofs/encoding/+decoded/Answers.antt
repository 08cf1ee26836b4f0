use Rattle.std.proofs.Common.{◌+◌, ◌++◌, [], ◌∷◌, map, refl, sym, ap, ap₂, ◌∙◌, drop, subst, arith}
use Rattle.std.proofs.lemmas.List.{drop_all}
use Rattle.kola_values.specs.Types.{of_type_fields}
use Rattle.kola_values.specs.Values.{VSet, VEnd, of_items, fields}
use Rattle.kola_values.specs.Sets.{Rising, Each}
use Rattle.kola_values.specs.WellFormed.{WellFormed, WellFormedFields}
use Rattle.kola_canon.specs.Encoding.{dec, dec_fields}
use Rattle.kola_values.specs.Views.{type_tree, type_entry, value_tree}
use Rattle.kola_values.specs.Models.Weights.{type_weight}
use Rattle.kola_core.proofs.Lists.{length_seen}
use Rattle.kola_values.proofs.Loops.{type_entry_falls}
use Rattle.kola_canon.proofs.EncodingLoops.{made_more, made_well_formed}
use Rattle.kola_canon.proofs.EncodingBack.{all_done, field_done, last_decoded, one_more_decoded, none_decoded, no_pair, set_decoded, parts_of_set}
use Rattle.kola_canon.proofs.encoding.+decoded.Goals as goal

pub decoded-decoded_members-requires : goal.decoded-decoded_members-requires
decoded-decoded_members-requires t c =
    let s = c.in-Set-Set.set in
    let k = ap (λ z. type_weight (type_tree z)) c.in-Set-Set.is-0 in
    let g = ap type_weight c.get-in-Set-Set.ensures in
    let both = ap₂ (λ z y. dec (type_tree z) (value_tree y)) c.in-Set-Set.is-0 c.in-Set-Set.is-1 ∙ set_decoded c.in-Set-Set.t s in
    let w = parts_of_set (map (dec c.in-Set-Set.t) s) (subst WellFormed both c.requires) in
    (omega (arith, k, g, c.decreases), subst (λ l. Each WellFormed (map (dec (type_tree c.get-in-Set-Set.result.now)) l)) (sym c.as_slice-in-Set-Set.ensures) (subst (λ u. Each WellFormed (map (dec u) s)) (sym c.get-in-Set-Set.ensures) w.1))

pub decoded-from_rising-requires : goal.decoded-from_rising-requires
decoded-from_rising-requires t c =
    let s = c.in-Set-Set.set in
    let both = ap₂ (λ z y. dec (type_tree z) (value_tree y)) c.in-Set-Set.is-0 c.in-Set-Set.is-1 ∙ set_decoded c.in-Set-Set.t s in
    let w = parts_of_set (map (dec c.in-Set-Set.t) s) (subst WellFormed both c.requires) in
    subst Rising (sym (c.in_ok-members-in-Set-Set.ensures ∙ ap₂ (λ u l. map (dec u) l) c.get-in-Set-Set.ensures c.as_slice-in-Set-Set.ensures)) w.0

pub decoded-returns-in_ok-from_rising-in-Set-Set : goal.decoded-returns-in_ok-from_rising-in-Set-Set
decoded-returns-in_ok-from_rising-in-Set-Set t c =
    let s = c.in-Set-Set.set in
    let both = ap₂ (λ z y. dec (type_tree z) (value_tree y)) c.in-Set-Set.is-0 c.in-Set-Set.is-1 ∙ set_decoded c.in-Set-Set.t s in
    ap (λ l. VSet (of_items l)) (c.in_ok-from_rising-in-Set-Set.ensures ∙ (c.in_ok-members-in-Set-Set.ensures ∙ ap₂ (λ u l. map (dec u) l) c.get-in-Set-Set.ensures c.as_slice-in-Set-Set.ensures))
    ∙ sym both

pub decoded_fields-returns-in_default : goal.decoded_fields-returns-in_default
decoded_fields-returns-in_default t c =
    let us = map type_entry c.args.types.now in
    let n = length_seen type_entry c.args.types.now us refl in
    let none = none_decoded us c.loop-done.done (value_tree c.loop-done.rest.now) (omega arith) (no_pair c.loop-done.rest.now c.in_default.not-Pair) in
    all_done c.loop-done.fields _ (dec_fields (of_type_fields us) (value_tree c.args.v.now)) none c.loop-done.invariant.1

pub decoded_fields-decoded_field-requires : goal.decoded_fields-decoded_field-requires
decoded_fields-decoded_field-requires t c =
    let us = map type_entry c.args.types.now in
    let i = c.loop-done.done in
    let x = c.index-types-done.result in
    let h = type_entry_falls c.args.types.now us i x refl (omega arith) c.index-types-done.is in
    let r = ap value_tree c.in-Pair.is in
    let step = ap (λ v. dec_fields (of_type_fields (drop i us)) v) r ∙ one_more_decoded c.args.types.now us i x refl c.in-Pair.first c.in-Pair.others (omega arith) c.index-types-done.is in
    let w = subst WellFormedFields step c.loop-done.invariant.2 in
    (omega (arith, h, c.decreases), subst (λ v. WellFormed (dec (type_tree x.1) v)) (sym c.get.ensures) w.0)

pub decoded_fields-loop-done-preserved : goal.decoded_fields-loop-done-preserved
decoded_fields-loop-done-preserved t c =
    let us = map type_entry c.args.types.now in
    let i = c.loop-done.done in
    let x = c.index-types-done.result in
    let all = dec_fields (of_type_fields us) (value_tree c.args.v.now) in
    let r = ap value_tree c.in-Pair.is in
    let step = ap (λ v. dec_fields (of_type_fields (drop i us)) v) r ∙ one_more_decoded c.args.types.now us i x refl c.in-Pair.first c.in-Pair.others (omega arith) c.index-types-done.is in
    let w = subst WellFormedFields step c.loop-done.invariant.2 in
    let f = c.in_ok-decoded_field.ensures ∙ ap (λ v. (x.0, dec (type_tree x.1) v)) c.get.ensures in (
      omega arith,
      ap₂ (λ l v. l ++ fields (dec_fields (of_type_fields (drop (i + 1) us)) v)) (c.in_ok-push.ensures.ok ∙ ap (λ g. c.loop-done.fields ++ g ∷ []) f) c.get-rest.ensures
          ∙ field_done c.loop-done.fields x.0 (dec (type_tree x.1) c.in-Pair.first) _ (dec_fields (of_type_fields (drop (i + 1) us)) c.in-Pair.others) all step c.loop-done.invariant.1,
      subst (λ v. WellFormedFields (dec_fields (of_type_fields (drop (i + 1) us)) v)) (sym c.get-rest.ensures) w.1,
    )

pub decoded_fields-returns-then-done-types : goal.decoded_fields-returns-then-done-types
decoded_fields-returns-then-done-types t c =
    let us = map type_entry c.args.types.now in
    let n = length_seen type_entry c.args.types.now us refl in
    let none = ap (λ l. dec_fields (of_type_fields l) (value_tree c.loop-done.rest.now)) (drop_all c.loop-done.done us (omega arith)) in
    all_done c.loop-done.fields _ (dec_fields (of_type_fields us) (value_tree c.args.v.now)) none c.loop-done.invariant.1

pub decoded_fields-decoded_field-requires-2 : goal.decoded_fields-decoded_field-requires-2
decoded_fields-decoded_field-requires-2 t c =
    let us = map type_entry c.args.types.now in
    let i = c.loop-done.done in
    let x = c.index-types-done-2.result in
    let h = type_entry_falls c.args.types.now us i x refl (omega (arith, c.loop-done.invariant.0)) c.index-types-done-2.is in
    let step = last_decoded c.args.types.now us i x refl (value_tree c.loop-done.rest.now) (omega (arith, c.loop-done.invariant.0)) c.index-types-done-2.is in
    let w = subst WellFormedFields step c.loop-done.invariant.2 in
    (omega (arith, h, c.decreases), w.0)

pub decoded_fields-returns : goal.decoded_fields-returns
decoded_fields-returns t c =
    let us = map type_entry c.args.types.now in
    let i = c.loop-done.done in
    let x = c.index-types-done-2.result in
    let v = value_tree c.loop-done.rest.now in
    let all = dec_fields (of_type_fields us) (value_tree c.args.v.now) in
    let step = last_decoded c.args.types.now us i x refl v (omega (arith, c.loop-done.invariant.0)) c.index-types-done-2.is in
    all_done c.push-2.new.self VEnd all refl
    (ap (λ l. l ++ []) (c.in_ok-push-2.ensures.ok ∙ ap (λ g. c.loop-done.fields ++ g ∷ []) c.in_ok-decoded_field-2.ensures)
    ∙ field_done c.loop-done.fields x.0 (dec (type_tree x.1) v) _ VEnd all step c.loop-done.invariant.1)

pub decoded_members-decoded-requires : goal.decoded_members-decoded-requires
decoded_members-decoded-requires t c =
    (omega (arith, c.decreases), made_well_formed (dec (type_tree c.args.t.now)) c.args.members.now c.loop-member.member-index c.member-item.result c.loop-member-test.true c.member-item.is c.requires)

pub decoded_members-loop-member-preserved : goal.decoded_members-loop-member-preserved
decoded_members-loop-member-preserved t c =
    ap (map value_tree) c.in_ok-push.ensures.items
    ∙ made_more (dec (type_tree c.args.t.now)) c.loop-member.all.items c.args.members.now c.loop-member.member-index c.member-item.result c.in_ok-decoded.field-0
    c.loop-member.invariant c.loop-member-test.true c.member-item.is c.in_ok-decoded.ensures
