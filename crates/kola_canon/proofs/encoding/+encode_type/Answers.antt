use Rattle.std.proofs.Common.{◌≡◌, ◌+◌, ◌-◌, map, length, refl, sym, ap, ap₂, ◌∙◌, drop, arith}
use Rattle.kola_values.specs.Types.{TPair, of_type_fields}
use Rattle.kola_canon.specs.Encoding.{enc_type, enc_field_types}
use Rattle.kola_values.specs.Views.{type_tree, type_entry}
use Rattle.kola_values.specs.Models.Weights.{type_weight}
use Rattle.kola_values.proofs.Loops.{type_entry_falls}
use Rattle.kola_canon.proofs.EncodingLoops.{one_more_type}
use Rattle.kola_canon.proofs.encoding.+encode_type.Goals as goal

pub encode_field_types-encode_type-requires : goal.encode_field_types-encode_type-requires
encode_field_types-encode_type-requires t c =
    let h = type_entry_falls c.args.fields.now (map type_entry c.args.fields.now) (length c.args.fields.now - 1) c.index-fields-left.result refl (omega arith) c.index-fields-left.is in
    let k = ap (λ f. type_weight (type_tree f.1)) c.index-fields-left.is in
    (omega (arith, h, k, c.decreases), tt)

pub encode_field_types-encode_type-requires-in-loop-left : goal.encode_field_types-encode_type-requires-in-loop-left
encode_field_types-encode_type-requires-in-loop-left t c =
    let h = type_entry_falls c.args.fields.now (map type_entry c.args.fields.now) (c.loop-left.left - 1) c.index-fields-left-in-loop-left.result refl (omega (arith, c.loop-left.invariant.0)) c.index-fields-left-in-loop-left.is in
    let k = ap (λ f. type_weight (type_tree f.1)) c.index-fields-left-in-loop-left.is in
    (omega (arith, h, k, c.decreases), tt)

pub encode_field_types-loop-left-preserved : goal.encode_field_types-loop-left-preserved
encode_field_types-loop-left-preserved t c =
    let us = map type_entry c.args.fields.now in
    let n : c.loop-left.left - 1 + 1 ≡ c.loop-left.left = omega arith in (
      omega (arith, c.loop-left.invariant.0),
      c.in_ok-all-2.ensures
          ∙ ap₂ TPair (c.in_ok-first.ensures ∙ sym (ap (λ f. enc_type (type_tree f.1)) c.index-fields-left-in-loop-left.is)) (c.loop-left.invariant.1 ∙ ap (λ i. enc_field_types (of_type_fields (drop i us))) (sym n))
          ∙ sym (one_more_type c.args.fields.now us (c.loop-left.left - 1) c.index-fields-left-in-loop-left.result refl (omega (arith, c.loop-left.invariant.0)) c.index-fields-left-in-loop-left.is),
    )

pub encode_field_types-returns : goal.encode_field_types-returns
encode_field_types-returns t c =
    let us = map type_entry c.args.fields.now in
    let n : c.loop-left.left ≡ 0 = omega arith in
    c.loop-left.invariant.1 ∙ ap (λ i. enc_field_types (of_type_fields (drop i us))) n
