use Rattle.std.proofs.Common.{map, take, sym, ap, ◌∙◌, ◌++◌, [], ◌∷◌, arith}
use Rattle.std.proofs.lemmas.List.{map_push, take_all}
use Rattle.kola_core.proofs.Lists.{taken_more, length_seen}
use Rattle.kola_values.specs.Types.{of_type_fields}
use Rattle.kola_values.specs.Views.{type_entry}
use Rattle.kola_values.proofs.Loops.{type_entry_falls}
use Rattle.kola_match.specs.Binds.{substitution_of}
use Rattle.kola_match.specs.SubstViews.{found_binds}
use Rattle.kola_match.proofs.FieldsUnder.{sub_entry, fields_made}
use Rattle.kola_match.proofs.types.+types.Goals as goal

pub fields_under-instantiate_type-requires : goal.fields_under-instantiate_type-requires
fields_under-instantiate_type-requires t c =
    let h = type_entry_falls c.as_slice-label-items.result.now c.args.fields.now c.loop-label.label-index c.loop-label-item.result c.as_slice-label-items.ensures c.loop-label-test.true c.loop-label-item.is in
    (omega (arith, h, c.decreases), tt)

pub fields_under-loop-label-preserved : goal.fields_under-loop-label-preserved
fields_under-loop-label-preserved t c =
    let us = c.args.fields.now in
    let s = (substitution_of (found_binds c.args.s.now)).types in
    c.in_ok-push.ensures.ok
    ∙ (λ j. c.loop-label.invariant j ++ (c.in_ok-label.ensures j, c.in_ok-t.ensures j) ∷ [])
    ∙ sym (ap (map (sub_entry s)) (taken_more type_entry c.as_slice-label-items.result.now us c.loop-label.label-index c.loop-label-item.result c.as_slice-label-items.ensures c.loop-label-test.true c.loop-label-item.is)
    ∙ map_push (sub_entry s) (take c.loop-label.label-index us) (type_entry c.loop-label-item.result))

pub fields_under-returns : goal.fields_under-returns
fields_under-returns t c =
    let us = c.args.fields.now in
    let s = (substitution_of (found_binds c.args.s.now)).types in
    let n = length_seen type_entry c.as_slice-label-items.result.now us c.as_slice-label-items.ensures in
    ap of_type_fields (c.loop-label.invariant ∙ ap (map (sub_entry s)) (take_all c.loop-label.label-index us (omega (arith, n, c.loop-label-test.false)))) ∙ fields_made s us
