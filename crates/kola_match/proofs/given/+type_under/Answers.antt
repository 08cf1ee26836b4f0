use Rattle.std.proofs.Common.{◌++◌, ◌∷◌, [], map, refl, sym, ap, ◌∙◌, arith}
use Rattle.std.proofs.lemmas.List.{take_all, length-map}
use Rattle.kola_core.proofs.Lists.{taken_more}
use Rattle.kola_core.specs.declared.name.Name.{Name}
use Rattle.kola_values.specs.Types.{of_type_fields}
use Rattle.kola_values.specs.declared.ty.Ty.{Ty}
use Rattle.kola_values.specs.Views.{type_entry}
use Rattle.kola_values.proofs.Loops.{type_entry_falls}
use Rattle.kola_match.specs.Binds.{substitution_of}
use Rattle.kola_match.specs.FoundViews.{binds_of}
use Rattle.kola_match.proofs.GivingLaws.{field_under, fields_given}
use Rattle.kola_match.proofs.given.+type_under.Goals as goal

pub fields_under-type_under-requires : goal.fields_under-type_under-requires
fields_under-type_under-requires t c =
    (omega (arith, type_entry_falls c.args.fields.now (map type_entry c.args.fields.now) c.loop-label.label-index c.loop-label-item.result refl c.loop-label-test.true c.loop-label-item.is, c.decreases), tt)

pub fields_under-loop-label-preserved : goal.fields_under-loop-label-preserved
fields_under-loop-label-preserved t c =
    let v = λ (x : Name × Ty). field_under (substitution_of (binds_of c.args.found.now)) (type_entry x) in
    c.in_ok-push.ensures.ok
    ∙ (λ j. c.loop-label.invariant j ++ (c.in_ok-label.ensures j, c.in_ok-t.ensures j) ∷ [])
    ∙ sym (taken_more v c.args.fields.now (map v c.args.fields.now) c.loop-label.label-index c.loop-label-item.result refl c.loop-label-test.true c.loop-label-item.is)

pub fields_under-returns : goal.fields_under-returns
fields_under-returns t c =
    let s = substitution_of (binds_of c.args.found.now) in
    let v = λ (x : Name × Ty). field_under s (type_entry x) in
    let k = length-map c.args.fields.now v in
    ap of_type_fields (c.loop-label.invariant ∙ take_all c.loop-label.label-index (map v c.args.fields.now) (omega (arith, k, c.loop-label-test.false))) ∙ fields_given s c.args.fields.now
