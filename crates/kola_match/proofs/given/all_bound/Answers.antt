use Rattle.std.proofs.Common.{◌≡◌, ◌<◌, ◌++◌, ◌∷◌, [], map, length, get_or, sym, ap, ◌∙◌, subst}
use Rattle.std.proofs.lemmas.List.{map_push}
use Rattle.kola_core.proofs.Lists.{taken_more}
use Rattle.kola_term.specs.ContextView.{context_of, meta_entry}
use Rattle.kola_match.specs.Binds.{substitution_of}
use Rattle.kola_match.specs.FoundViews.{binds_of}
use Rattle.kola_match.specs.Giving.{given, given_entry}
use Rattle.kola_match.specs.SubstViews.{bound_entry}
use Rattle.kola_match.proofs.GivingLaws.{given_seen}
use Rattle.kola_match.proofs.given.all_bound.Goals as goal

pub loop-name-preserved : goal.loop-name-preserved
loop-name-preserved c =
    let s = substitution_of (binds_of c.args.found.now) in
    let ms = c.args.vars.now in
    let i = c.loop-name.name-index in
    let m = c.loop-name-item.result in
    let p = subst (λ z. i < length z) c.as_slice-name-items.ensures c.loop-name-test.true in
    let e = subst (λ z. m ≡ get_or z i m) c.as_slice-name-items.ensures c.loop-name-item.is in
    ap (map bound_entry) c.in_ok-push.ensures.ok
    ∙ map_push bound_entry c.loop-name.all c.in_ok-bound_variable.field-0
    ∙ (λ j. c.loop-name.invariant j ++ c.in_ok-bound_variable.ensures j ∷ [])
    ∙ sym (taken_more (λ x. given_entry s (meta_entry x)) ms (given s (context_of ms)) i m (given_seen s ms) p e)
