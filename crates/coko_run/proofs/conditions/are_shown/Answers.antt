use Rattle.std.proofs.Common.{[], ◌≡◌, ◌<◌, length, get_or, sym, ◌∙◌, subst}
use Rattle.kola_values.specs.Databases.{look_up}
use Rattle.kola_term.specs.ContextView.{context_of}
use Rattle.kola_match.specs.Binds.{substitution_of}
use Rattle.kola_match.specs.SubstViews.{found_binds}
use Rattle.kola_match.proofs.RuleLaws.{one_more, at_place}
use Rattle.kola_proof.specs.Steps.{ShownAt}
use Rattle.coko_run.proofs.conditions.are_shown.Goals as goal

pub returns-then-not-branch : goal.returns-then-not-branch
returns-then-not-branch c =
    let us = c.args.rule.now.when in
    let i = c.loop-name.name-index in
    let x = c.name-item.result in
    let p = subst (λ z. i < length z) c.as_slice-name-items.ensures c.loop-name-test.true in
    let e = subst (λ z. x ≡ get_or z i x) c.as_slice-name-items.ensures c.name-item.is in
    (λ k. absurd (cc), λ h. sym c.if-not-branch.true ∙ c.in_ok-is_condition_shown.ensures.1 (at_place (λ n. ShownAt c.args.schema.now [] [] (substitution_of (found_binds c.args.s.now)) n (look_up n (context_of c.args.rule.now.vars))) us i x p (sym e) h))

pub loop-name-preserved : goal.loop-name-preserved
loop-name-preserved c =
    let us = c.args.rule.now.when in
    let i = c.loop-name.name-index in
    let x = c.name-item.result in
    let p = subst (λ z. i < length z) c.as_slice-name-items.ensures c.loop-name-test.true in
    let e = subst (λ z. x ≡ get_or z i x) c.as_slice-name-items.ensures c.name-item.is in
    one_more (λ n. ShownAt c.args.schema.now [] [] (substitution_of (found_binds c.args.s.now)) n (look_up n (context_of c.args.rule.now.vars))) us i x p (sym e) (c.in_ok-is_condition_shown.ensures.0 c.if-not-branch.false) c.loop-name.invariant
