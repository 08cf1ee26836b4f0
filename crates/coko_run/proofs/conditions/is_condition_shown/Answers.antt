use Rattle.std.proofs.Common.{[], ◌≡◌, ◌↔◌, true, Some, None, refl, subst}
use Rattle.std.specs.Prelude.{IfOk}
use Rattle.kola_match.specs.Binds.{substitution_of}
use Rattle.kola_match.specs.SubstViews.{found_binds}
use Rattle.kola_match.proofs.RuleLaws.{declared_as}
use Rattle.kola_proof.specs.Steps.{ShownAt}
use Rattle.coko_run.proofs.conditions.is_condition_shown.Goals as goal

pub returns-in-Some : goal.returns-in-Some
returns-in-Some c =
    subst (λ z. IfOk c.is_shown_where_function.result (λ b. (b ≡ true) ↔ ShownAt c.args.schema.now [] [] (substitution_of (found_binds c.args.s.now)) c.args.name.now z))
    (declared_as c.as_slice.result.now c.args.rule.now.vars c.args.name.now c.entry_named.result (Some c.in-Some.entry) c.entry_named.ensures c.as_slice.ensures c.in-Some.is) c.is_shown_where_function.ensures

pub returns-in-None : goal.returns-in-None
returns-in-None c =
    let e = declared_as c.as_slice.result.now c.args.rule.now.vars c.args.name.now c.entry_named.result None c.entry_named.ensures c.as_slice.ensures c.in-None.is in
    (λ _. subst (λ z. ShownAt c.args.schema.now [] [] (substitution_of (found_binds c.args.s.now)) c.args.name.now z) e tt, λ _. refl)
