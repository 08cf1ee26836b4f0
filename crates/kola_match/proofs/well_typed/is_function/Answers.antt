use Rattle.std.proofs.Common.{◌≡◌, ◌↔◌, true, Some, None, sym, subst}
use Rattle.kola_match.specs.RuleOk.{IsFunction}
use Rattle.kola_match.proofs.RuleLaws.{declared_as}
use Rattle.kola_match.proofs.well_typed.is_function.Goals as goal

pub returns-in-Some : goal.returns-in-Some
returns-in-Some c = subst (λ z. (c.is_function_type.result ≡ true) ↔ IsFunction z) (declared_as c.as_slice.result.now c.args.vars.now c.args.name.now c.entry_named.result (Some c.in-Some.entry) c.entry_named.ensures c.as_slice.ensures c.in-Some.is) c.is_function_type.ensures

pub returns-in-None : goal.returns-in-None
returns-in-None c =
    let e = declared_as c.as_slice.result.now c.args.vars.now c.args.name.now c.entry_named.result None c.entry_named.ensures c.as_slice.ensures c.in-None.is in
    (λ k. absurd (cc), λ h. absurd (subst IsFunction (sym e) h))
