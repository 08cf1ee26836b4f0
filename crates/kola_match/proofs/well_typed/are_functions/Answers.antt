use Rattle.std.proofs.Common.{◌≡◌, ◌<◌, length, get_or, sym, subst}
use Rattle.kola_values.specs.Databases.{look_up}
use Rattle.kola_term.specs.ContextView.{context_of}
use Rattle.kola_match.specs.RuleOk.{IsFunction}
use Rattle.kola_match.proofs.RuleLaws.{one_more}
use Rattle.kola_match.proofs.well_typed.are_functions.Goals as goal

pub loop-name-preserved : goal.loop-name-preserved
loop-name-preserved c =
    let p = subst (λ z. c.loop-name.name-index < length z) c.as_slice-name-items.ensures c.loop-name-test.true in
    let e = subst (λ z. c.name-item.result ≡ get_or z c.loop-name.name-index c.name-item.result) c.as_slice-name-items.ensures c.name-item.is in
    one_more (λ n. IsFunction (look_up n (context_of c.args.vars.now))) c.args.names.now c.loop-name.name-index c.name-item.result p (sym e) (c.is_function.ensures.0 c.if-not-is_function.false) c.loop-name.invariant
