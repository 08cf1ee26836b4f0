use Rattle.std.proofs.Common.{sym, subst}
use Rattle.kola_top.specs.StageLine.{at_query_text}
use Rattle.kola_top.specs.Refusals.{Refuses, IsOf}
use Rattle.kola_top.proofs.StageLaws.{handed_pass, query_refused}
use Rattle.kola_top.proofs.asked.query_of.Goals as goal

pub returns-in_err-query : goal.returns-in_err-query
returns-in_err-query c =
    let text = c.args.text.now in
    handed_pass (at_query_text text) _ c.from_residual.result _ c.from_residual.ensures.1
    (λ e i. subst (Refuses (IsOf (at_query_text text))) (sym i) (query_refused text c.in_err-query.field-0.0 c.in_err-query.ensures.fault))
