use Rattle.std.proofs.Common.{sym, subst}
use Rattle.oql_tree.specs.QueryViews.{query_tree}
use Rattle.oql_check.specs.CheckAnswers.{FaultOf}
use Rattle.kola_top.specs.StageLine.{at_query_type}
use Rattle.kola_top.specs.Refusals.{Refuses, IsOf}
use Rattle.kola_top.proofs.StageLaws.{type_refused}
use Rattle.kola_top.proofs.asked.typed_of.Goals as goal

pub returns-in-Err-clause-answer : goal.returns-in-Err-clause-answer
returns-in-Err-clause-answer c =
    let S = c.args.schema.now in
    let q = query_tree c.args.query.value in
    subst (Refuses (IsOf (at_query_type S q))) (sym c.from.ensures) (type_refused S q c.in-Err.fault
    (subst (λ v. FaultOf S (query_tree v) c.in-Err.fault) c.into_inner.ensures c.in-Err.ensures.1))
