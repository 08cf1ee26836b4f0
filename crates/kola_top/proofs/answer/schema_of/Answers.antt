use Rattle.std.proofs.Common.{sym, subst}
use Rattle.kola_top.specs.StageLine.{at_schema}
use Rattle.kola_top.specs.Refusals.{Refuses, IsOf}
use Rattle.kola_top.proofs.StageLaws.{handed_pass, schema_refused}
use Rattle.kola_top.proofs.answer.schema_of.Goals as goal

pub returns-in_err-schema : goal.returns-in_err-schema
returns-in_err-schema c =
    let text = c.args.text.now in
    handed_pass (at_schema text) _ c.from_residual.result _ c.from_residual.ensures.1
    (λ e i. subst (Refuses (IsOf (at_schema text))) (sym i) (schema_refused text c.in_err-schema.field-0.0 c.in_err-schema.ensures.fault))
