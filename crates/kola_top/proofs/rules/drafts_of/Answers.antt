use Rattle.std.proofs.Common.{sym, subst}
use Rattle.kola_top.specs.StageLine.{at_rules_text}
use Rattle.kola_top.specs.Refusals.{Refuses, IsOf}
use Rattle.kola_top.proofs.StageLaws.{handed_pass, rules_refused}
use Rattle.kola_top.proofs.rules.drafts_of.Goals as goal

pub returns-in_err-file : goal.returns-in_err-file
returns-in_err-file c =
    let text = c.args.text.now in
    handed_pass (at_rules_text text) _ c.from_residual.result _ c.from_residual.ensures.1
    (λ e i. subst (Refuses (IsOf (at_rules_text text))) (sym i) (rules_refused text c.in_err-file.field-0.0 c.in_err-file.ensures.fault))
