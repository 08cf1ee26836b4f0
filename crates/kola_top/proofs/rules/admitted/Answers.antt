use Rattle.std.proofs.Common.{Err, map, length, sym, ap, ◌∙◌, subst}
use Rattle.kola_rule.specs.RuleViews.{rule_tree, draft_tree}
use Rattle.kola_proof.specs.Accepting.{IsFileVerdict}
use Rattle.kola_proof.specs.Drafts.{AreValid}
use Rattle.kola_top.specs.StageLine.{at_rules}
use Rattle.kola_top.specs.Refusals.{Refuses, IsOf}
use Rattle.kola_top.proofs.RuleLines.{names_added}
use Rattle.kola_top.proofs.StageLaws.{handed_pass, file_refused}
use Rattle.kola_top.proofs.rules.admitted.Goals as goal

pub returns-in_err-accepted-clause-answer : goal.returns-in_err-accepted-clause-answer
returns-in_err-accepted-clause-answer c =
    let g = at_rules c.args.schema.value (map draft_tree c.args.drafts) in
    handed_pass g _ c.from_residual.result _ c.from_residual.ensures.1 (λ e i. subst (Refuses (IsOf g)) (sym (i ∙ c.in_err-accepted.ensures.wanted)) tt)

pub returns-in_err-admit_all-clause-answer : goal.returns-in_err-admit_all-clause-answer
returns-in_err-admit_all-clause-answer c =
    let S = c.args.schema.value in
    let ds = map draft_tree c.args.drafts in
    let g = at_rules S ds in
    let f = c.in_err-admit_all.field-0.0 in
    handed_pass g _ c.from_residual-in_err-admit_all.result _ c.from_residual-in_err-admit_all.ensures.1
    (λ e i. subst (Refuses (IsOf g)) (sym i) (file_refused S ds f
    (subst (λ rs. IsFileVerdict {A = Unit {0}} S rs ds (Err f)) c.in_ok-accepted.ensures.laws
    (subst (λ z. IsFileVerdict {A = Unit {0}} z (map rule_tree c.in_ok-accepted.accepted.rules) ds (Err f)) c.in_ok-accepted.ensures.schema c.in_err-admit_all.ensures.verdict))))

pub returns-clause-answer : goal.returns-clause-answer
returns-clause-answer c =
    let ds = map draft_tree c.args.drafts in
    subst (λ rs. AreValid c.args.schema.value rs ds) c.in_ok-accepted.ensures.laws
    (subst (λ z. AreValid z (map rule_tree c.in_ok-accepted.accepted.rules) ds) c.in_ok-accepted.ensures.schema c.in_ok-admit_all.ensures.verdict.0)

pub returns-clause-names : goal.returns-clause-names
returns-clause-names c =
    names_added c.in_ok-accepted.accepted.rules c.in_ok-accepted-2.accepted.value.rules c.args.drafts c.len-laws.result
    (c.len-laws.ensures ∙ ap length c.rules.ensures) (ap (λ a. a.rules) c.in_ok-accepted-2.ensures.ok ∙ c.in_ok-admit_all.ensures.all)
