use Rattle.std.proofs.Common.{◌≡◌, Err, map, subst}
use Rattle.kola_rule.specs.RuleViews.{rule_tree, draft_tree}
use Rattle.kola_match.specs.Holding.{Holds}
use Rattle.kola_proof.specs.Accepting.{Accepted, IsVerdict}
use Rattle.kola_proof.specs.Checks.{IsCheck}
use Rattle.kola_proof.specs.Drafts.{Valid, FirstBad}
use Rattle.kola_proof.specs.declared.fault.CheckFault.TheVariants as check
use Rattle.kola_proof.proofs.Checked.{proved_rules_hold}
use Rattle.kola_proof.proofs.Faults.{draft_not_both}
use Rattle.kola_proof.proofs.Kept.{either_accepted, added_verdict, on_ok}
use Rattle.kola_proof.proofs.accepted.Accepted.admit.Goals as goal

pub invariant_of-self : goal.invariant_of-self
invariant_of-self c =
    let S = c.self.inside.schema in
    let rs = map rule_tree c.self.inside.rules in
    let v = subst (λ r. IsCheck S rs (draft_tree c.args.draft) r) c.in-Ok.is c.check.ensures in
    either_accepted S c.self.inside.rules c.add.new.rules c.args.draft.rule c.add.result c.add.ensures.ok c.add.ensures.err c.self.invariant v.well_typed (proved_rules_hold S c.well_formed-2.ensures rs (draft_tree c.args.draft) c.self.invariant.hold v)

pub returns-in-Ok-clause-verdict : goal.returns-in-Ok-clause-verdict
returns-in-Ok-clause-verdict c =
    let S = c.self.inside.schema in
    let rs = map rule_tree c.self.inside.rules in
    let v = subst (λ r. IsCheck S rs (draft_tree c.args.draft) r) c.in-Ok.is c.check.ensures in
    subst (λ (a : Accepted). IsVerdict a.schema (map rule_tree a.rules) (draft_tree c.args.draft) c.add.result) c.self.view_is
    (added_verdict S rs (draft_tree c.args.draft) c.args.draft c.add.result c.add.ensures.handed_back v (λ n y b. draft_not_both S rs (draft_tree c.args.draft) v b))

pub returns-in-Ok-clause-holds : goal.returns-in-Ok-clause-holds
returns-in-Ok-clause-holds c =
    let S = c.self.inside.schema in
    let rs = map rule_tree c.self.inside.rules in
    let v = subst (λ r. IsCheck S rs (draft_tree c.args.draft) r) c.in-Ok.is c.check.ensures in
    on_ok _ c.add.result (subst (λ (a : Accepted). Holds a.schema (rule_tree c.args.draft.rule)) c.self.view_is (proved_rules_hold S c.well_formed-2.ensures rs (draft_tree c.args.draft) c.self.invariant.hold v))

pub returns-in-Err-At-clause-verdict : goal.returns-in-Err-At-clause-verdict
returns-in-Err-At-clause-verdict c =
    let S = c.self.inside.schema in
    let rs = map rule_tree c.self.inside.rules in
    let h = c.in-Err-At.is in
    let k = c.in-Err-At.field-0-is in
    let e : c.check.result ≡ Err (check.At c.in-Err-At.step c.in-Err-At.why) = cc in
    let b = subst (λ r. IsCheck S rs (draft_tree c.args.draft) r) e c.check.ensures in
    subst (λ (a : Accepted). FirstBad a.schema (map rule_tree a.rules) (draft_tree c.args.draft) c.in-Err-At.step c.in-Err-At.why × (Valid a.schema (map rule_tree a.rules) (draft_tree c.args.draft) → ⊥)) c.self.view_is
    (b, λ v. draft_not_both S rs (draft_tree c.args.draft) v b)
