use Rattle.std.proofs.Common.{◌≡◌, ℕ, ◌+◌, true, false, map, drop, length, refl, sym, ◌∙◌, subst, arith}
use Rattle.std.proofs.lemmas.List.{drop_all}
use Rattle.kola_core.proofs.Lists.{left_less, length_seen}
use Rattle.kola_term.specs.TermView.{term_tree}
use Rattle.kola_rule.specs.RuleViews.{rule_tree, step_tree}
use Rattle.kola_proof.specs.Checks.{IsStep}
use Rattle.kola_proof.specs.Drafts.{StepsBad}
use Rattle.kola_proof.specs.declared.fault.StepWhy.TheVariants as why
use Rattle.kola_proof.proofs.StepLaws.{Underway, underway_on, underway_end, underway_last, numbered_fault}
use Rattle.kola_proof.proofs.draft.check_steps.Goals as goal

pub returns-in-Err : goal.returns-in-Err
returns-in-Err c =
    let S = c.args.schema.now in
    let rs = map rule_tree c.args.rules.now in
    let all = map step_tree c.args.steps.now in
    let i = c.loop-i.i in
    let e = left_less step_tree c.args.steps.now all i c.index-steps-i.result refl c.loop-i-test.true c.index-steps-i.is in
    let u = subst (λ l. Underway S rs (rule_tree c.args.rule.now) (term_tree c.args.first.now) all (term_tree c.loop-i.before.now) i l) e c.loop-i.invariant in
    numbered_fault S rs (rule_tree c.args.rule.now) (term_tree c.args.first.now) all (term_tree c.loop-i.before.now) i (step_tree c.index-steps-i.result) (drop (i + 1) all) u c.in-Err.fault c.check_step.result c.in-Err.is c.check_step.ensures _ c.numbered.result refl c.numbered.ensures

pub loop-i-preserved : goal.loop-i-preserved
loop-i-preserved c =
    let S = c.args.schema.now in
    let rs = map rule_tree c.args.rules.now in
    let all = map step_tree c.args.steps.now in
    let i = c.loop-i.i in
    let e = left_less step_tree c.args.steps.now all i c.index-steps-i.result refl c.loop-i-test.true c.index-steps-i.is in
    let u = subst (λ l. Underway S rs (rule_tree c.args.rule.now) (term_tree c.args.first.now) all (term_tree c.loop-i.before.now) i l) e c.loop-i.invariant in
    underway_on S rs (rule_tree c.args.rule.now) (term_tree c.args.first.now) all (term_tree c.loop-i.before.now) i (step_tree c.index-steps-i.result) (drop (i + 1) all) u
    (subst (λ r. IsStep S rs (rule_tree c.args.rule.now) (term_tree c.loop-i.before.now) (step_tree c.index-steps-i.result) r) c.in_default.is c.check_step.ensures)

pub returns-then-same_term : goal.returns-then-same_term
returns-then-same_term c =
    let S = c.args.schema.now in
    let rs = map rule_tree c.args.rules.now in
    let all = map step_tree c.args.steps.now in
    let n = length_seen step_tree c.args.steps.now all refl in
    let e = drop_all c.loop-i.i all (omega (arith, n, c.loop-i-test.false)) in
    let u = subst (λ l. Underway S rs (rule_tree c.args.rule.now) (term_tree c.args.first.now) all (term_tree c.loop-i.before.now) c.loop-i.i l) e c.loop-i.invariant in
    underway_end S rs (rule_tree c.args.rule.now) (term_tree c.args.first.now) all (term_tree c.loop-i.before.now) c.loop-i.i u (c.same_term.ensures.0 c.if-same_term.true)

pub returns-else-same_term : goal.returns-else-same_term
returns-else-same_term c =
    let S = c.args.schema.now in
    let rs = map rule_tree c.args.rules.now in
    let all = map step_tree c.args.steps.now in
    let n = length_seen step_tree c.args.steps.now all refl in
    let e = drop_all c.loop-i.i all (omega (arith, n, c.loop-i-test.false)) in
    let u = subst (λ l. Underway S rs (rule_tree c.args.rule.now) (term_tree c.args.first.now) all (term_tree c.loop-i.before.now) c.loop-i.i l) e c.loop-i.invariant in
    let at : c.loop-i.i ≡ length c.args.steps.now = omega (arith, n, c.loop-i-test.false, c.loop-i.auto.i-end) in
    subst (λ (j : ℕ). StepsBad S rs (rule_tree c.args.rule.now) (term_tree c.args.first.now) 0 all j why.LastIsNotRight) at
    (underway_last S rs (rule_tree c.args.rule.now) (term_tree c.args.first.now) all (term_tree c.loop-i.before.now) c.loop-i.i u (λ h. let k : true ≡ false = sym (c.same_term.ensures.1 h) ∙ c.if-same_term.false in cc))
