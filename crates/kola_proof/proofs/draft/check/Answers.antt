use Rattle.std.proofs.Common.{◌≡◌, true, false, map, sym, ap, ◌∙◌, subst, option_map}
use Rattle.kola_term.specs.TermView.{term_tree}
use Rattle.kola_rule.specs.RuleViews.{rule_tree, rule_at, step_tree, draft_tree}
use Rattle.kola_proof.specs.Checks.{AreSteps}
use Rattle.kola_proof.specs.Drafts.{name_taken, rule_ill_typed, first_is_not_left}
use Rattle.kola_proof.proofs.StepLaws.{check_is}
use Rattle.kola_proof.proofs.draft.check.Goals as goal

pub returns-in-Some : goal.returns-in-Some
returns-in-Some c = name_taken (rule_tree c.in-Some.field-0.now) (sym c.rule_named.ensures ∙ ap (option_map rule_at) c.in-Some.is)

pub returns-then-not-branch : goal.returns-then-not-branch
returns-then-not-branch c = rule_ill_typed (sym c.rule_named.ensures ∙ ap (option_map rule_at) c.in_default.is) (λ h. let k : true ≡ false = sym (c.in_ok-rule_ok.ensures.1 h) ∙ c.if-not-branch.true in cc)

pub returns-then-not-same_term : goal.returns-then-not-same_term
returns-then-not-same_term c = first_is_not_left (sym c.rule_named.ensures ∙ ap (option_map rule_at) c.in_default.is) (c.in_ok-rule_ok.ensures.0 c.if-not-branch.false) (λ h. let k : true ≡ false = sym (c.same_term.ensures.1 h) ∙ c.if-not-same_term.true in cc)

pub returns : goal.returns
returns c =
    check_is c.args.schema.now (map rule_tree c.args.rules.now) (draft_tree c.args.draft.now) (sym c.rule_named.ensures ∙ ap (option_map rule_at) c.in_default.is) (c.in_ok-rule_ok.ensures.0 c.if-not-branch.false) (c.same_term.ensures.0 c.if-not-same_term.false) c.check_steps.result
    (subst (λ l. AreSteps c.args.schema.now (map rule_tree c.args.rules.now) (rule_tree c.args.draft.now.rule) (term_tree c.args.draft.now.first) (map step_tree l) c.check_steps.result) c.as_slice.ensures c.check_steps.ensures)
