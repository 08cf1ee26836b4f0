use Rattle.std.proofs.Common.{◌≡◌, true, false, refl, map, sym, ap, ◌∙◌, subst, option_map}
use Rattle.kola_values.specs.Views.{type_tree}
use Rattle.kola_term.specs.ContextView.{context_of}
use Rattle.kola_term.specs.TermView.{term_tree}
use Rattle.kola_rule.specs.RuleViews.{rule_tree, rule_at, step_tree}
use Rattle.kola_match.specs.RuleOk.{RuleOk}
use Rattle.kola_proof.specs.Checks.{IsInputAt}
use Rattle.kola_proof.specs.Steps.{unknown_law, step_ill_typed}
use Rattle.kola_proof.proofs.ByLaw.{fits_on, fits_back}
use Rattle.kola_proof.proofs.Checked.{each_named}
use Rattle.kola_proof.proofs.StepLaws.{step_is, input_fault}
use Rattle.kola_proof.proofs.step.check_step.Goals as goal

pub returns-in_default : goal.returns-in_default
returns-in_default c = unknown_law (sym c.rule_named.ensures ∙ ap (option_map rule_at) c.in_default.is)

pub returns-in-Err : goal.returns-in-Err
returns-in-Err c =
    input_fault c.args.schema.now (map rule_tree c.args.rules.now) (rule_tree c.args.rule.now) (rule_tree c.in-Some.law.now) (term_tree c.args.before.now) (step_tree c.args.step.now) (sym c.rule_named.ensures ∙ ap (option_map rule_at) c.in-Some.is) c.in-Err.fault
    (subst (λ r. IsInputAt c.args.schema.now (context_of c.args.rule.now.vars) (type_tree c.args.rule.now.input) (term_tree c.args.before.now) c.args.step.now.path r) c.in-Err.is c.place_input.ensures) _ refl

pub returns-then-not-branch : goal.returns-then-not-branch
returns-then-not-branch c =
    let i = subst (λ r. IsInputAt c.args.schema.now (context_of c.args.rule.now.vars) (type_tree c.args.rule.now.input) (term_tree c.args.before.now) c.args.step.now.path r) c.in-Ok.is c.place_input.ensures in
    step_ill_typed (rule_tree c.in-Some.law.now) (sym c.rule_named.ensures ∙ ap (option_map rule_at) c.in-Some.is) i.1
    (λ h. let k : true ≡ false = sym (c.in_ok-sides_fit.ensures.1 (fits_back c.args.schema.now (context_of c.args.rule.now.vars) (type_tree c.args.rule.now.input) (term_tree c.args.rule.now.left) (term_tree c.args.before.now) (term_tree c.args.step.now.term) c.requires.fits h)) ∙ c.if-not-branch.true in cc)

pub check_instance-requires-clause-law : goal.check_instance-requires-clause-law
check_instance-requires-clause-law c = each_named (RuleOk c.args.schema.now) (map rule_tree c.args.rules.now) c.args.step.now.law (rule_tree c.in-Some.law.now) c.requires.rules (sym c.rule_named.ensures ∙ ap (option_map rule_at) c.in-Some.is)

pub returns : goal.returns
returns c =
    let i = subst (λ r. IsInputAt c.args.schema.now (context_of c.args.rule.now.vars) (type_tree c.args.rule.now.input) (term_tree c.args.before.now) c.args.step.now.path r) c.in-Ok.is c.place_input.ensures in
    step_is c.args.schema.now (map rule_tree c.args.rules.now) (rule_tree c.args.rule.now) (rule_tree c.in-Some.law.now) (term_tree c.args.before.now) (step_tree c.args.step.now) (sym c.rule_named.ensures ∙ ap (option_map rule_at) c.in-Some.is) i.1
    (fits_on c.args.schema.now (context_of c.args.rule.now.vars) (type_tree c.args.rule.now.input) (term_tree c.args.rule.now.left) (term_tree c.args.before.now) (term_tree c.args.step.now.term) c.requires.fits (c.in_ok-sides_fit.ensures.0 c.if-not-branch.false))
    c.check_instance.result c.check_instance.ensures
