use Rattle.std.proofs.Common.{map, drop}
use Rattle.kola_term.specs.TermView.{term_tree}
use Rattle.kola_rule.specs.RuleViews.{rule_tree, step_tree}
use Rattle.kola_proof.proofs.StepLaws.{Underway}
use Rattle.kola_proof.proofs.draft.check_steps.Given as goal

abbrev pub invariant-loop-i : goal.invariant-loop-i
invariant-loop-i l = Underway l.schema (map rule_tree l.rules) (rule_tree l.rule) (term_tree l.first) (map step_tree l.steps) (term_tree l.before) l.i (drop l.i (map step_tree l.steps))
