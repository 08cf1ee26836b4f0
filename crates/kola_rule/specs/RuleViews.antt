-- The plain trees of the program's rules, steps and drafts.
use Rattle.std.specs.Prelude.{map}
use Rattle.std.specs.Borrow.{Bor}
use Rattle.kola_values.specs.Views.{type_tree}
use Rattle.kola_term.specs.TermView.{term_tree}
use Rattle.kola_term.specs.ContextView.{context_of}
use Rattle.kola_rule.specs.Rules.{RuleTree, StepTree, DraftTree}
use Rattle.kola_rule.specs.declared.rule.Rule.{Rule}
use Rattle.kola_rule.specs.declared.rule.Step.{Step}
use Rattle.kola_rule.specs.declared.rule.Draft.{Draft}

abbrev pub rule_tree : Rule → RuleTree
rule_tree r = record { name = r.name; vars = context_of r.vars; input = type_tree r.input; when = r.when; left = term_tree r.left; right = term_tree r.right }

-- the same behind a reference
abbrev pub rule_at : Bor Rule → RuleTree
rule_at r = rule_tree r.now

abbrev pub step_tree : Step → StepTree
step_tree s = record { term = term_tree s.term; law = s.law; rev = s.rev; path = s.path }

abbrev pub draft_tree : Draft → DraftTree
draft_tree d = record { rule = rule_tree d.rule; first = term_tree d.first; steps = map step_tree d.steps }
