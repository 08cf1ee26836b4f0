use Rattle.kola_term.specs.ContextView.{context_of}
use Rattle.kola_term.specs.TermView.{term_tree}
use Rattle.kola_match.specs.RuleChecks.{OccursOnASide}
use Rattle.kola_match.proofs.RuleLaws.{AllFrom}
use Rattle.kola_match.proofs.well_typed.all_occur.Given as goal

abbrev pub invariant-loop-name : goal.invariant-loop-name
invariant-loop-name l = AllFrom (OccursOnASide (term_tree l.left) (term_tree l.right)) (context_of l.vars) l.name-index
