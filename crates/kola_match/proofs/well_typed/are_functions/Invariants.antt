use Rattle.kola_values.specs.Databases.{look_up}
use Rattle.kola_term.specs.ContextView.{context_of}
use Rattle.kola_match.specs.RuleOk.{IsFunction}
use Rattle.kola_match.proofs.RuleLaws.{AllFrom}
use Rattle.kola_match.proofs.well_typed.are_functions.Given as goal

abbrev pub invariant-loop-name : goal.invariant-loop-name
invariant-loop-name l = AllFrom (λ n. IsFunction (look_up n (context_of l.vars))) l.names l.name-index
