use Rattle.std.specs.Prelude.{[]}
use Rattle.kola_values.specs.Databases.{look_up}
use Rattle.kola_term.specs.ContextView.{context_of}
use Rattle.kola_match.specs.Binds.{substitution_of}
use Rattle.kola_match.specs.SubstViews.{found_binds}
use Rattle.kola_match.proofs.RuleLaws.{AllFrom}
use Rattle.kola_proof.specs.Steps.{ShownAt}
use Rattle.coko_run.proofs.conditions.are_shown.Given as goal

abbrev pub invariant-loop-name : goal.invariant-loop-name
invariant-loop-name l = AllFrom (λ n. ShownAt l.schema [] [] (substitution_of (found_binds l.s)) n (look_up n (context_of l.rule.vars))) l.rule.when l.name-index
