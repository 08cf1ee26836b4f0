use Rattle.kola_values.specs.Views.{type_tree}
use Rattle.kola_term.specs.ContextView.{context_of}
use Rattle.kola_match.specs.FoundViews.{binds_of}
use Rattle.kola_match.specs.Spotting.{sides_of}
use Rattle.kola_match.proofs.SpottingLaws.{FindsFirst}
use Rattle.kola_match.proofs.declared.match_all_declared.Given as goal

abbrev pub invariant-loop-name : goal.invariant-loop-name
invariant-loop-name l = FindsFirst l.schema (context_of l.ctx) (type_tree l.ty) (sides_of l.first l.second) (context_of l.vars) l.name-index (binds_of l.initial.found) (binds_of l.found)
