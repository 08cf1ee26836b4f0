use Rattle.std.proofs.Common.{◌≡◌, take, map}
use Rattle.kola_term.specs.ContextView.{context_of}
use Rattle.kola_match.specs.Binds.{substitution_of}
use Rattle.kola_match.specs.FoundViews.{binds_of}
use Rattle.kola_match.specs.Giving.{given}
use Rattle.kola_match.specs.SubstViews.{bound_entry}
use Rattle.kola_match.proofs.given.all_bound.Given as goal

abbrev pub invariant-loop-name : goal.invariant-loop-name
invariant-loop-name l = map bound_entry l.all ≡ take l.name-index (given (substitution_of (binds_of l.found)) (context_of l.vars))
