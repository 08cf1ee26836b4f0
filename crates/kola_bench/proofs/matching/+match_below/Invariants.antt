use Rattle.kola_term.specs.TermView.{fun_tree}
use Rattle.kola_term.specs.Terms.{TermF}
use Rattle.kola_term.specs.Counts.{nodes}
use Rattle.kola_bench.proofs.matching.+match_below.Given as goal

abbrev pub decreases-match_below : goal.decreases-match_below
decreases-match_below l = nodes (TermF (fun_tree l.f.now))
