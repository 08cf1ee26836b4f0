use Rattle.kola_term.specs.Parts.{sub_tree}
use Rattle.kola_term.specs.Counts.{nodes}
use Rattle.kola_match.proofs.matching.+may_match.Given as goal

abbrev pub decreases-may_match : goal.decreases-may_match
decreases-may_match l = nodes (sub_tree l.pattern)
