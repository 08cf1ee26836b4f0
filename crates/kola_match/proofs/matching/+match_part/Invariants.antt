use Rattle.kola_term.specs.Parts.{sub_tree}
use Rattle.kola_term.specs.Counts.{nodes}
use Rattle.kola_match.proofs.matching.+match_part.Given as goal

abbrev pub decreases-match_part : goal.decreases-match_part
decreases-match_part l = nodes (sub_tree l.pattern)
