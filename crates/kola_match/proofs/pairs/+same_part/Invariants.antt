use Rattle.kola_term.specs.Parts.{sub_tree}
use Rattle.kola_term.specs.Counts.{nodes}
use Rattle.kola_match.proofs.pairs.+same_part.Given as goal

abbrev pub decreases-same_part : goal.decreases-same_part
decreases-same_part l = nodes (sub_tree l.a)
