use Rattle.kola_term.specs.Counts.{nodes}
use Rattle.kola_term.specs.Parts.{sub_tree}
use Rattle.kola_term.proofs.count.+part_nodes.Given as goal

abbrev pub decreases-part_nodes : goal.decreases-part_nodes
decreases-part_nodes l = nodes (sub_tree l.part)
