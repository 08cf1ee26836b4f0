use Rattle.kola_term.specs.Counts.{nodes}
use Rattle.kola_term.specs.Parts.{sub_tree}
use Rattle.kola_term.proofs.count.+part_depth.Given as goal

abbrev pub decreases-part_depth : goal.decreases-part_depth
decreases-part_depth l = nodes (sub_tree l.part)
