use Rattle.kola_term.specs.Parts.{sub_tree}
use Rattle.kola_term.specs.Counts.{nodes}
use Rattle.coko_plan.proofs.firing.+see.Given as goal

abbrev pub decreases-see : goal.decreases-see
decreases-see l = nodes (sub_tree l.part)
