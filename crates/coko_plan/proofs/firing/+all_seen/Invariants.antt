use Rattle.kola_term.specs.Parts.{sub_tree}
use Rattle.kola_term.specs.Counts.{nodes}
use Rattle.coko_plan.proofs.firing.+all_seen.Given as goal

abbrev pub decreases-all_seen : goal.decreases-all_seen
decreases-all_seen l = nodes (sub_tree l.part)
