use Rattle.std.specs.Prelude.{◌+◌, ◌*◌}
use Rattle.kola_term.specs.Parts.{sub_tree}
use Rattle.kola_term.specs.Counts.{nodes}
use Rattle.kola_match.proofs.find.+find.Given as goal

abbrev pub decreases-find : goal.decreases-find
decreases-find l = 2 * nodes (sub_tree l.part)

abbrev pub decreases-find_child : goal.decreases-find_child
decreases-find_child l = 2 * nodes (sub_tree l.child) + 1
