use Rattle.std.proofs.Common.{◌+◌, ◌*◌}
use Rattle.coko_text.proofs.types.+types.Given as goal

abbrev pub decreases-type_of : goal.decreases-type_of
decreases-type_of l = 2 * l.levels

abbrev pub decreases-two_types_of : goal.decreases-two_types_of
decreases-two_types_of l = 2 * l.levels + 1
