use Rattle.std.proofs.Common.{length}
use Rattle.kola_term.proofs.input.+input_below.Given as goal

abbrev pub decreases-input_below : goal.decreases-input_below
decreases-input_below l = length l.path.now
