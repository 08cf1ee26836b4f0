use Rattle.std.proofs.Common.{length}
use Rattle.kola_proof.proofs.outside.+parts_at.Given as goal

abbrev pub decreases-parts_at : goal.decreases-parts_at
decreases-parts_at l = length l.path.now
