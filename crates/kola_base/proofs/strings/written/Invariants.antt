use Rattle.std.proofs.Common.{◌-◌, length}
use Rattle.kola_base.proofs.Escapes.{WrittenSoFar}
use Rattle.kola_base.proofs.strings.written.Given as goal

abbrev pub invariant-loop-at : goal.invariant-loop-at
invariant-loop-at l = WrittenSoFar l.content l.at l.out.items

abbrev pub decreases-loop-at : goal.decreases-loop-at
decreases-loop-at l = length l.content - l.at
