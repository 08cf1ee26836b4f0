use Rattle.std.proofs.Common.{◌-◌, length}
use Rattle.kola_base.proofs.Cutting.{CutSoFar}
use Rattle.kola_base.proofs.lex.tokens.Given as goal

abbrev pub invariant-loop-at : goal.invariant-loop-at
invariant-loop-at l = CutSoFar l.text l.out.items l.at

abbrev pub decreases-loop-at : goal.decreases-loop-at
decreases-loop-at l = length l.text - l.at
