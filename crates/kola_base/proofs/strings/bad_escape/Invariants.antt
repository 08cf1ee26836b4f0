use Rattle.std.proofs.Common.{◌-◌, length}
use Rattle.kola_base.proofs.Escapes.{PlaceOf}
use Rattle.kola_base.proofs.strings.bad_escape.Given as goal

abbrev pub invariant-loop-at : goal.invariant-loop-at
invariant-loop-at l = PlaceOf l.content l.at

abbrev pub decreases-loop-at : goal.decreases-loop-at
decreases-loop-at l = length l.content - l.at
