use Rattle.std.proofs.Common.{◌+◌, ◌-◌, length, map}
use Rattle.kola_values.specs.Views.{value_tree}
use Rattle.kola_values.proofs.Merging.{IsMerged}
use Rattle.kola_values.proofs.value.Set.merged.Given as goal

abbrev pub invariant-loop-i : goal.invariant-loop-i
invariant-loop-i l = IsMerged l.first l.both l.second l.self l.other (map value_tree l.members.items) l.i l.j

abbrev pub decreases-loop-i : goal.decreases-loop-i
decreases-loop-i l = (length l.vs - l.i) + (length l.ws - l.j)
