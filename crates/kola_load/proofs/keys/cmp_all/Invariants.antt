use Rattle.std.proofs.Common.{map}
use Rattle.kola_core.proofs.Compare.{IsEqualBelow}
use Rattle.kola_values.specs.Order.{cmp}
use Rattle.kola_values.specs.Views.{value_at}
use Rattle.kola_load.proofs.keys.cmp_all.Given as goal

abbrev pub invariant-loop-i : goal.invariant-loop-i
invariant-loop-i l = IsEqualBelow cmp (map value_at l.vs) (map value_at l.ws) l.i
