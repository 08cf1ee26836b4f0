use Rattle.std.proofs.Common.{map}
use Rattle.kola_core.proofs.Compare.{IsEqualBelow}
use Rattle.kola_values.specs.Order.{cmp}
use Rattle.kola_database.specs.KeyedObjects.{value_at_name}
use Rattle.kola_database.specs.ObjectViews.{object_tree}
use Rattle.kola_database.proofs.keyed.cmp_at_keys.Given as goal

abbrev pub invariant-loop-i : goal.invariant-loop-i
invariant-loop-i l = IsEqualBelow cmp (map (λ a. value_at_name (object_tree l.o) a) l.key) (map (λ a. value_at_name (object_tree l.p) a) l.other) l.i
