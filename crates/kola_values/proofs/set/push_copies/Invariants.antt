use Rattle.std.proofs.Common.{◌≡◌, ◌++◌, map, take}
use Rattle.kola_values.specs.Views.{value_tree}
use Rattle.kola_values.proofs.set.push_copies.Given as goal

abbrev pub invariant-loop-value : goal.invariant-loop-value
invariant-loop-value l = map value_tree l.list.items ≡ map value_tree l.initial.list.items ++ take l.value-index (map value_tree l.values)
