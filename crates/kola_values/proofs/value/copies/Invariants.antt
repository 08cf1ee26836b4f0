use Rattle.std.proofs.Common.{◌≡◌, map, take}
use Rattle.kola_values.specs.Views.{value_tree}
use Rattle.kola_values.proofs.value.copies.Given as goal

abbrev pub invariant-loop-value : goal.invariant-loop-value
invariant-loop-value l = map value_tree l.all.items ≡ take l.value-index (map value_tree l.values)
