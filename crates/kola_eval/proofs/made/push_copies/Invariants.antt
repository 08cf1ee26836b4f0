use Rattle.std.proofs.Common.{◌≡◌, ◌++◌, map, take}
use Rattle.kola_values.specs.Views.{value_tree}
use Rattle.kola_eval.proofs.made.push_copies.Given as goal

abbrev pub invariant-loop-value : goal.invariant-loop-value
invariant-loop-value l = map value_tree l.made.items ≡ map value_tree l.initial.made.items ++ map value_tree (take l.value-index l.values)
