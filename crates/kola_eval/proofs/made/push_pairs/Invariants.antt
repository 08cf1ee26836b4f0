use Rattle.std.proofs.Common.{◌≡◌, ◌++◌, map, take}
use Rattle.kola_values.specs.Values.{VPair}
use Rattle.kola_values.specs.Views.{value_tree}
use Rattle.kola_eval.proofs.made.push_pairs.Given as goal

abbrev pub invariant-loop-b : goal.invariant-loop-b
invariant-loop-b l = map value_tree l.made.items ≡ map value_tree l.initial.made.items ++ map (VPair l.a) (map value_tree (take l.b-index l.values))
