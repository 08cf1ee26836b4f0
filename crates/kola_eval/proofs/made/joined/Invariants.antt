use Rattle.std.proofs.Common.{◌≡◌, map, flat_map, take}
use Rattle.kola_values.specs.Sets.{members}
use Rattle.kola_values.specs.Views.{value_tree}
use Rattle.kola_eval.proofs.made.joined.Given as goal

abbrev pub invariant-loop-set : goal.invariant-loop-set
invariant-loop-set l = map value_tree l.made.items ≡ flat_map members (map value_tree (take l.set-index l.sets))
