use Rattle.std.proofs.Common.{map, take}
use Rattle.kola_values.specs.Sets.{Each}
use Rattle.kola_values.specs.Views.{value_tree}
use Rattle.kola_values.specs.WellFormed.{WellFormed}
use Rattle.kola_values.proofs.value.all_well_formed.Given as goal

abbrev pub invariant-loop-value : goal.invariant-loop-value
invariant-loop-value l = Each WellFormed (take l.value-index (map value_tree l.values))
