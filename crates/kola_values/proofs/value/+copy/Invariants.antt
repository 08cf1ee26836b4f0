use Rattle.std.proofs.Common.{◌≡◌, ◌*◌, map, take}
use Rattle.kola_values.specs.Values.{of_fields}
use Rattle.kola_values.specs.Views.{value_tree, value_entry}
use Rattle.kola_values.specs.Models.Weights.{weight, fields_weight}
use Rattle.kola_values.proofs.value.+copy.Given as goal

abbrev pub decreases-Value::copy : goal.decreases-Value::copy
decreases-Value::copy l = 2 * weight (value_tree l.self.now)

abbrev pub decreases-ValueFields::copy : goal.decreases-ValueFields::copy
decreases-ValueFields::copy l = 2 * fields_weight (of_fields l.self.now)

abbrev pub invariant-ValueFields::copy-loop-label : goal.invariant-ValueFields::copy-loop-label
invariant-ValueFields::copy-loop-label l = map value_entry l.entries.items ≡ take l.label-index l.self
