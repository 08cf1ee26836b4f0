use Rattle.std.proofs.Common.{◌≡◌, ◌+◌, ◌*◌, map, take}
use Rattle.kola_values.specs.Types.{of_type_fields}
use Rattle.kola_values.specs.Views.{type_tree, type_entry}
use Rattle.kola_values.specs.Models.Weights.{type_weight, types_weight}
use Rattle.kola_values.proofs.ty.+copy.Given as goal

abbrev pub decreases-Ty::copy : goal.decreases-Ty::copy
decreases-Ty::copy l = 2 * type_weight (type_tree l.self.now)

abbrev pub decreases-BoxedTy::copy : goal.decreases-BoxedTy::copy
decreases-BoxedTy::copy l = 2 * type_weight l.self.now + 1

abbrev pub decreases-Fields::copy : goal.decreases-Fields::copy
decreases-Fields::copy l = 2 * types_weight (of_type_fields l.self.now)

abbrev pub invariant-Fields::copy-loop-label : goal.invariant-Fields::copy-loop-label
invariant-Fields::copy-loop-label l = map type_entry l.entries.items ≡ take l.label-index l.self
