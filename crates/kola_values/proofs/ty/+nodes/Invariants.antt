use Rattle.std.proofs.Common.{◌≡◌, ◌-◌, ◌^◌, min, take}
use Rattle.kola_values.specs.Types.{of_type_fields, types_nodes}
use Rattle.kola_values.specs.Views.{type_tree}
use Rattle.kola_values.specs.Models.Weights.{type_weight, types_weight}
use Rattle.kola_values.proofs.ty.+nodes.Given as goal

abbrev pub decreases-Ty::nodes : goal.decreases-Ty::nodes
decreases-Ty::nodes l = type_weight (type_tree l.self.now)

abbrev pub decreases-Fields::nodes : goal.decreases-Fields::nodes
decreases-Fields::nodes l = types_weight (of_type_fields l.self.now)

abbrev pub invariant-Fields::nodes-loop-t : goal.invariant-Fields::nodes-loop-t
invariant-Fields::nodes-loop-t l = l.all ≡ min (types_nodes (of_type_fields (take l.t-index l.self))) (2 ^ 64 - 1)
