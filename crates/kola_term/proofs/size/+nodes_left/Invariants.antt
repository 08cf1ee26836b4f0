use Rattle.std.proofs.Common.{◌≡◌, ◌+◌, drop}
use Rattle.kola_values.specs.Types.{of_type_fields, types_nodes}
use Rattle.kola_values.specs.Views.{type_tree}
use Rattle.kola_values.specs.Models.Weights.{type_weight, types_weight}
use Rattle.kola_term.proofs.size.+nodes_left.Given as goal

abbrev pub decreases-nodes_left : goal.decreases-nodes_left
decreases-nodes_left l = type_weight (type_tree l.t.now)

abbrev pub decreases-nodes_left_by : goal.decreases-nodes_left_by
decreases-nodes_left_by l = types_weight (of_type_fields l.fields.now)

-- all nodes are those left of the limit and those of the fields to come
abbrev pub invariant-nodes_left_by-loop-t : goal.invariant-nodes_left_by-loop-t
invariant-nodes_left_by-loop-t l = l.left + types_nodes (of_type_fields l.fields) ≡ l.limit + types_nodes (of_type_fields (drop l.t-index l.fields))
