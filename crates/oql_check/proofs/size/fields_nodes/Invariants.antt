use Rattle.std.proofs.Common.{◌≡◌, ◌-◌, ◌^◌, min, take}
use Rattle.kola_values.specs.Types.{of_type_fields, types_nodes}
use Rattle.oql_check.proofs.size.fields_nodes.Given as goal

abbrev pub invariant-loop-t : goal.invariant-loop-t
invariant-loop-t l = l.all ≡ min (types_nodes (of_type_fields (take l.t-index l.fields))) (2 ^ 64 - 1)
