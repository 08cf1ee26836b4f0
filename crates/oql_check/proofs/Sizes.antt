-- The counts of a type's nodes.
use Rattle.std.proofs.Common.{◌≡◌, ℕ, ◌-◌, ◌^◌, min, nat_le, nat_lt, arith}
use Rattle.std.proofs.lemmas.Bool.Decides.{nat_tests}
use Rattle.kola_values.specs.Types.{TypeTree, TSet, TStruct, FieldTypes, type_nodes, types_nodes}
use Rattle.oql_check.specs.Limits.{small}

pub small_by_count : (n : ℕ) (t : TypeTree) → n ≡ min (type_nodes t) (2 ^ 64 - 1) → nat_le n 4096 ≡ small t
unfolding small
small_by_count n t h = grind (arith, nat_tests)

pub small_set_by_count : (n : ℕ) (t : TypeTree) → n ≡ min (type_nodes t) (2 ^ 64 - 1) → nat_lt n 4096 ≡ small (TSet t)
unfolding small
small_set_by_count n t h = grind (arith, nat_tests)

pub small_struct_by_count : (n : ℕ) (fs : FieldTypes) → n ≡ min (types_nodes fs) (2 ^ 64 - 1) → nat_lt n 4096 ≡ small (TStruct fs)
unfolding small
small_struct_by_count n fs h = grind (arith, nat_tests)
