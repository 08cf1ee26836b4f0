-- A number that falls from a type, and from a value, to its parts.
use Rattle.std.specs.Prelude.{ℕ, ◌+◌, List, [], ◌∷◌}
use Rattle.kola_values.specs.Types.{TypeTree, TSet, TPair, TStruct, FieldTypes, TEnd, TField}
use Rattle.kola_values.specs.Values.{ValueTree, VPair, VStruct, VSet, MemberValues, VNone, VMore, FieldValues, VEnd, VField}

abbrev mutual
  pub type_weight : TypeTree → ℕ
  type_weight (TSet t) = 1 + type_weight t
  type_weight (TPair t u) = 1 + type_weight t + type_weight u
  type_weight (TStruct fs) = 1 + types_weight fs
  type_weight _ = 1

  pub types_weight : FieldTypes → ℕ
  types_weight TEnd = 1
  types_weight (TField l t fs) = 1 + type_weight t + types_weight fs

-- the same of the fields as a list
abbrev pub type_entries_weight : List (List ℕ × TypeTree) → ℕ
type_entries_weight [] = 1
type_entries_weight (f ∷ fs) = 1 + type_weight f.1 + type_entries_weight fs

abbrev mutual
  pub weight : ValueTree → ℕ
  weight (VPair a b) = 1 + weight a + weight b
  weight (VStruct fs) = 1 + fields_weight fs
  weight (VSet vs) = 1 + members_weight vs
  weight _ = 1

  pub members_weight : MemberValues → ℕ
  members_weight VNone = 1
  members_weight (VMore v vs) = 1 + weight v + members_weight vs

  pub fields_weight : FieldValues → ℕ
  fields_weight VEnd = 1
  fields_weight (VField l v fs) = 1 + weight v + fields_weight fs

-- the same of members and of fields as lists
abbrev pub values_weight : List ValueTree → ℕ
values_weight [] = 1
values_weight (v ∷ vs) = 1 + weight v + values_weight vs

abbrev pub value_entries_weight : List (List ℕ × ValueTree) → ℕ
value_entries_weight [] = 1
value_entries_weight (f ∷ fs) = 1 + weight f.1 + value_entries_weight fs
