-- The parts of a type, and of a value, weigh less than the whole.
use Rattle.std.specs.Prelude.{◌≡◌, ℕ, ◌+◌, ◌≤◌, List, [], ◌∷◌, map, refl}
use Rattle.std.proofs.Common.{arith, ap}
use denote.Param.Weighed.{most}
use Rattle.kola_core.specs.declared.name.Name.{Name}
use Rattle.kola_values.specs.Types.{TypeTree, of_type_fields}
use Rattle.kola_values.specs.Values.{ValueTree, of_items, of_fields}
use Rattle.kola_values.specs.Views.{type_tree, type_entry, value_tree, value_entry}
use Rattle.kola_values.specs.Models.Weights.{type_weight, types_weight, type_entries_weight, weight, members_weight, fields_weight, values_weight, value_entries_weight}
use Rattle.kola_values.specs.declared.ty.Ty.{Ty}
use Rattle.kola_values.specs.declared.ty.Ty.TheVariants as type
use Rattle.kola_values.specs.declared.ty.BoxedTy.TheDeep.{deep-Ty}
use Rattle.kola_values.specs.declared.ty.BoxedTy.TheShapes.{weighed-Fields-entries-at-2}
use Rattle.kola_values.specs.declared.value.Value.{Value}
use Rattle.kola_values.specs.declared.value.Value.TheVariants as value
use Rattle.kola_values.specs.declared.value.BoxedValue.TheDeep.{deep-Value}
use Rattle.kola_values.specs.declared.value.BoxedValue.TheShapes.{weighed-ValueFields-entries-at-2}

types_weight-of : (fs : List (List ℕ × TypeTree)) → types_weight (of_type_fields fs) ≡ type_entries_weight fs
types_weight-of [] = refl
types_weight-of (f ∷ fs) = ap (λ n. 1 + type_weight f.1 + n) (types_weight-of fs)

members_weight-of : (vs : List ValueTree) → members_weight (of_items vs) ≡ values_weight vs
members_weight-of [] = refl
members_weight-of (v ∷ vs) = ap (λ n. 1 + weight v + n) (members_weight-of vs)

fields_weight-of : (fs : List (List ℕ × ValueTree)) → fields_weight (of_fields fs) ≡ value_entries_weight fs
fields_weight-of [] = refl
fields_weight-of (f ∷ fs) = ap (λ n. 1 + weight f.1 + n) (fields_weight-of fs)

pub type_deep_le : (t : Ty) → deep-Ty t ≤ type_weight (type_tree t)
type_deep_le type.Int = omega arith
type_deep_le type.Str = omega arith
type_deep_le type.Bool = omega arith
type_deep_le type.Unit = omega arith
type_deep_le (type.Class n) = omega arith
type_deep_le (type.Var n) = omega arith
type_deep_le (type.Set t) = omega arith
type_deep_le (type.Pair t u) = omega arith
type_deep_le (type.Struct fs) = omega (arith, types_weight-of fs)

abbrev type_entry_deep : Name × Ty → ℕ
type_entry_deep f = weighed-Fields-entries-at-2.weight Ty deep-Ty f

pub type_entries_le : (fs : List (Name × Ty)) → most type_entry_deep fs ≤ type_entries_weight (map type_entry fs)
type_entries_le [] = omega arith
type_entries_le (f ∷ fs) = omega (arith, type_entries_le fs, type_deep_le f.1)

pub value_deep_le : (v : Value) → deep-Value v ≤ weight (value_tree v)
value_deep_le value.Unit = omega arith
value_deep_le (value.Int n) = omega arith
value_deep_le (value.Bool b) = omega arith
value_deep_le (value.Str s) = omega arith
value_deep_le (value.Obj c i) = omega arith
value_deep_le (value.Pair a b) = omega arith
value_deep_le (value.Struct fs) = omega (arith, fields_weight-of fs)
value_deep_le (value.Set vs) = omega (arith, members_weight-of vs)

pub members_le : (vs : List Value) → most deep-Value vs ≤ values_weight (map value_tree vs)
members_le [] = omega arith
members_le (v ∷ vs) = omega (arith, members_le vs, value_deep_le v)

abbrev value_entry_deep : Name × Value → ℕ
value_entry_deep f = weighed-ValueFields-entries-at-2.weight Value deep-Value f

pub value_entries_le : (fs : List (Name × Value)) → most value_entry_deep fs ≤ value_entries_weight (map value_entry fs)
value_entries_le [] = omega arith
value_entries_le (f ∷ fs) = omega (arith, value_entries_le fs, value_deep_le f.1)
