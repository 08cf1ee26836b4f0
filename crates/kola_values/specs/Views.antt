-- The plain tree of a type and of a value that the program holds.
use Rattle.std.specs.Prelude.{ℕ, List}
use Rattle.std.specs.Borrow.{Bor}
use Rattle.kola_core.specs.declared.name.Name.{Name}
use Rattle.kola_values.specs.Types.{TypeTree, TInt, TStr, TBool, TUnit, TClass, TVar, TSet, TPair, TStruct, of_type_fields}
use Rattle.kola_values.specs.Values.{ValueTree, VUnit, VInt, VBool, VStr, VObj, VPair, VStruct, VSet, of_items, of_fields}
use Rattle.kola_values.specs.declared.ty.Ty.{Ty}
use Rattle.kola_values.specs.declared.ty.Ty.TheVariants as type
use Rattle.kola_values.specs.declared.value.Value.{Value}
use Rattle.kola_values.specs.declared.value.Value.TheVariants as value

abbrev pub type_tree : Ty → TypeTree
type_tree type.Int = TInt
type_tree type.Str = TStr
type_tree type.Bool = TBool
type_tree type.Unit = TUnit
type_tree (type.Class n) = TClass n
type_tree (type.Var n) = TVar n
type_tree (type.Set t) = TSet t
type_tree (type.Pair t u) = TPair t u
type_tree (type.Struct fs) = TStruct (of_type_fields fs)

abbrev pub value_tree : Value → ValueTree
value_tree value.Unit = VUnit
value_tree (value.Int n) = VInt n
value_tree (value.Bool b) = VBool b
value_tree (value.Str s) = VStr s
value_tree (value.Obj c i) = VObj c i
value_tree (value.Pair a b) = VPair a b
value_tree (value.Struct fs) = VStruct (of_fields fs)
value_tree (value.Set vs) = VSet (of_items vs)

-- a field of a struct: its label with its type's or its value's tree
abbrev pub type_entry : Name × Ty → List ℕ × TypeTree
type_entry f = (f.0, type_tree f.1)

abbrev pub value_entry : Name × Value → List ℕ × ValueTree
value_entry f = (f.0, value_tree f.1)

-- the same behind a reference
abbrev pub type_entry_at : Bor (Name × Ty) → List ℕ × TypeTree
type_entry_at f = type_entry f.now

abbrev pub value_entry_at : Bor (Name × Value) → List ℕ × ValueTree
value_entry_at f = value_entry f.now

abbrev pub value_at : Bor Value → ValueTree
value_at v = value_tree v.now
