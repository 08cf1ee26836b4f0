-- The tests of a value against a type and of objects against a schema, as truth values.
use Rattle.std.specs.Prelude.{ℕ, ◌≤◌, Bool, true, false, not, ltb, ◌&&◌, List, [], ◌∷◌, Option, Some, None}
use Rattle.std.specs.List.{list_any, list_all}
use Rattle.std.specs.Str.{bytes_eq}
use Rattle.kola_values.specs.Values.{ValueTree, VUnit, VInt, VBool, VStr, VObj, VPair, VStruct, VSet, FieldValues, VEnd, VField, items}
use Rattle.kola_values.specs.Types.{TypeTree, TInt, TStr, TBool, TUnit, TClass, TSet, TPair, TStruct, FieldTypes, TEnd, TField}
use Rattle.kola_values.specs.Order.{same}
use Rattle.kola_values.specs.Sets.{Each, has}
use Rattle.kola_values.specs.WellFormed.{WellFormed}
use Rattle.kola_values.specs.Databases.{Class, Object, Classes, Objects, look_up, value_or_unit}
use Rattle.kola_core.specs.NameLists.{is_listed}
use Rattle.kola_schema.specs.Schemas.{are_distinct, names_of, class_named}
use Rattle.kola_schema.specs.Meets.{object_values}

abbrev mutual
  -- v is a value of the type, where `there` says whether there is an object of a class and an id
  pub typed_by : (List ℕ → ℕ → Bool) → ValueTree → TypeTree → Bool
  typed_by there (VInt z) TInt = true
  typed_by there (VStr s) TStr = true
  typed_by there (VBool b) TBool = true
  typed_by there VUnit TUnit = true
  typed_by there (VObj c i) (TClass e) = bytes_eq c e && there c i
  typed_by there (VSet vs) (TSet t) = list_all (λ v. typed_by there v t) (items vs)
  typed_by there (VPair v w) (TPair t u) = typed_by there v t && typed_by there w u
  typed_by there (VStruct fs) (TStruct ts) = fields_typed_by there fs ts
  typed_by there _ _ = false

  pub fields_typed_by : (List ℕ → ℕ → Bool) → FieldValues → FieldTypes → Bool
  fields_typed_by there VEnd TEnd = true
  fields_typed_by there (VField l v fs) (TField m t ts) = bytes_eq l m && typed_by there v t && fields_typed_by there fs ts
  fields_typed_by there _ _ = false

-- the object of the class and the id is one of the list
abbrev pub is_there : Objects → List ℕ → ℕ → Bool
is_there d c i = has (VObj c i) (object_values d)

-- v is a value of the type in the database d
abbrev pub has_type : Objects → ValueTree → TypeTree → Bool
has_type d v t = typed_by (is_there d) v t

-- whatever objects there are
abbrev pub anything : List ℕ → ℕ → Bool
anything c i = true

-- an object as the program holds it: its values are well formed, its id has 32 bits
abbrev pub IsHeld : Object → Type 0
IsHeld o = Each (λ e. WellFormed e.1) o.values × (o.id ≤ 4294967295)

-- no element is related to a later one
abbrev pub no_two : {A : Type 0} → (A → A → Bool) → List A → Bool
no_two r [] = true
no_two r (x ∷ xs) = not (list_any (r x) xs) && no_two r xs

abbrev pub same_object : Object → Object → Bool
same_object o p = same (VObj o.class o.id) (VObj p.class p.id)

-- a value is of the type of its attribute, if the class has it
abbrev pub is_value_of : (List ℕ → ℕ → Bool) → Option TypeTree → ValueTree → Bool
is_value_of there None v = false
is_value_of there (Some t) v = typed_by there v t

-- each value is of the type of its attribute, which the class has
abbrev pub are_typed : (List ℕ → ℕ → Bool) → List (List ℕ × TypeTree) → List (List ℕ × ValueTree) → Bool
are_typed there types values = list_all (λ e. is_value_of there (look_up e.0 types) e.1) values

-- no attribute of the class is missing
abbrev pub are_whole : List (List ℕ × TypeTree) → List (List ℕ × ValueTree) → Bool
are_whole types values = list_all (λ e. is_listed e.0 (names_of values)) types

-- an object has an id from 1, and exactly the attributes of its class, each once and with a value of its type
abbrev pub fits_class : (List ℕ → ℕ → Bool) → Option Class → Object → Bool
fits_class there None o = false
fits_class there (Some k) o = ltb 0 o.id && are_distinct (names_of o.values) && are_typed there k.attributes o.values && are_whole k.attributes o.values

-- two objects have the same value at an attribute
abbrev pub agree_at : Object → Object → List ℕ → Bool
agree_at o p a = same (value_or_unit (look_up a o.values)) (value_or_unit (look_up a p.values))

-- two objects are of one class and agree on each attribute of one of its keys
abbrev pub clash : Option Class → Object → Object → Bool
clash None o p = false
clash (Some k) o p = bytes_eq o.class p.class && list_any (λ key. list_all (λ a. agree_at o p a) key) k.keys

abbrev pub all_fit : Classes → Objects → Objects → Bool
all_fit S d os = list_all (λ (o : Object). fits_class (is_there d) (class_named S o.class) o) os

abbrev pub keys_are_met : Classes → Objects → Bool
keys_are_met S d = no_two (λ (o : Object). clash (class_named S o.class) o) d

-- no object stands twice, each fits its class, and no two clash
abbrev pub meets : Classes → Objects → Bool
meets S d = no_two same_object d && all_fit S d d && keys_are_met S d
