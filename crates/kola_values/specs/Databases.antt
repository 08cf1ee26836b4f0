-- Schemas and databases as lists, the values of a type in a database, and when a database meets a schema.
use Rattle.std.specs.Prelude.{ℕ, true, cond, List, [], ◌∷◌, Option, Some, None, ◌≡◌, map, filter}
use Rattle.std.specs.Str.{bytes_eq}
use Rattle.kola_core.specs.Integers.{In64}
use Rattle.kola_values.specs.Values.{ValueTree, VUnit, VInt, VBool, VStr, VObj, VPair, VStruct, VSet, FieldValues, VEnd, VField, items}
use Rattle.kola_values.specs.Order.{same}
use Rattle.kola_values.specs.Types.{TypeTree, TInt, TStr, TBool, TUnit, TClass, TSet, TPair, TStruct, FieldTypes, TEnd, TField}
use Rattle.kola_values.specs.Sets.{Rising, Each, has}

-- a class: its name, its extent's name, its attributes with their types, its keys as lists of attributes
pub record Class : Type 0 where
  pub name : List ℕ
  pub extent : List ℕ
  pub attributes : List (List ℕ × TypeTree)
  pub keys : List (List (List ℕ))

-- an object: its class's name, its id, its attributes' values
pub record Object : Type 0 where
  pub class : List ℕ
  pub id : ℕ
  pub values : List (List ℕ × ValueTree)

-- a schema is a list of classes, a database a list of objects
abbrev pub Classes : Type 0
Classes = List Class

abbrev pub Objects : Type 0
Objects = List Object

-- the first entry of the name
abbrev pub look_up : {A : Type 0} → List ℕ → List (List ℕ × A) → Option A
look_up n [] = None
look_up n (e ∷ es) = cond (bytes_eq n e.0) (Some e.1) (look_up n es)

abbrev pub value_or_unit : Option ValueTree → ValueTree
value_or_unit (Some v) = v
value_or_unit None = VUnit

-- the type of an attribute of the class of this name
abbrev pub attribute_type : Classes → List ℕ → List ℕ → Option TypeTree
attribute_type [] c a = None
attribute_type (k ∷ ks) c a = cond (bytes_eq c k.name) (look_up a k.attributes) (attribute_type ks c a)

-- the class whose extent has the name
abbrev pub extent_class : Classes → List ℕ → Option (List ℕ)
extent_class [] e = None
extent_class (k ∷ ks) e = cond (bytes_eq e k.extent) (Some k.name) (extent_class ks e)

-- the objects of a class, as values
abbrev pub objects_of : List ℕ → Objects → List ValueTree
objects_of c d = map (λ (o : Object). VObj o.class o.id) (filter (λ (o : Object). bytes_eq c o.class) d)

-- the attribute of the object that v names
abbrev pub attribute_of : List ℕ → Objects → ValueTree → ValueTree
attribute_of a [] v = VUnit
attribute_of a (o ∷ d) v = cond (same v (VObj o.class o.id)) (value_or_unit (look_up a o.values)) (attribute_of a d v)

abbrev mutual
  -- v is a value of the type in the database d
  pub HasType : Objects → ValueTree → TypeTree → Type 0
  HasType d (VInt z) TInt = In64 z
  HasType d (VStr s) TStr = Unit {0}
  HasType d (VBool b) TBool = Unit {0}
  HasType d VUnit TUnit = Unit {0}
  HasType d (VObj c i) (TClass e) = (c ≡ e) × (has (VObj c i) (objects_of c d) ≡ true)
  HasType d (VSet vs) (TSet t) = Rising (items vs) × Each (λ v. HasType d v t) (items vs)
  HasType d (VPair v w) (TPair t u) = HasType d v t × HasType d w u
  HasType d (VStruct fs) (TStruct ts) = HaveTypes d fs ts
  HasType d _ _ = ⊥

  pub HaveTypes : Objects → FieldValues → FieldTypes → Type 0
  HaveTypes d VEnd TEnd = Unit {0}
  HaveTypes d (VField l v fs) (TField m t ts) = (l ≡ m) × HasType d v t × HaveTypes d fs ts
  HaveTypes d _ _ = ⊥
