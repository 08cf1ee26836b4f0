-- The objects that a JSON value writes: each element of the array of an extent is an object of the extent's class.
use Rattle.std.specs.Prelude.{ℕ, ◌==◌, Bool, false, List, [], ◌∷◌, map, flat_map, Option, Some, None, option_map, option_and_then, unwrap_or}
use Rattle.std.specs.List.{list_any}
use Rattle.std.specs.Option.{option_map_or}
use Rattle.serde_json.specs.Data.{Data}
use Rattle.serde_json.specs.Find.{get, as_bool, as_str, as_array}
use Rattle.kola_values.specs.Values.{ValueTree, VInt, VBool, VStr, VObj}
use Rattle.kola_values.specs.Types.{TypeTree, TInt, TStr, TBool, TClass, TSet}
use Rattle.kola_values.specs.Sets.{set_of}
use Rattle.kola_values.specs.Databases.{Class, Object, Classes, Objects, value_or_unit}
use Rattle.kola_schema.specs.Schemas.{class_named}
use Rattle.kola_load.specs.Json.{list_of, elements, integer_of, id_of, own_id}

-- ---- values

-- all of them, where none is missing
abbrev pub whole : {A : Type 0} → List (Option A) → Option (List A)
whole [] = Some []
whole (o ∷ os) = option_and_then (λ x. option_map (λ xs. x ∷ xs) (whole os)) o

-- the value of a type that a JSON value writes; none where it is not of the type
abbrev pub value_of : TypeTree → Data → Option ValueTree
value_of TInt d = option_map VInt (integer_of d)
value_of TStr d = option_map VStr (as_str d)
value_of TBool d = option_map VBool (as_bool d)
value_of (TClass c) d = option_map (VObj c) (id_of d)
value_of (TSet t) d = option_and_then (λ ds. option_map set_of (whole (map (value_of t) (list_of ds)))) (as_array d)
value_of _ d = None

-- the references in it, each a class with an id, in reading order
abbrev pub references : TypeTree → Data → List (List ℕ × ℕ)
references (TClass c) d = option_map_or (λ i. (c, i) ∷ []) (id_of d) []
references (TSet t) d = flat_map (references t) (elements d)
references _ d = []

-- ---- extents

-- the elements of the extent of a class; an extent that is no member is empty
abbrev pub extent_of : Data → Class → List Data
extent_of j k = option_map_or elements (get k.extent j) []

-- an element has the id; some element of a list has it
abbrev pub is_id : ℕ → Data → Bool
is_id i d = option_map_or (λ n. i == n) (own_id d) false

abbrev pub is_taken : ℕ → List Data → Bool
is_taken i ds = list_any (is_id i) ds

-- a reference names an object of its class
abbrev pub is_there : Classes → Data → List ℕ × ℕ → Bool
is_there S j r = option_map_or (λ k. is_taken r.1 (extent_of j k)) (class_named S r.0) false

-- ---- objects

-- its id; 0 where it has none, which no object without a fault is
abbrev pub id_in : Data → ℕ
id_in d = unwrap_or (own_id d) 0

-- an attribute with the value that its member writes
abbrev pub attribute_in : Data → List ℕ × TypeTree → List ℕ × ValueTree
attribute_in d a = (a.0, value_or_unit (option_and_then (value_of a.1) (get a.0 d)))

-- the object of a class that an element writes
abbrev pub object_in : Class → Data → Object
object_in k d = record { class = k.name; id = id_in d; values = map (attribute_in d) k.attributes }

abbrev pub objects_in : Data → Class → Objects
objects_in j k = map (object_in k) (extent_of j k)

-- the objects of all classes, in the order of the schema and of the arrays
abbrev pub written : Classes → Data → Objects
written S j = flat_map (objects_in j) S
