-- A database as the program keeps it, its extents and the attributes of its objects by their names.
use Rattle.std.specs.Prelude.{ℕ, cond, List, [], ◌∷◌, Option, Some, None, ◌≡◌, map, slice_get, option_map, option_and_then}
use Rattle.kola_values.specs.Values.{ValueTree, VObj}
use Rattle.kola_values.specs.Order.{same}
use Rattle.kola_values.specs.Sets.{canon}
use Rattle.kola_values.specs.Databases.{Class, Object, Classes, Objects, look_up, objects_of}
use Rattle.kola_schema.specs.Schemas.{names_of}
use Rattle.kola_schema.specs.Meets.{Meets}

-- the objects, the name of each extent with its class, and the names of the attributes of that class
pub record Database : Type 0 where
  pub objects : Objects
  pub extents : List (List ℕ × List ℕ)
  pub attributes : List (List (List ℕ))

abbrev pub extents_of : Classes → List (List ℕ × List ℕ)
extents_of S = map (λ (k : Class). (k.extent, k.name)) S

abbrev pub attributes_of : Classes → List (List (List ℕ))
attributes_of S = map (λ (k : Class). names_of k.attributes) S

-- a database that was made under the schema
pub record IsUnder (S : Classes) (db : Database) : Type 0 where
  pub meets : Meets S db.objects
  pub extents : db.extents ≡ extents_of S
  pub attributes : db.attributes ≡ attributes_of S

-- the extent of the name: the rising list of the objects of its class
abbrev pub extent_in : Database → List ℕ → Option (List ValueTree)
extent_in db e = option_map (λ c. canon (objects_of c db.objects)) (look_up e db.extents)

-- the first object of the class and the id
abbrev pub object_named : List ℕ → ℕ → Objects → Option Object
object_named c i [] = None
object_named c i (o ∷ d) = cond (same (VObj c i) (VObj o.class o.id)) (Some o) (object_named c i d)

-- the attribute a of the object of the class and the id
abbrev pub attribute_in : Objects → List ℕ → ℕ → List ℕ → Option ValueTree
attribute_in d c i a = option_and_then (λ (o : Object). look_up a o.values) (object_named c i d)

-- ---- the same by numbers, which are places in the schema counted from 0

abbrev pub extent_at : Database → ℕ → Option (List ValueTree)
extent_at db n = option_map (λ (e : List ℕ × List ℕ). canon (objects_of e.1 db.objects)) (slice_get db.extents n)

-- the class of a number, and the attribute of a number of it
abbrev pub class_at : Database → ℕ → Option (List ℕ)
class_at db n = option_map (λ (e : List ℕ × List ℕ). e.1) (slice_get db.extents n)

abbrev pub label_at : Database → ℕ → ℕ → Option (List ℕ)
label_at db n a = option_and_then (λ ls. slice_get ls a) (slice_get db.attributes n)

-- what the look-up by their names finds
abbrev pub attribute_at : Database → ℕ → ℕ → ℕ → Option ValueTree
attribute_at db n i a = option_and_then (λ c. option_and_then (λ l. attribute_in db.objects c i l) (label_at db n a)) (class_at db n)
