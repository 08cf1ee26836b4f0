-- The first fault of a JSON value as a database of a schema, in four phases of tests, each of which answers its fault or none.
use Rattle.std.specs.Prelude.{ℕ, ◌+◌, Bool, not, cond, List, [], ◌∷◌, ◌++◌, length, codes, Option, Some, None, Result, Ok, Err, is_some, option_map}
use Rattle.std.specs.List.{find, list_all}
use Rattle.std.specs.Option.{option_or}
use Rattle.serde_json.specs.Data.{Data}
use Rattle.serde_json.specs.Find.{get}
use Rattle.kola_values.specs.Types.{TypeTree}
use Rattle.kola_values.specs.Databases.{Class, Object, Classes, Objects}
use Rattle.kola_schema.specs.Schemas.{names_of, extent_names}
use Rattle.kola_database.specs.MeetsTests.{agree_at}
use Rattle.kola_load.specs.Json.{is_object, is_array, elements, names_beside, least, own_id}
use Rattle.kola_load.specs.Written.{value_of, references, extent_of, is_taken, is_there, id_in, objects_in, written}
use Rattle.kola_load.specs.declared.fault.DbFault.{DbFault}
use Rattle.kola_load.specs.declared.fault.DbFault.TheVariants.{NotObject, UnknownExtent, NotAnArray, NotAnObject, BadId, TwiceId, UnknownAttribute, MissingAttribute, WrongType, NoSuchObject, KeyRepeats}

abbrev pub Test : Type 0
Test = Option DbFault

-- the fault f where b does not hold
abbrev pub unless : Bool → DbFault → Test
unless b f = cond b None (Some f)

-- the first fault of the things of a list
abbrev pub first_of : {A : Type 0} → (A → Test) → List A → Test
first_of test [] = None
first_of test (x ∷ xs) = option_or (test x) (first_of test xs)

-- the same, where each thing is tested beside those before it
abbrev pub first_among : {A : Type 0} → (List A → A → Test) → List A → List A → Test
first_among test before [] = None
first_among test before (x ∷ xs) = option_or (test before x) (first_among test (before ++ x ∷ []) xs)

-- ---- phase 1: the value is an object, and each of its members names an extent

abbrev pub members_fault : Classes → Data → Test
members_fault S j = option_or (unless (is_object j) NotObject) (option_map UnknownExtent (least (names_beside (extent_names S) j)))

-- ---- phase 2: an extent is an array; each element is an object with an id, which no earlier element has

abbrev pub id_fault : Class → List Data → Option ℕ → Test
id_fault k before None = Some (BadId k.extent (length before))
id_fault k before (Some i) = unless (not (is_taken i before)) (TwiceId k.extent i)

abbrev pub element_fault : Class → List Data → Data → Test
element_fault k before d = option_or (unless (is_object d) (NotAnObject k.extent (length before))) (id_fault k before (own_id d))

abbrev pub array_fault : Class → Option Data → Test
array_fault k None = None
array_fault k (Some m) = option_or (unless (is_array m) (NotAnArray k.extent)) (first_among (element_fault k) [] (elements m))

abbrev pub extent_fault : Data → Class → Test
extent_fault j k = array_fault k (get k.extent j)

-- ---- phase 3: each member of an object but `#` is an attribute; each attribute has a member, of its type, of which each reference is there

abbrev pub label_fault : Class → Data → Test
label_fault k d = option_map (UnknownAttribute k.name (id_in d)) (least (names_beside (codes "#" ∷ names_of k.attributes) d))

-- `there` says whether a class has an object of an id
module _ (there : List ℕ × ℕ → Bool) where
  abbrev pub reference_fault : Class → Data → List ℕ → List (List ℕ × ℕ) → Test
  reference_fault k d a rs = option_map (λ r. NoSuchObject k.name (id_in d) a r.1) (find (λ r. not (there r)) rs)

  abbrev pub value_fault : Class → Data → List ℕ × TypeTree → Option Data → Test
  value_fault k d a None = Some (MissingAttribute k.name (id_in d) a.0)
  value_fault k d a (Some v) = option_or (unless (is_some (value_of a.1 v)) (WrongType k.name (id_in d) a.0)) (reference_fault k d a.0 (references a.1 v))

  abbrev pub attribute_fault : Class → Data → List ℕ × TypeTree → Test
  attribute_fault k d a = value_fault k d a (get a.0 d)

  abbrev pub object_fault : Class → Data → Test
  object_fault k d = option_or (label_fault k d) (first_of (attribute_fault k d) k.attributes)

  abbrev pub objects_fault : Data → Class → Test
  objects_fault j k = first_of (object_fault k) (extent_of j k)

-- ---- phase 4: no object agrees with an earlier one on all attributes of a key; keys count from 1

abbrev pub repeat_fault : Class → ℕ → List (List ℕ) → Objects → Object → Test
repeat_fault k n key before o = option_map (λ (p : Object). KeyRepeats k.name n p.id o.id) (find (λ (p : Object). list_all (agree_at p o) key) before)

abbrev pub key_fault : Objects → Class → List (List (List ℕ)) → List (List ℕ) → Test
key_fault os k before key = first_among (repeat_fault k (length before + 1) key) [] os

abbrev pub keys_fault : Class → Objects → Test
keys_fault k os = first_among (key_fault os k) [] k.keys

-- ---- the phases one after the other, each over the classes in the order of the schema

abbrev pub db_fault : Classes → Data → Test
db_fault S j = option_or (members_fault S j) (option_or (first_of (extent_fault j) S) (option_or (first_of (objects_fault (is_there S j) j) S) (first_of (λ k. keys_fault k (objects_in j k)) S)))

-- the first fault, or else the objects
abbrev pub or_objects : Test → Objects → Result Objects DbFault
or_objects None os = Ok os
or_objects (Some f) os = Err f

abbrev pub db_of : Classes → Data → Result Objects DbFault
db_of S j = or_objects (db_fault S j) (written S j)
