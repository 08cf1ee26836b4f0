-- The first fault of databases of persons with their cars, and the objects of one without a fault.
use Rattle.std.proofs.Common.{◌≡◌, ℕ, List, [], ◌∷◌, Option, Some, Result, Ok, Err, codes, refl, pos, negsuc, true, false}
use Rattle.std.specs.Option.{option_map}
use Rattle.json.specs.Json as json
use Rattle.serde_json.specs.Data.{number, array, object, item, no_items, member, no_members, unsigned, negative}
use Rattle.serde_json.specs.Read.{read}
use Rattle.serde_json.proofs.OnLiterals.{serde_json_on_literals}
use Rattle.kola_values.specs.Values.{VInt, VStr, VObj, VSet, of_items}
use Rattle.kola_values.specs.Types.{TInt, TStr, TClass, TSet}
use Rattle.kola_values.specs.Databases.{Class, Object, Classes, Objects}
use Rattle.kola_values.specs.Order.{same}
use Rattle.kola_values.specs.Sets.{any, set_of}
use Rattle.kola_load.specs.JsonData.{data_of, fits}
use Rattle.kola_load.specs.Loading.{db_of}
use Rattle.kola_load.specs.Loaded.{json_text}
use Rattle.kola_load.specs.declared.fault.DbFault.{DbFault}
use Rattle.kola_load.specs.declared.fault.DbFault.TheVariants.{NotObject, UnknownExtent, NotAnArray, NotAnObject, BadId, TwiceId, UnknownAttribute, MissingAttribute, WrongType, NoSuchObject, KeyRepeats}

abbrev person : Class
person = record {
  name = codes "Person";
  extent = codes "Persons";
  attributes = (codes "ssn", TStr) ∷ (codes "first", TStr) ∷ (codes "last", TStr) ∷ (codes "cars", TSet (TClass (codes "Vehicle"))) ∷ [];
  keys = (codes "ssn" ∷ []) ∷ (codes "first" ∷ codes "last" ∷ []) ∷ [];
}

abbrev vehicle : Class
vehicle = record { name = codes "Vehicle"; extent = codes "Vehicles"; attributes = (codes "year", TInt) ∷ []; keys = [] }

abbrev sample : Classes
sample = person ∷ vehicle ∷ []

-- what a text writes
abbrev loaded : List ℕ → Option (Result Objects DbFault)
loaded text = option_map (db_of sample) (read text)

-- ---- texts of blanks

no_byte : json_text [] ≡ codes "{}"
no_byte = refl

blanks : json_text (32 ∷ 9 ∷ 13 ∷ 10 ∷ []) ≡ codes "{}"
blanks = refl

another_byte : json_text (32 ∷ 11 ∷ []) ≡ 32 ∷ 11 ∷ []
another_byte = refl

-- ---- what a value reads as

-- {"b": "x", "a": 7, "b": [-7, 300]}
abbrev twice_b : json.Json
twice_b = json.object (json.member (codes "b") (json.string (codes "x")) (json.member (codes "a") (json.number (codes "7")) (json.member (codes "b") (json.array (json.item (json.number (codes "-7")) (json.item (json.number (codes "300")) json.no_items))) json.no_members)))

the_last_b : data_of twice_b ≡ object (member (codes "a") (number (unsigned 7)) (member (codes "b") (array (item (number (negative (negsuc 6))) (item (number (unsigned 300)) no_items))) no_members))
unfolding serde_json_on_literals
the_last_b = refl

small_enough : fits twice_b ≡ true
unfolding serde_json_on_literals
small_enough = refl

too_large : fits (json.array (json.item (json.number (codes "7")) (json.item (json.number (codes "1e400")) json.no_items))) ≡ false
unfolding serde_json_on_literals
too_large = refl

-- ---- no fault

no_member : loaded (codes "{}") ≡ Some (Ok [])
unfolding serde_json_on_literals same any set_of
no_member = refl

abbrev someone : ℕ → List ℕ → List ℕ → Object
someone id ssn first = record {
  class = codes "Person";
  id = id;
  values = (codes "ssn", VStr ssn) ∷ (codes "first", VStr first) ∷ (codes "last", VStr (codes "Lee")) ∷ (codes "cars", VSet (of_items (VObj (codes "Vehicle") 1 ∷ []))) ∷ [];
}

abbrev some_vehicle : ℕ → ℕ → Object
some_vehicle id year = record { class = codes "Vehicle"; id = id; values = (codes "year", VInt (pos year)) ∷ [] }

-- references stand before what they name, and a member of a set stands twice
two_persons : loaded (codes "{\"Persons\":[{\"#\":1,\"ssn\":\"a\",\"first\":\"Ann\",\"last\":\"Lee\",\"cars\":[1]},{\"#\":2,\"ssn\":\"b\",\"first\":\"Bob\",\"last\":\"Lee\",\"cars\":[1,1]}],\"Vehicles\":[{\"#\":1,\"year\":1990},{\"#\":2,\"year\":2001}]}") ≡ Some (Ok (someone 1 (codes "a") (codes "Ann") ∷ someone 2 (codes "b") (codes "Bob") ∷ some_vehicle 1 1990 ∷ some_vehicle 2 2001 ∷ []))
unfolding serde_json_on_literals same any set_of
two_persons = refl

-- the extents may stand in any order, and the last of two members of one name counts
last_member : loaded (codes "{\"Vehicles\":[{\"#\":1,\"year\":\"x\",\"year\":2001}],\"Persons\":7,\"Persons\":[]}") ≡ Some (Ok (some_vehicle 1 2001 ∷ []))
unfolding serde_json_on_literals same any set_of
last_member = refl

-- ---- phase 1

no_object : loaded (codes "[]") ≡ Some (Err NotObject)
unfolding serde_json_on_literals same any set_of
no_object = refl

unknown_extents : loaded (codes "{\"Wheels\":[],\"Boats\":[],\"Persons\":7}") ≡ Some (Err (UnknownExtent (codes "Boats")))
unfolding serde_json_on_literals same any set_of
unknown_extents = refl

-- ---- phase 2

extent_that_is_no_array : loaded (codes "{\"Persons\":{}}") ≡ Some (Err (NotAnArray (codes "Persons")))
unfolding serde_json_on_literals same any set_of
extent_that_is_no_array = refl

element_that_is_no_object : loaded (codes "{\"Vehicles\":[{\"#\":1,\"year\":1},1]}") ≡ Some (Err (NotAnObject (codes "Vehicles") 1))
unfolding serde_json_on_literals same any set_of
element_that_is_no_object = refl

absent_id : loaded (codes "{\"Vehicles\":[{\"year\":1}]}") ≡ Some (Err (BadId (codes "Vehicles") 0))
unfolding serde_json_on_literals same any set_of
absent_id = refl

id_of_zero : loaded (codes "{\"Vehicles\":[{\"#\":1},{\"#\":0}]}") ≡ Some (Err (BadId (codes "Vehicles") 1))
unfolding serde_json_on_literals same any set_of
id_of_zero = refl

greatest_id_and_one_more : loaded (codes "{\"Vehicles\":[{\"#\":4294967295},{\"#\":4294967296}]}") ≡ Some (Err (BadId (codes "Vehicles") 1))
unfolding serde_json_on_literals same any set_of
greatest_id_and_one_more = refl

id_twice : loaded (codes "{\"Vehicles\":[{\"#\":1},{\"#\":2},{\"#\":1},{\"#\":0}]}") ≡ Some (Err (TwiceId (codes "Vehicles") 1))
unfolding serde_json_on_literals same any set_of
id_twice = refl

second_phase_before_the_third : loaded (codes "{\"Persons\":[{\"#\":1,\"age\":1}],\"Vehicles\":7}") ≡ Some (Err (NotAnArray (codes "Vehicles")))
unfolding serde_json_on_literals same any set_of
second_phase_before_the_third = refl

-- ---- phase 3

unknown_attribute : loaded (codes "{\"Vehicles\":[{\"#\":3,\"wheels\":4,\"doors\":2}]}") ≡ Some (Err (UnknownAttribute (codes "Vehicle") 3 (codes "doors")))
unfolding serde_json_on_literals same any set_of
unknown_attribute = refl

missing_attribute : loaded (codes "{\"Vehicles\":[{\"#\":3}]}") ≡ Some (Err (MissingAttribute (codes "Vehicle") 3 (codes "year")))
unfolding serde_json_on_literals same any set_of
missing_attribute = refl

fraction : loaded (codes "{\"Persons\":[{\"#\":1,\"ssn\":\"a\",\"first\":\"Ann\",\"last\":\"Lee\",\"cars\":[1]},{\"#\":2,\"ssn\":\"b\",\"first\":\"Bob\",\"last\":\"Lee\",\"cars\":[1,1]}],\"Vehicles\":[{\"#\":1,\"year\":1.5}]}") ≡ Some (Err (WrongType (codes "Vehicle") 1 (codes "year")))
unfolding serde_json_on_literals same any set_of
fraction = refl

reference_of_zero : loaded (codes "{\"Persons\":[{\"#\":1,\"ssn\":\"a\",\"first\":\"Ann\",\"last\":\"Lee\",\"cars\":[7,0]},{\"#\":2,\"ssn\":\"b\",\"first\":\"Bob\",\"last\":\"Lee\",\"cars\":[1,1]}],\"Vehicles\":[{\"#\":1,\"year\":1990},{\"#\":2,\"year\":2001}]}") ≡ Some (Err (WrongType (codes "Person") 1 (codes "cars")))
unfolding serde_json_on_literals same any set_of
reference_of_zero = refl

no_such_object : loaded (codes "{\"Persons\":[{\"#\":1,\"ssn\":\"a\",\"first\":\"Ann\",\"last\":\"Lee\",\"cars\":[1,7,8]},{\"#\":2,\"ssn\":\"b\",\"first\":\"Bob\",\"last\":\"Lee\",\"cars\":[1,1]}],\"Vehicles\":[{\"#\":1,\"year\":1990},{\"#\":2,\"year\":2001}]}") ≡ Some (Err (NoSuchObject (codes "Person") 1 (codes "cars") 7))
unfolding serde_json_on_literals same any set_of
no_such_object = refl

attributes_in_declared_order : loaded (codes "{\"Persons\":[{\"#\":1,\"cars\":[7],\"last\":7,\"ssn\":\"a\"}]}") ≡ Some (Err (MissingAttribute (codes "Person") 1 (codes "first")))
unfolding serde_json_on_literals same any set_of
attributes_in_declared_order = refl

-- ---- phase 4

repeated_key : loaded (codes "{\"Persons\":[{\"#\":1,\"ssn\":\"a\",\"first\":\"Ann\",\"last\":\"Lee\",\"cars\":[1]},{\"#\":2,\"ssn\":\"a\",\"first\":\"Bob\",\"last\":\"Lee\",\"cars\":[1,1]}],\"Vehicles\":[{\"#\":1,\"year\":1990},{\"#\":2,\"year\":2001}]}") ≡ Some (Err (KeyRepeats (codes "Person") 1 1 2))
unfolding serde_json_on_literals same any set_of
repeated_key = refl

repeated_names : loaded (codes "{\"Persons\":[{\"#\":1,\"ssn\":\"a\",\"first\":\"Ann\",\"last\":\"Lee\",\"cars\":[1]},{\"#\":2,\"ssn\":\"b\",\"first\":\"Ann\",\"last\":\"Lee\",\"cars\":[1,1]}],\"Vehicles\":[{\"#\":1,\"year\":1990},{\"#\":2,\"year\":2001}]}") ≡ Some (Err (KeyRepeats (codes "Person") 2 1 2))
unfolding serde_json_on_literals same any set_of
repeated_names = refl

first_repeat : loaded (codes "{\"Persons\":[{\"#\":1,\"ssn\":\"a\",\"first\":\"Ann\",\"last\":\"Lee\",\"cars\":[1]},{\"#\":2,\"ssn\":\"b\",\"first\":\"Bob\",\"last\":\"Lee\",\"cars\":[1,1]},{\"#\":7,\"ssn\":\"c\",\"first\":\"Bob\",\"last\":\"Lee\",\"cars\":[]},{\"#\":5,\"ssn\":\"d\",\"first\":\"Ann\",\"last\":\"Lee\",\"cars\":[]}],\"Vehicles\":[{\"#\":1,\"year\":1990},{\"#\":2,\"year\":2001}]}") ≡ Some (Err (KeyRepeats (codes "Person") 2 2 7))
unfolding serde_json_on_literals same any set_of
first_repeat = refl
