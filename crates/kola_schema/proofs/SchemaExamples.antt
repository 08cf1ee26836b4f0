-- The test of a schema and the look-ups at a sample: persons with their cars.
use Rattle.std.proofs.Common.{◌≡◌, ℕ, true, false, List, [], ◌∷◌, Some, None, codes, refl}
use Rattle.kola_values.specs.Types.{TypeTree, TInt, TStr, TUnit, TClass, TVar, TSet}
use Rattle.kola_values.specs.Databases.{Class, Classes, attribute_type, extent_class}
use Rattle.kola_schema.specs.Schemas.{is_schema, extent_named, key_at}

abbrev pub car_type : TypeTree
car_type = TSet (TClass (codes "Vehicle"))

abbrev pub person : List (List (List ℕ)) → Class
person keys = record {
  name = codes "Person";
  extent = codes "Persons";
  attributes = (codes "ssn", TStr) ∷ (codes "first", TStr) ∷ (codes "last", TStr) ∷ (codes "cars", car_type) ∷ [];
  keys = keys;
}

abbrev pub person_keys : List (List (List ℕ))
person_keys = (codes "ssn" ∷ []) ∷ (codes "first" ∷ codes "last" ∷ []) ∷ []

-- a class with one attribute
abbrev pub vehicle : List ℕ → List ℕ → TypeTree → Class
vehicle name extent t = record { name = name; extent = extent; attributes = (codes "year", t) ∷ []; keys = [] }

abbrev pub sample : Classes
sample = person person_keys ∷ vehicle (codes "Vehicle") (codes "Vehicles") TInt ∷ []

-- ---- the test

no_class : is_schema [] ≡ true
no_class = refl

the_sample : is_schema sample ≡ true
the_sample = refl

class_that_is_not_there : is_schema (person person_keys ∷ []) ≡ false
class_that_is_not_there = refl

key_of_no_attribute : is_schema (person ((codes "age" ∷ []) ∷ []) ∷ vehicle (codes "Vehicle") (codes "Vehicles") TInt ∷ []) ≡ false
key_of_no_attribute = refl

empty_key : is_schema (person ([] ∷ []) ∷ vehicle (codes "Vehicle") (codes "Vehicles") TInt ∷ []) ≡ false
empty_key = refl

repeated_extent : is_schema (person person_keys ∷ vehicle (codes "Vehicle") (codes "Persons") TInt ∷ []) ≡ false
repeated_extent = refl

repeated_name : is_schema (vehicle (codes "Vehicle") (codes "Vehicles") TInt ∷ vehicle (codes "Vehicle") (codes "Cars") TInt ∷ []) ≡ false
repeated_name = refl

class_and_extent_of_one_name : is_schema (vehicle (codes "Vehicle") (codes "Vehicle") TInt ∷ []) ≡ true
class_and_extent_of_one_name = refl

unit_attribute : is_schema (vehicle (codes "Vehicle") (codes "Vehicles") TUnit ∷ []) ≡ false
unit_attribute = refl

set_of_variables : is_schema (vehicle (codes "Vehicle") (codes "Vehicles") (TSet (TVar (codes "T"))) ∷ []) ≡ false
set_of_variables = refl

-- ---- the look-ups

class_of_an_extent : extent_class sample (codes "Vehicles") ≡ Some (codes "Vehicle")
class_of_an_extent = refl

class_of_a_class_name : extent_class sample (codes "Vehicle") ≡ None
class_of_a_class_name = refl

extent_of_a_class : extent_named sample (codes "Vehicle") ≡ Some (codes "Vehicles")
extent_of_a_class = refl

attribute_of_the_second_class : attribute_type sample (codes "Vehicle") (codes "year") ≡ Some TInt
attribute_of_the_second_class = refl

attribute_of_another_class : attribute_type sample (codes "Vehicle") (codes "cars") ≡ None
attribute_of_another_class = refl

second_key : key_at sample (codes "Person") 1 ≡ Some (codes "first" ∷ codes "last" ∷ [])
second_key = refl

third_key : key_at sample (codes "Person") 2 ≡ None
third_key = refl
