-- A sample schema and a database that meets it: persons with their cars.
use Rattle.std.specs.Prelude.{ℕ, pos, List, [], ◌∷◌, codes}
use Rattle.kola_values.specs.Values.{VInt, VStr, VObj, VSet, of_items}
use Rattle.kola_values.specs.Types.{TStr, TInt, TSet, TClass}
use Rattle.kola_values.specs.Databases.{Class, Object, Classes, Objects}

abbrev pub person_class : Class
person_class = record {
  name = codes "Person";
  extent = codes "Persons";
  attributes = (codes "ssn", TStr) ∷ (codes "first", TStr) ∷ (codes "last", TStr) ∷ (codes "cars", TSet (TClass (codes "Vehicle"))) ∷ [];
  keys = (codes "ssn" ∷ []) ∷ (codes "first" ∷ codes "last" ∷ []) ∷ [];
}

abbrev pub vehicle_class : Class
vehicle_class = record { name = codes "Vehicle"; extent = codes "Vehicles"; attributes = (codes "year", TInt) ∷ []; keys = [] }

abbrev pub sample_schema : Classes
sample_schema = person_class ∷ vehicle_class ∷ []

abbrev pub person : ℕ → List ℕ → List ℕ → Object
person id ssn first = record {
  class = codes "Person";
  id = id;
  values = (codes "ssn", VStr ssn) ∷ (codes "first", VStr first) ∷ (codes "last", VStr (codes "Lee"))
      ∷ (codes "cars", VSet (of_items (VObj (codes "Vehicle") 1 ∷ []))) ∷ [];
}

abbrev pub vehicle : ℕ → ℕ → Object
vehicle id year = record { class = codes "Vehicle"; id = id; values = (codes "year", VInt (pos year)) ∷ [] }

abbrev pub sample_database : Objects
sample_database = person 1 (codes "a") (codes "Ann") ∷ person 2 (codes "b") (codes "Bob") ∷ vehicle 1 1990 ∷ vehicle 2 2001 ∷ []
