-- The test of objects against a schema at a sample: persons with their cars.
use Rattle.std.proofs.Common.{◌≡◌, ◌≤◌, ℕ, Bool, true, false, true≢false, cond, List, [], ◌∷◌, Some, None, codes, refl, sym, ◌∙◌, subst, pos, arith}
use Rattle.std.specs.Str.{bytes_eq}
use Rattle.kola_values.specs.Values.{ValueTree, VInt, VStr, VObj, VSet, of_items}
use Rattle.kola_values.specs.Types.{TypeTree, TInt, TSet, TClass}
use Rattle.kola_values.specs.Databases.{Object, Objects, value_or_unit, attribute_type, look_up, HasType}
use Rattle.kola_values.specs.WellFormed.{WellFormed}
use Rattle.kola_schema.specs.Meets.{FitsClass, Meets, agree_on}
use Rattle.kola_values.specs.Order.{same}
use Rattle.kola_values.specs.Sets.{any}
use Rattle.kola_database.specs.MeetsTests.{IsHeld, has_type, clash, keys_are_met, meets}
use Rattle.kola_database.proofs.Meeting.{meets_from, meets_to}
use Rattle.kola_schema.proofs.SchemaExamples.{person, vehicle, sample}

-- a person with an ssn, a first and a last name, whose one car is the vehicle of the id
abbrev someone : ℕ → List ℕ → List ℕ → List ℕ → ValueTree → Object
someone id ssn first last car = record {
  class = codes "Person";
  id = id;
  values = (codes "ssn", VStr ssn) ∷ (codes "first", VStr first) ∷ (codes "last", VStr last) ∷ (codes "cars", VSet (of_items (car ∷ []))) ∷ [];
}

abbrev some_vehicle : ℕ → Object
some_vehicle id = record { class = codes "Vehicle"; id = id; values = (codes "year", VInt (pos 1990)) ∷ [] }

abbrev car : ℕ → ValueTree
car id = VObj (codes "Vehicle") id

abbrev ann : Object
ann = someone 1 (codes "a") (codes "Ann") (codes "Lee") (car 1)

abbrev bob : Object
bob = someone 2 (codes "b") (codes "Bob") (codes "Lee") (car 1)

-- ---- types

a_car_that_is_there : has_type (ann ∷ some_vehicle 1 ∷ []) (VSet (of_items (car 1 ∷ []))) (TSet (TClass (codes "Vehicle"))) ≡ true
unfolding same any
a_car_that_is_there = refl

a_car_that_is_not_there : has_type (ann ∷ some_vehicle 1 ∷ []) (VSet (of_items (car 7 ∷ []))) (TSet (TClass (codes "Vehicle"))) ≡ false
unfolding same any
a_car_that_is_not_there = refl

a_person_is_no_car : has_type (ann ∷ some_vehicle 1 ∷ []) (VObj (codes "Person") 1) (TClass (codes "Vehicle")) ≡ false
unfolding same any
a_person_is_no_car = refl

-- ---- keys of two attributes

one_last_name : clash (Some (person ((codes "first" ∷ codes "last" ∷ []) ∷ []))) ann bob ≡ false
unfolding same
one_last_name = refl

one_first_and_last_name : clash (Some (person ((codes "first" ∷ codes "last" ∷ []) ∷ []))) ann (someone 2 (codes "b") (codes "Ann") (codes "Lee") (car 1)) ≡ true
unfolding same
one_first_and_last_name = refl

-- ---- databases

abbrev database : Objects
database = ann ∷ bob ∷ some_vehicle 1 ∷ some_vehicle 2 ∷ []

the_database : meets sample database ≡ true
unfolding same any
the_database = refl

one_ssn : keys_are_met sample (ann ∷ someone 2 (codes "a") (codes "Bob") (codes "Lee") (car 1) ∷ some_vehicle 1 ∷ []) ≡ false
unfolding same
one_ssn = refl

one_id : meets sample (ann ∷ some_vehicle 1 ∷ some_vehicle 1 ∷ []) ≡ false
unfolding same any
one_id = refl

id_0 : meets sample (some_vehicle 0 ∷ []) ≡ false
unfolding same any
id_0 = refl

-- ---- what it is to meet a schema

held_car : WellFormed (VSet (of_items (car 1 ∷ [])))
held_car = ((tt, tt), (omega arith, tt))

held_someone : (id : ℕ) (ssn first last : List ℕ) → id ≤ 4294967295 → IsHeld (someone id ssn first last (car 1))
held_someone id ssn first last p = ((tt, (tt, (tt, (held_car, tt)))), p)

held_vehicle : (id : ℕ) → id ≤ 4294967295 → IsHeld (some_vehicle id)
held_vehicle id p = (((omega arith, omega arith), tt), p)

it_meets : Meets sample database
it_meets = meets_from sample database (held_someone 1 [] [] [] (omega arith), (held_someone 2 [] [] [] (omega arith), (held_vehicle 1 (omega arith), (held_vehicle 2 (omega arith), tt)))) the_database

the_greatest_id : Meets sample (some_vehicle 4294967295 ∷ [])
unfolding same any
the_greatest_id = meets_from sample (some_vehicle 4294967295 ∷ []) (held_vehicle 4294967295 (omega arith), tt) refl

two_of_one_id : Meets sample (ann ∷ some_vehicle 1 ∷ some_vehicle 1 ∷ []) → ⊥
two_of_one_id m = true≢false (sym (meets_to sample _ m) ∙ one_id)

type_of_year : (a : List ℕ) (t : TypeTree) → attribute_type sample (codes "Vehicle") a ≡ Some t → HasType database (value_or_unit (look_up a (some_vehicle 1).values)) t
type_of_year a t = at (bytes_eq a (codes "year"))
  where
    at : (b : Bool) → cond b (Some TInt) None ≡ Some t → HasType database (value_or_unit (cond b (Some (VInt (pos 1990))) None)) t
    at true e =
        let h : TInt ≡ t = cc in
        subst (HasType database (VInt (pos 1990))) h (omega arith, omega arith)
    at false e = cc

vehicle_fits : FitsClass sample database (some_vehicle 1)
vehicle_fits = record {
  class = vehicle (codes "Vehicle") (codes "Vehicles") TInt;
  is = refl;
  once = refl;
  exactly = λ a. refl;
  types = type_of_year;
  id_low = omega arith;
  id_high = omega arith;
}

id_0_fits_no_class : FitsClass sample database (some_vehicle 0) → ⊥
id_0_fits_no_class f = let h = f.id_low in omega arith

id_too_great : FitsClass sample database (some_vehicle 4294967296) → ⊥
id_too_great f = let h = f.id_high in omega arith

one_last_name_agrees : agree_on database (codes "last" ∷ []) (VObj (codes "Person") 1) (VObj (codes "Person") 2) ≡ true
unfolding same
one_last_name_agrees = refl

two_first_names_do_not : agree_on database (codes "last" ∷ codes "first" ∷ []) (VObj (codes "Person") 1) (VObj (codes "Person") 2) ≡ false
unfolding same
two_first_names_do_not = refl
