-- The look-ups of a stored database at a sample: two persons and a vehicle, which stand in no order.
use Rattle.std.proofs.Common.{◌≡◌, ℕ, pos, true, false, List, [], ◌∷◌, Some, None, codes, refl}
use Rattle.kola_values.specs.Values.{VUnit, VInt, VStr, VObj}
use Rattle.kola_values.specs.Order.{same}
use Rattle.kola_values.specs.Sets.{any, has}
use Rattle.kola_values.specs.Databases.{Object, Objects, objects_of, attribute_of}
use Rattle.kola_database.specs.Stored.{Database, extents_of, attributes_of, extent_in, extent_at, attribute_in, attribute_at}
use Rattle.kola_schema.proofs.SchemaExamples.{sample}

abbrev person : ℕ → List ℕ → Object
person i name = record { class = codes "Person"; id = i; values = (codes "first", VStr name) ∷ (codes "last", VStr (codes "Ito")) ∷ [] }

abbrev vehicle : Object
vehicle = record { class = codes "Vehicle"; id = 1; values = (codes "year", VInt (pos 1998)) ∷ [] }

abbrev objects : Objects
objects = person 2 (codes "Bo") ∷ vehicle ∷ person 1 (codes "Al") ∷ []

abbrev db : Database
db = record { objects = objects; extents = extents_of sample; attributes = attributes_of sample }

-- an extent is in the order of its values
persons : extent_in db (codes "Persons") ≡ Some (VObj (codes "Person") 1 ∷ VObj (codes "Person") 2 ∷ [])
unfolding same any
persons = refl

extent_of_a_class_name : extent_in db (codes "Person") ≡ None
extent_of_a_class_name = refl

attribute_of_the_last : attribute_in objects (codes "Person") 1 (codes "first") ≡ Some (VStr (codes "Al"))
unfolding same
attribute_of_the_last = refl

attribute_of_the_other_class : attribute_in objects (codes "Vehicle") 1 (codes "first") ≡ None
unfolding same
attribute_of_the_other_class = refl

attribute_of_no_object : attribute_in objects (codes "Person") 3 (codes "first") ≡ None
unfolding same
attribute_of_no_object = refl

-- what a query reads there
meant_of_no_object : attribute_of (codes "first") objects (VObj (codes "Person") 3) ≡ VUnit
unfolding same
meant_of_no_object = refl

object_of_the_class : has (VObj (codes "Person") 2) (objects_of (codes "Person") objects) ≡ true
unfolding same any
object_of_the_class = refl

object_of_another_class : has (VObj (codes "Vehicle") 2) (objects_of (codes "Vehicle") objects) ≡ false
unfolding same any
object_of_another_class = refl

-- ---- by numbers

persons_by_number : extent_at db 0 ≡ Some (VObj (codes "Person") 1 ∷ VObj (codes "Person") 2 ∷ [])
unfolding same any
persons_by_number = refl

extent_of_no_class : extent_at db 2 ≡ None
extent_of_no_class = refl

-- an object that lists its values in another order than its class
last_by_number : attribute_at db 0 2 2 ≡ Some (VStr (codes "Ito"))
unfolding same
last_by_number = refl

year_by_number : attribute_at db 1 1 0 ≡ Some (VInt (pos 1998))
unfolding same
year_by_number = refl

attribute_past_the_last : attribute_at db 1 1 1 ≡ None
attribute_past_the_last = refl

id_of_no_object : attribute_at db 1 2 0 ≡ None
unfolding same
id_of_no_object = refl
