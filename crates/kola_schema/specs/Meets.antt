-- When a database meets a schema: ids are distinct within a class, each object fits its class, and no two objects of a class agree on a key.
use Rattle.std.specs.Prelude.{ℕ, ◌≤◌, ◌&&◌, Bool, true, false, List, [], ◌∷◌, Some, ◌≡◌, map}
use Rattle.kola_values.specs.Values.{ValueTree, VObj}
use Rattle.kola_values.specs.Limits.{greatest_id}
use Rattle.kola_values.specs.Order.{same}
use Rattle.kola_values.specs.Types.{TypeTree, TClass}
use Rattle.kola_values.specs.Sets.{Each, has}
use Rattle.kola_values.specs.Databases.{Class, Object, Classes, Objects, look_up, value_or_unit, attribute_type, attribute_of, HasType}
use Rattle.kola_core.specs.NameLists.{is_listed}
use Rattle.kola_schema.specs.Schemas.{are_distinct, names_of, class_named, key_at}

-- an object has exactly the attributes of its class, each once and with a value of its type, and an id from 1 to the greatest
pub record FitsClass (S : Classes) (d : Objects) (o : Object) : Type 0 where
  pub class : Class
  pub is : class_named S o.class ≡ Some class
  pub once : are_distinct (names_of o.values) ≡ true
  pub exactly : (a : List ℕ) → is_listed a (names_of o.values) ≡ is_listed a (names_of class.attributes)
  pub types : (a : List ℕ) (t : TypeTree) → attribute_type S o.class a ≡ Some t → HasType d (value_or_unit (look_up a o.values)) t
  pub id_low : 1 ≤ o.id
  pub id_high : o.id ≤ greatest_id

-- no value stands twice
abbrev pub NoneTwice : List ValueTree → Type 0
NoneTwice [] = Unit {0}
NoneTwice (v ∷ vs) = (has v vs ≡ false) × NoneTwice vs

-- the objects, each as a value
abbrev pub object_values : Objects → List ValueTree
object_values d = map (λ (o : Object). VObj o.class o.id) d

-- two objects agree on each attribute of a list
abbrev pub agree_on : Objects → List (List ℕ) → ValueTree → ValueTree → Bool
agree_on d [] v w = true
agree_on d (a ∷ more_names) v w = same (attribute_of a d v) (attribute_of a d w) && agree_on d more_names v w

pub record Meets (S : Classes) (d : Objects) : Type 0 where
  pub distinct : NoneTwice (object_values d)
  pub fits : Each (FitsClass S d) d
  pub keys : (c : List ℕ) (n : ℕ) (key : List (List ℕ)) (v w : ValueTree) → key_at S c n ≡ Some key
      → HasType d v (TClass c) → HasType d w (TClass c) → agree_on d key v w ≡ true → v ≡ w
