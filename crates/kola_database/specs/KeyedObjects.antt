-- What each key of its class says of an object, so that two objects clash where a key says the same of them.
use Rattle.std.specs.Prelude.{ℕ, ◌+◌, Bool, List, [], ◌∷◌, Option, Some, None, map, flat_map}
use Rattle.std.specs.declared.cmp.Ordering.{Ordering}
use Rattle.std.specs.Cmp.Lexicographic.{slice_cmp}
use Rattle.std.specs.Ordering.{is_eq}
use Rattle.kola_values.specs.Values.{ValueTree, VObj}
use Rattle.kola_values.specs.Order.{cmp}
use Rattle.kola_values.specs.Databases.{Class, Object, Classes, Objects, look_up, value_or_unit}
use Rattle.kola_schema.specs.Schemas.{class_named}

-- the attribute of an object
abbrev pub value_at_name : Object → List ℕ → ValueTree
value_at_name o a = value_or_unit (look_up a o.values)

-- the class with the key's place, and the object's values at the key
abbrev pub keyed : Object → ℕ → List (List ℕ) → List ValueTree
keyed o n key = VObj o.class n ∷ map (λ a. value_at_name o a) key

-- what the keys of a list say, counted from a place on
abbrev pub keyed_from : Object → ℕ → List (List (List ℕ)) → List (List ValueTree)
keyed_from o n [] = []
keyed_from o n (key ∷ keys) = keyed o n key ∷ keyed_from o (n + 1) keys

abbrev pub all_keyed : Option Class → Object → List (List ValueTree)
all_keyed None o = []
all_keyed (Some k) o = keyed_from o 0 k.keys

abbrev pub keyed_objects : Classes → Objects → List (List ValueTree)
keyed_objects S d = flat_map (λ (o : Object). all_keyed (class_named S o.class) o) d

-- lists of values in their order
abbrev pub cmp_keyed : List ValueTree → List ValueTree → Ordering
cmp_keyed xs ys = slice_cmp cmp xs ys

abbrev pub same_keyed : List ValueTree → List ValueTree → Bool
same_keyed xs ys = is_eq (cmp_keyed xs ys)
