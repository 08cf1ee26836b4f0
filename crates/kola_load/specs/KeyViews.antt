-- The values of an object at a key, as the program keeps them, and their order.
use Rattle.std.specs.Prelude.{◌≡◌, ℕ, List, [], ◌∷◌, Option, None, map, slice_get, option_map, option_and_then}
use Rattle.std.specs.Option.{option_or}
use Rattle.std.specs.declared.cmp.Ordering.{Ordering}
use Rattle.std.specs.Ordering.{eq_by_cmp}
use Rattle.std.specs.Cmp.{IsTotalOrder, IsEquivalence, on_total}
use Rattle.std.proofs.lemmas.Cmp.{lists_total, eq_by_cmp_equiv}
use Rattle.kola_values.specs.Values.{ValueTree}
use Rattle.kola_database.specs.KeyedObjects.{cmp_keyed}
use Rattle.kola_values.specs.Models.Total.{cmp_total}
use Rattle.kola_values.specs.Views.{value_at}
use Rattle.kola_values.specs.Databases.{Class, Object, Classes, Objects, value_or_unit}
use Rattle.kola_schema.specs.Schemas.{names_of}
use Rattle.kola_values.specs.Sets.{Each}
use Rattle.kola_load.specs.Loading.{Test, keys_fault}
use Rattle.kola_load.specs.declared.keys.KeyOf.{KeyOf}

abbrev pub key_tree : KeyOf → List ValueTree
key_tree k = map value_at k.values.items

-- they are ordered as lists of values
abbrev pub key_cmp : KeyOf → KeyOf → Ordering
key_cmp x y = cmp_keyed (key_tree x) (key_tree y)

pub key_total : IsTotalOrder key_cmp
key_total = on_total key_tree (lists_total cmp_total)

pub key_equiv : IsEquivalence (eq_by_cmp key_cmp)
key_equiv = eq_by_cmp_equiv key_total

-- the value of an object at a place of its attributes
abbrev pub value_at_place : List (List ℕ × ValueTree) → Option ℕ → ValueTree
value_at_place vs place = value_or_unit (option_map (λ e. e.1) (option_and_then (λ i. slice_get vs i) place))

-- objects have the attributes of a class, in the class's order; so have lists of objects those of each class
abbrev pub AreOfClass : Class → Objects → Type 0
AreOfClass k os = Each (λ (o : Object). names_of o.values ≡ names_of k.attributes) os

abbrev pub AreOfClasses : Classes → List Objects → Type 0
AreOfClasses [] [] = Unit {0}
AreOfClasses (k ∷ ks) (os ∷ oss) = AreOfClass k os × AreOfClasses ks oss
AreOfClasses _ _ = ⊥

-- the first fault of keys, where the objects of each class stand in a list of their own
abbrev pub lists_fault : Classes → List Objects → Test
lists_fault [] oss = None
lists_fault (k ∷ ks) [] = None
lists_fault (k ∷ ks) (os ∷ oss) = option_or (keys_fault k os) (lists_fault ks oss)
