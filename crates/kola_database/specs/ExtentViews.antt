-- What the fields of a database of the program keep: the objects in rising order, where those of each class stand, each extent as their set.
use Rattle.std.specs.Prelude.{ℕ, true, List, [], ◌∷◌, ◌≡◌, map, filter, take, drop}
use Rattle.std.specs.Str.{bytes_eq}
use Rattle.kola_values.specs.Sets.{Rising, Each, canon}
use Rattle.kola_values.specs.Databases.{Class, Object, Classes, Objects, objects_of}
use Rattle.kola_schema.specs.Meets.{object_values}
use Rattle.kola_schema.specs.Schemas.{are_distinct, names_of}
use Rattle.kola_database.specs.ObjectViews.{object_tree}
use Rattle.kola_database.specs.declared.db.Extent.{Extent}
use Rattle.kola_database.specs.declared.object.ObjectDef.{ObjectDef}

-- the name of an extent with its class
abbrev pub extent_entry : Extent → List ℕ × List ℕ
extent_entry x = (x.name, x.class)

-- the names of the attributes of its class
abbrev pub extent_labels : Extent → List (List ℕ)
extent_labels x = x.attributes

-- the extent of a class in a database
abbrev pub extent_of : Objects → Class → Extent
extent_of d k = record { name = k.extent; class = k.name; attributes = names_of k.attributes; members = objects_of k.name d }

abbrev pub filled : Classes → Objects → List Extent
filled S d = map (extent_of d) S

-- where the objects of a class stand in a list: the place of the first, and how many they are
abbrev pub IsRange : List ObjectDef → List ℕ → ℕ × ℕ → Type 0
IsRange os c r = take r.1 (drop r.0 os) ≡ filter (λ (o : ObjectDef). bytes_eq c o.class) os

abbrev pub AreRanges : List ObjectDef → List (List ℕ) → List (ℕ × ℕ) → Type 0
AreRanges os [] [] = Unit {0}
AreRanges os (c ∷ cs) (r ∷ rs) = IsRange os c r × AreRanges os cs rs
AreRanges os _ _ = ⊥

pub record IsStored (os : List ObjectDef) (extents : List Extent) (ranges : List (ℕ × ℕ)) (names : List (List ℕ)) : Type 0 where
  pub rises : Rising (object_values (map object_tree os))
  pub sets : Each (λ (x : Extent). x.members ≡ canon (objects_of x.class (map object_tree os))) extents
  pub ranged : AreRanges os (map (λ (x : Extent). x.class) extents) ranges
  pub named : names ≡ map (λ (x : Extent). x.name) extents
  pub once : Each (λ (o : Object). are_distinct (names_of o.values) ≡ true) (map object_tree os)
