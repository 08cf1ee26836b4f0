-- The values of an object at the places of a key are those of the key's names.
use Rattle.std.proofs.Common.{◌≡◌, ℕ, zero, suc, ◌<◌, List, [], ◌∷◌, length, get_or, map, position, refl, sym, ap, subst, arith}
use Rattle.std.specs.Str.{bytes_eq}
use Rattle.serde_json.specs.Data.{Data}
use Rattle.kola_values.specs.Types.{TypeTree}
use Rattle.kola_values.specs.Databases.{Class, Object, Classes, Objects, value_or_unit}
use Rattle.kola_database.specs.KeyedObjects.{value_at_name}
use Rattle.kola_schema.specs.Schemas.{names_of}
use Rattle.kola_values.specs.Sets.{Each}
use Rattle.kola_schema.proofs.Places.{entry_at_place}
use Rattle.kola_load.specs.KeyViews.{value_at_place, AreOfClass, AreOfClasses}
use Rattle.kola_load.specs.Written.{attribute_in, object_in, objects_in, extent_of}

-- ---- names and places

-- what an object says at the places of a key
pub said_at_places : (k : Class) (o : Object) → names_of o.values ≡ names_of k.attributes → (key : List (List ℕ)) → map (value_at_place o.values) (map (λ a. position (bytes_eq a) (names_of k.attributes)) key) ≡ map (λ a. value_at_name o a) key
said_at_places k o e [] = refl
said_at_places k o e (a ∷ key) = λ i. ap value_or_unit (entry_at_place o.values a (position (bytes_eq a) (names_of k.attributes)) (ap (position (bytes_eq a)) (sym e))) i ∷ said_at_places k o e key i

-- ---- objects of a class

pub each_at_place : {A : Type 0} (P : A → Type 0) (xs : List A) (i : ℕ) (x : A) → Each P xs → i < length xs → x ≡ get_or xs i x → P x
each_at_place P [] i x h p e = absurd (omega arith)
each_at_place P (y ∷ xs) zero x h p e = subst P (sym e) h.0
each_at_place P (y ∷ xs) (suc i) x h p e = each_at_place P xs i x h.1 (omega arith) e

pub as_many : (S : Classes) (oss : List Objects) → AreOfClasses S oss → length oss ≡ length S
as_many [] [] h = refl
as_many [] (os ∷ oss) h = absurd h
as_many (k ∷ S) [] h = absurd h
as_many (k ∷ S) (os ∷ oss) h = ap suc (as_many S oss h.1)

pub of_class_at : (S : Classes) (oss : List Objects) (i : ℕ) (k : Class) (os : Objects) → AreOfClasses S oss → i < length S → k ≡ get_or S i k → os ≡ get_or oss i os → AreOfClass k os
of_class_at [] oss i k os h p e f = absurd (omega arith)
of_class_at (c ∷ S) [] i k os h p e f = absurd h
of_class_at (c ∷ S) (ps ∷ oss) zero k os h p e f = subst (λ (x : Class). AreOfClass x os) (sym e) (subst (AreOfClass c) (sym f) h.0)
of_class_at (c ∷ S) (ps ∷ oss) (suc i) k os h p e f = of_class_at S oss i k os h.1 (omega arith) e f

pub names_kept : (d : Data) (attributes : List (List ℕ × TypeTree)) → names_of (map (attribute_in d) attributes) ≡ names_of attributes
names_kept d [] = refl
names_kept d (a ∷ attributes) = ap (λ l. a.0 ∷ l) (names_kept d attributes)

pub all_of_classes : (j : Data) (S : Classes) → AreOfClasses S (map (objects_in j) S)
all_of_classes j [] = tt
all_of_classes j (k ∷ S) = (of_class (extent_of j k), all_of_classes j S)
  where
    of_class : (ds : List Data) → AreOfClass k (map (object_in k) ds)
    of_class [] = tt
    of_class (d ∷ ds) = (names_kept d k.attributes, of_class ds)
