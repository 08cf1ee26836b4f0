-- What the look-ups of a stored database compute.
use Rattle.std.proofs.Common.{◌≡◌, ℕ, ◌+◌, ◌<◌, Bool, true, false, cond, ◌&&◌, ◌||◌, List, [], ◌∷◌, ◌++◌, Option, Some, None, is_some, length, get_or, map, filter, take, position, slice_get, option_map, option_and_then, refl, sym, ap, ◌∙◌, subst, IsPermutation}
use Rattle.std.specs.List.{find}
use Rattle.std.specs.List.Sorted.{IsSortedBy}
use Rattle.std.specs.Ordering.{is_lt}
use Rattle.std.proofs.lemmas.List.Sorted.{IsPermutation-map}
use Rattle.std.specs.Str.{bytes_eq}
use Rattle.kola_core.specs.declared.name.Name.{Name}
use Rattle.kola_core.proofs.Lists.{taken_more}
use Rattle.kola_values.specs.Values.{ValueTree, VObj}
use Rattle.kola_values.specs.Order.{cmp, same}
use Rattle.kola_values.specs.Sets.{Rising, Each, any, has, canon}
use Rattle.kola_values.specs.Databases.{Object, Classes, Objects, look_up, value_or_unit, extent_class, objects_of, attribute_of}
use Rattle.kola_schema.specs.Meets.{NoneTwice, object_values, FitsClass}
use Rattle.kola_database.specs.Stored.{extents_of, attributes_of, object_named, attribute_in}
use Rattle.kola_schema.specs.Schemas.{class_names, extent_names, are_distinct, names_of}
use Rattle.kola_values.specs.Views.{value_tree, value_entry}
use Rattle.kola_database.specs.ObjectViews.{object_tree}
use Rattle.kola_database.specs.ExtentViews.{extent_entry, extent_labels, filled}
use Rattle.kola_values.specs.declared.value.Value.{Value}
use Rattle.kola_database.specs.declared.object.ObjectDef.{ObjectDef}
use Rattle.kola_database.specs.declared.db.Extent.{Extent}
use Rattle.kola_values.proofs.Anys.{any_map, any_filter, equal, canon_rising}
use Rattle.kola_values.proofs.SameTypes.{name_itself}
use Rattle.kola_values.proofs.Merging.{rising_filter}
use Rattle.kola_schema.proofs.Schemas.{choose}
use Rattle.kola_schema.proofs.Places.{found_at_place}
use Rattle.kola_database.proofs.Rises.{sorted_rises}
use Rattle.kola_database.proofs.Reordered.{distinct_reordered}

-- ---- objects

-- an object of the program as a value
abbrev pub object_value : ObjectDef → ValueTree
object_value o = VObj o.class o.id

pub object_values_seen : (os : List ObjectDef) → map object_value os ≡ object_values (map object_tree os)
object_values_seen [] = refl
object_values_seen (o ∷ os) = ap (λ l. object_value o ∷ l) (object_values_seen os)

-- objects that were sorted, of which no two are the same
pub in_order : (xs ys : List ObjectDef) → IsPermutation xs ys → NoneTwice (object_values (map object_tree xs)) → IsSortedBy (λ x y. is_lt (cmp (object_value x) (object_value y))) ys → Rising (object_values (map object_tree ys))
in_order xs ys p n up =
    let apart = distinct_reordered (map object_tree xs) (map object_tree ys) (IsPermutation-map object_tree xs ys p) n in
    subst Rising (object_values_seen ys) (sorted_rises object_value ys up (subst NoneTwice (sym (object_values_seen ys)) apart))

pub object_found : (os : List ObjectDef) (c : List ℕ) (i : ℕ) → option_map object_tree (find (λ (o : ObjectDef). same (VObj c i) (object_value o)) os) ≡ object_named c i (map object_tree os)
object_found [] c i = refl
object_found (o ∷ os) c i = choose object_tree (same (VObj c i) (object_value o)) o (find (λ (p : ObjectDef). same (VObj c i) (object_value p)) os) (object_named c i (map object_tree os)) (object_found os c i)

some_named : (d : Objects) (c : List ℕ) (i : ℕ) → is_some (object_named c i d) ≡ any (λ (o : Object). same (VObj c i) (VObj o.class o.id)) d
unfolding any
some_named [] c i = refl
some_named (o ∷ d) c i = at (same (VObj c i) (VObj o.class o.id)) (some_named d c i)
  where
    at : (b : Bool) → is_some (object_named c i d) ≡ any (λ (o : Object). same (VObj c i) (VObj o.class o.id)) d
        → is_some (cond b (Some o) (object_named c i d)) ≡ (b || any (λ (o : Object). same (VObj c i) (VObj o.class o.id)) d)
    at true h = refl
    at false h = h

abbrev class_of_value : ValueTree → List ℕ
class_of_value (VObj c i) = c
class_of_value v = []

pub of_the_class : (c : List ℕ) (i : ℕ) (o : Object) → (bytes_eq c o.class && same (VObj c i) (VObj o.class o.id)) ≡ same (VObj c i) (VObj o.class o.id)
of_the_class c i o = at (same (VObj c i) (VObj o.class o.id)) refl
  where
    at : (b : Bool) → same (VObj c i) (VObj o.class o.id) ≡ b → (bytes_eq c o.class && b) ≡ b
    at true e = ap (λ n. bytes_eq c n && true) (sym (ap class_of_value (equal (VObj c i) (VObj o.class o.id) e))) ∙ ap (λ b. b && true) (name_itself c)
    at false e = both (bytes_eq c o.class)
      where
        both : (b : Bool) → (b && false) ≡ false
        both true = refl
        both false = refl

any_of_class : (d : Objects) (c : List ℕ) (i : ℕ) → any (λ (o : Object). bytes_eq c o.class && same (VObj c i) (VObj o.class o.id)) d ≡ any (λ (o : Object). same (VObj c i) (VObj o.class o.id)) d
unfolding any
any_of_class [] c i = refl
any_of_class (o ∷ d) c i = λ j. of_the_class c i o j || any_of_class d c i j

-- an object is found exactly where it is one of its class
pub object_is_there : (d : Objects) (c : List ℕ) (i : ℕ) → is_some (object_named c i d) ≡ has (VObj c i) (objects_of c d)
object_is_there d c i =
    some_named d c i
    ∙ sym (any_of_class d c i)
    ∙ sym (any_filter (λ (o : Object). same (VObj c i) (VObj o.class o.id)) (λ (o : Object). bytes_eq c o.class) d)
    ∙ sym (any_map (same (VObj c i)) (λ (o : Object). VObj o.class o.id) (filter (λ (o : Object). bytes_eq c o.class) d))

pub some_mapped : {A B : Type 0} (f : A → B) (r : Option A) → is_some (option_map f r) ≡ is_some r
some_mapped f (Some x) = refl
some_mapped f None = refl

-- ---- attributes

pub value_found : (es : List (Name × Value)) (n : List ℕ) → option_map (λ (e : Name × Value). value_tree e.1) (find (λ (e : Name × Value). bytes_eq n e.0) es) ≡ look_up n (map value_entry es)
value_found [] n = refl
value_found (e ∷ es) n = choose (λ (x : Name × Value). value_tree x.1) (bytes_eq n e.0) e (find (λ (x : Name × Value). bytes_eq n x.0) es) (look_up n (map value_entry es)) (value_found es n)

pub attribute_meant : (d : Objects) (a c : List ℕ) (i : ℕ) → attribute_of a d (VObj c i) ≡ value_or_unit (attribute_in d c i a)
attribute_meant [] a c i = refl
attribute_meant (o ∷ d) a c i = at (same (VObj c i) (VObj o.class o.id)) (attribute_meant d a c i)
  where
    at : (b : Bool) → attribute_of a d (VObj c i) ≡ value_or_unit (attribute_in d c i a)
        → cond b (value_or_unit (look_up a o.values)) (attribute_of a d (VObj c i)) ≡ value_or_unit (option_and_then (λ (x : Object). look_up a x.values) (cond b (Some o) (object_named c i d)))
    at true h = refl
    at false h = h

-- ---- extents

pub extent_meant : (S : Classes) (e : List ℕ) → look_up e (extents_of S) ≡ extent_class S e
extent_meant [] e = refl
extent_meant (k ∷ ks) e = ap (cond (bytes_eq e k.extent) (Some k.name)) (extent_meant ks e)

-- a value is an object of the class
abbrev is_object_of : List ℕ → ValueTree → Bool
is_object_of c (VObj e i) = bytes_eq c e
is_object_of c v = false

kept_first : (c : List ℕ) (d : Objects) → objects_of c d ≡ filter (is_object_of c) (object_values d)
kept_first c [] = refl
kept_first c (o ∷ d) = at (bytes_eq c o.class) (kept_first c d)
  where
    at : (b : Bool) → objects_of c d ≡ filter (is_object_of c) (object_values d)
        → map (λ (x : Object). VObj x.class x.id) (cond b (o ∷ filter (λ (x : Object). bytes_eq c x.class) d) (filter (λ (x : Object). bytes_eq c x.class) d)) ≡ cond b (VObj o.class o.id ∷ filter (is_object_of c) (object_values d)) (filter (is_object_of c) (object_values d))
    at true h = ap (λ l. VObj o.class o.id ∷ l) h
    at false h = h

pub class_rises : (c : List ℕ) (d : Objects) → Rising (object_values d) → Rising (objects_of c d)
class_rises c d r = subst Rising (sym (kept_first c d)) (rising_filter (is_object_of c) (object_values d) r)

-- the objects of a class among one more
pub one_more : (c : List ℕ) (d : Objects) (o : Object) → objects_of c (d ++ o ∷ []) ≡ cond (bytes_eq c o.class) (objects_of c d ++ VObj o.class o.id ∷ []) (objects_of c d)
one_more c [] o = at (bytes_eq c o.class)
  where
    at : (b : Bool) → map (λ (x : Object). VObj x.class x.id) (cond b (o ∷ []) []) ≡ cond b (VObj o.class o.id ∷ []) []
    at true = refl
    at false = refl
one_more c (p ∷ d) o = at (bytes_eq c p.class) (bytes_eq c o.class) (one_more c d o)
  where
    at : (b k : Bool) → objects_of c (d ++ o ∷ []) ≡ cond k (objects_of c d ++ VObj o.class o.id ∷ []) (objects_of c d)
        → map (λ (x : Object). VObj x.class x.id) (cond b (p ∷ filter (λ (x : Object). bytes_eq c x.class) (d ++ o ∷ [])) (filter (λ (x : Object). bytes_eq c x.class) (d ++ o ∷ [])))
        ≡ cond k (map (λ (x : Object). VObj x.class x.id) (cond b (p ∷ filter (λ (x : Object). bytes_eq c x.class) d) (filter (λ (x : Object). bytes_eq c x.class) d)) ++ VObj o.class o.id ∷ [])
        (map (λ (x : Object). VObj x.class x.id) (cond b (p ∷ filter (λ (x : Object). bytes_eq c x.class) d) (filter (λ (x : Object). bytes_eq c x.class) d)))
    at true true h = ap (λ l. VObj p.class p.id ∷ l) h
    at true false h = ap (λ l. VObj p.class p.id ∷ l) h
    at false true h = h
    at false false h = h

module _ (xs : List ObjectDef) (i : ℕ) (x : ObjectDef) (p : i < length xs) (e : x ≡ get_or xs i x) (c : List ℕ) (vs : List ValueTree) (h : vs ≡ objects_of c (take i (map object_tree xs))) where
  one_taken : objects_of c (take (i + 1) (map object_tree xs)) ≡ cond (bytes_eq c x.class) (objects_of c (take i (map object_tree xs)) ++ object_value x ∷ []) (objects_of c (take i (map object_tree xs)))
  one_taken = ap (objects_of c) (taken_more object_tree xs (map object_tree xs) i x refl p e) ∙ one_more c (take i (map object_tree xs)) (object_tree x)

  pub taken : bytes_eq c x.class ≡ true → vs ++ object_value x ∷ [] ≡ objects_of c (take (i + 1) (map object_tree xs))
  taken b =
      ap (λ l. l ++ object_value x ∷ []) h
      ∙ ap (λ k. cond k (objects_of c (take i (map object_tree xs)) ++ object_value x ∷ []) (objects_of c (take i (map object_tree xs)))) (sym b)
      ∙ sym one_taken

  pub passed : bytes_eq c x.class ≡ false → vs ≡ objects_of c (take (i + 1) (map object_tree xs))
  passed b =
      h
      ∙ ap (λ k. cond k (objects_of c (take i (map object_tree xs)) ++ object_value x ∷ []) (objects_of c (take i (map object_tree xs)))) (sym b)
      ∙ sym one_taken

pub filled_sets : (S : Classes) (d : Objects) → Rising (object_values d) → Each (λ (x : Extent). x.members ≡ canon (objects_of x.class d)) (filled S d)
filled_sets [] d r = tt
filled_sets (k ∷ ks) d r = (sym (canon_rising (objects_of k.name d) (class_rises k.name d r)), filled_sets ks d r)

pub filled_names : (S : Classes) (d : Objects) → map (λ (x : Extent). x.name) (filled S d) ≡ extent_names S
filled_names [] d = refl
filled_names (k ∷ ks) d = ap (λ l. k.extent ∷ l) (filled_names ks d)

pub filled_classes : (S : Classes) (d : Objects) → map (λ (x : Extent). x.class) (filled S d) ≡ class_names S
filled_classes [] d = refl
filled_classes (k ∷ ks) d = ap (λ l. k.name ∷ l) (filled_classes ks d)

pub filled_entries : (S : Classes) (d : Objects) → map extent_entry (filled S d) ≡ extents_of S
filled_entries [] d = refl
filled_entries (k ∷ ks) d = ap (λ l. (k.extent, k.name) ∷ l) (filled_entries ks d)

pub filled_labels : (S : Classes) (d : Objects) → map extent_labels (filled S d) ≡ attributes_of S
filled_labels [] d = refl
filled_labels (k ∷ ks) d = ap (λ l. names_of k.attributes ∷ l) (filled_labels ks d)

-- an object that fits its class has each attribute once
pub each_once : (S : Classes) (d os : Objects) → Each (FitsClass S d) os → Each (λ (o : Object). are_distinct (names_of o.values) ≡ true) os
each_once S d [] h = tt
each_once S d (o ∷ os) h = (h.0.once, each_once S d os h.1)

members_found : (xs : List Extent) (d : Objects) (n : List ℕ) → Each (λ (x : Extent). x.members ≡ canon (objects_of x.class d)) xs
    → option_map (λ (x : Extent). x.members) (find (λ (x : Extent). bytes_eq n x.name) xs) ≡ option_map (λ c. canon (objects_of c d)) (look_up n (map extent_entry xs))
members_found [] d n h = refl
members_found (x ∷ xs) d n h = at (bytes_eq n x.name) (members_found xs d n h.1)
  where
    at : (b : Bool) → option_map (λ (y : Extent). y.members) (find (λ (y : Extent). bytes_eq n y.name) xs) ≡ option_map (λ c. canon (objects_of c d)) (look_up n (map extent_entry xs))
        → option_map (λ (y : Extent). y.members) (cond b (Some x) (find (λ (y : Extent). bytes_eq n y.name) xs)) ≡ option_map (λ c. canon (objects_of c d)) (cond b (Some x.class) (look_up n (map extent_entry xs)))
    at true k = ap Some h.0
    at false k = k

-- the set at the place of a name
pub members_at_place : (xs : List Extent) (d : Objects) (names : List (List ℕ)) (n : List ℕ) (r : Option ℕ) → Each (λ (x : Extent). x.members ≡ canon (objects_of x.class d)) xs
    → names ≡ map (λ (x : Extent). x.name) xs → r ≡ position (bytes_eq n) names
    → option_map (λ (x : Extent). x.members) (option_and_then (λ i. slice_get xs i) r) ≡ option_map (λ c. canon (objects_of c d)) (look_up n (map extent_entry xs))
members_at_place xs d names n r h e k =
    ap (λ q. option_map (λ (x : Extent). x.members) (option_and_then (λ i. slice_get xs i) q)) (k ∙ ap (position (bytes_eq n)) e)
    ∙ ap (option_map (λ (x : Extent). x.members)) (found_at_place (λ (x : Extent). x.name) n xs)
    ∙ members_found xs d n h
