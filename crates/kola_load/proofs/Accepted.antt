-- The objects that a JSON value without a fault writes meet the schema.
use Rattle.std.proofs.Common.{◌≡◌, inl, inr, ℕ, ◌+◌, ◌<◌, ◌==◌, Bool, true, false, not, cond, ltb, true≢false, ◌&&◌, ◌||◌, List, [], ◌∷◌, Option, Some, None, map, flat_map, option_map, option_and_then, length, is_some, refl, sym, ap, subst, ◌∙◌, pos, negsuc, nat_le, ℤ, codes, unwrap_or, arith}
use mathlib.Core.Bool.{or-true}
use Rattle.std.proofs.lemmas.Bool.{lt-ltb}
use Rattle.std.proofs.lemmas.Bool.Decides.{nat_tests}
use Rattle.std.specs.List.{find, list_any, list_all}
use Rattle.std.specs.Option.{option_map_or}
use Rattle.std.specs.Str.{bytes_eq}
use Rattle.serde_json.specs.Data.{Data}
use Rattle.serde_json.specs.Find.{get, as_array, as_bool, as_str}
use Rattle.kola_values.specs.Values.{ValueTree, VInt, VBool, VStr, VObj}
use Rattle.kola_values.specs.Types.{TypeTree, TInt, TStr, TBool, TUnit, TClass, TVar, TSet, TPair, TStruct}
use Rattle.kola_values.specs.Order.{same}
use Rattle.kola_values.specs.Sets.{Each, any, has, canon, set_of}
use Rattle.kola_values.specs.Databases.{Class, Object, Classes, Objects, look_up, value_or_unit}
use Rattle.kola_core.specs.NameLists.{is_listed}
use Rattle.kola_schema.specs.Schemas.{are_distinct, names_of, class_names, extent_names, class_named, is_class, is_schema}
use Rattle.kola_schema.specs.Meets.{Meets, object_values}
use Rattle.kola_database.specs.MeetsTests.{typed_by, IsHeld, no_two, same_object, is_value_of, are_typed, are_whole, fits_class, agree_at, clash, all_fit, keys_are_met, meets}
use Rattle.kola_database.specs.MeetsTests as tests
use Rattle.std.proofs.lemmas.List.Folds.{find-append}
use Rattle.kola_values.proofs.Anys.{same_itself, items-of_items, equal}
use Rattle.kola_values.proofs.Each.{each_canon}
use Rattle.kola_database.proofs.Meeting.{In, from_any, value_of_object, meets_from}
use Rattle.kola_database.proofs.MeetingTypes.{other_class}
use Rattle.kola_values.proofs.Truth.{both_false, not_true}
use Rattle.kola_values.proofs.SameTypes.{and_true, both_true, name_equal, name_itself}
use Rattle.kola_load.specs.Json.{list_of, elements, integer_of, id_of, as_id, own_id}
use Rattle.kola_load.specs.Written.{whole, value_of, references, extent_of, is_id, is_taken, is_there, id_in, attribute_in, object_in, objects_in, written}
use Rattle.kola_load.specs.Loading.{first_of, first_among, members_fault, id_fault, element_fault, array_fault, extent_fault, value_fault, attribute_fault, object_fault, objects_fault, repeat_fault, key_fault, keys_fault, db_fault}
use Rattle.kola_load.proofs.KeyPlaces.{names_kept}
use Rattle.kola_load.proofs.NoFault.{neither, holds, none_mapped, some_mapped, some_then, in_map, from_map, in_flat, from_flat, all_in, not_found, none_of, none_among, none_related, two_lists, no_two_alike, no_two_map, none_by_any}

-- ---- values of their types

-- each value of a list is of the type
abbrev AreTyped : (List ℕ → ℕ → Bool) → TypeTree → List ValueTree → Type 0
AreTyped there t vs = Each (λ v. typed_by there v t ≡ true) vs

all_typed : (there : List ℕ → ℕ → Bool) (t : TypeTree) (vs : List ValueTree) → AreTyped there t vs → list_all (λ v. typed_by there v t) vs ≡ true
all_typed there t [] h = refl
all_typed there t (v ∷ vs) h = and_true _ _ h.0 (all_typed there t vs h.1)

-- the set of values of a type
set_typed : (there : List ℕ → ℕ → Bool) (t : TypeTree) (vs : List ValueTree) → AreTyped there t vs → typed_by there (set_of vs) (TSet t) ≡ true
unfolding set_of
set_typed there t vs h = ap (list_all (λ v. typed_by there v t)) (items-of_items (canon vs)) ∙ all_typed there t (canon vs) (each_canon (λ v. typed_by there v t ≡ true) vs h)

module _ (there : List ℕ → ℕ → Bool) (known : List ℕ × ℕ → Bool) (known_there : (r : List ℕ × ℕ) → known r ≡ true → there r.0 r.1 ≡ true) where
  -- no reference names nothing
  abbrev NoneMissing : List (List ℕ × ℕ) → Type 0
  NoneMissing rs = find (λ r. not (known r)) rs ≡ None

  class_typed : (c : List ℕ) (o : Option ℕ) (w : ValueTree) → option_map (VObj c) o ≡ Some w → NoneMissing (option_map_or (λ i. (c, i) ∷ []) o []) → typed_by there w (TClass c) ≡ true
  class_typed c None w h n = absurd (cc)
  class_typed c (Some i) w h n =
      let e : VObj c i ≡ w = cc in
      subst (λ v. typed_by there v (TClass c) ≡ true) e (and_true _ _ (name_itself c) (known_there (c, i) (is_known (known (c, i)) refl n)))
    where
      is_known : (b : Bool) → known (c, i) ≡ b → cond {A = Option (List ℕ × ℕ)} (not b) (Some (c, i)) None ≡ None → known (c, i) ≡ true
      is_known true e n = e
      is_known false e n = absurd (cc)

  -- what one element of an array writes
  abbrev IsTyped : TypeTree → Data → Type 0
  IsTyped t d = (w : ValueTree) → value_of t d ≡ Some w → NoneMissing (references t d) → typed_by there w t ≡ true

  each_typed : (t : TypeTree) → ((d : Data) → IsTyped t d) → (ds : List Data) (vs : List ValueTree) → whole (map (value_of t) ds) ≡ Some vs → NoneMissing (flat_map (references t) ds) → AreTyped there t vs
  each_typed t one [] vs h n = let e : [] ≡ vs = cc in subst (AreTyped there t) e tt
  each_typed t one (d ∷ ds) vs h n =
      let a = some_then (λ x. option_map (λ xs. x ∷ xs) (whole (map (value_of t) ds))) (value_of t d) vs h in
      let r = some_mapped (λ xs. a.0 ∷ xs) (whole (map (value_of t) ds)) vs a.2 in
      let m = neither _ _ (sym (find-append (λ r. not (known r)) (references t d) (flat_map (references t) ds)) ∙ n) in
      subst (AreTyped there t) r.2 (one d a.0 a.1 m.0, each_typed t one ds r.0 r.1 m.1)

  typed : (t : TypeTree) (d : Data) → IsTyped t d
  typed TInt d = λ w h n. let r = some_mapped VInt (integer_of d) w h in subst (λ v. typed_by there v TInt ≡ true) r.2 refl
  typed TStr d = λ w h n. let r = some_mapped VStr (as_str d) w h in subst (λ v. typed_by there v TStr ≡ true) r.2 refl
  typed TBool d = λ w h n. let r = some_mapped VBool (as_bool d) w h in subst (λ v. typed_by there v TBool ≡ true) r.2 refl
  typed (TClass c) d = λ w h n. class_typed c (id_of d) w h n
  typed (TSet t) d = λ w h n.
      let a = some_then (λ ds. option_map set_of (whole (map (value_of t) (list_of ds)))) (as_array d) w h in
      let r = some_mapped set_of (whole (map (value_of t) (list_of a.0))) w a.2 in
      subst (λ v. typed_by there v (TSet t) ≡ true) r.2 (set_typed there t r.0 (each_typed t (λ e. typed t e) (list_of a.0) r.0 r.1 (ap (λ o. find (λ r. not (known r)) (flat_map (references t) (option_map_or list_of o []))) (sym a.1) ∙ n)))
  typed TUnit d = λ w h n. absurd (cc)
  typed (TVar x) d = λ w h n. absurd (cc)
  typed (TPair t u) d = λ w h n. absurd (cc)
  typed (TStruct fs) d = λ w h n. absurd (cc)

-- ---- ids

other_id : (c : List ℕ) (m n : ℕ) → (m ≡ n → ⊥) → same (VObj c m) (VObj c n) ≡ false
other_id c m n h = at (same (VObj c m) (VObj c n)) refl
  where
    id_part : ValueTree → ℕ
    id_part (VObj k i) = i
    id_part v = 0

    at : (b : Bool) → same (VObj c m) (VObj c n) ≡ b → b ≡ false
    at false e = refl
    at true e = absurd (h (ap id_part (equal (VObj c m) (VObj c n) e)))

id_low : (z : ℤ) (i : ℕ) → as_id z ≡ Some i → 0 < i
id_low (pos n) i h = at (nat_le 1 n) refl (nat_le n 4294967295) h
  where
    at : (a : Bool) → nat_le 1 n ≡ a → (b : Bool) → cond (a && b) (Some n) None ≡ Some i → 0 < i
    at false e b g = absurd (cc)
    at true e false g = absurd (cc)
    at true e true g = let f : n ≡ i = cc in let l : 0 < n = grind (arith, nat_tests) in omega arith
id_low (negsuc n) i h = absurd (cc)

own_id_low : (d : Data) (i : ℕ) → own_id d ≡ Some i → 0 < i
own_id_low d i h =
    let a = some_then id_of (get (codes "#") d) i h in
    let b = some_then as_id (integer_of a.0) i a.2 in
    id_low b.0 i b.2

id_of_some : (d : Data) (i : ℕ) → own_id d ≡ Some i → id_in d ≡ i
id_of_some d i h = ap (λ o. unwrap_or o 0) h

-- ---- attributes

in_listed : {A : Type 0} (a : List ℕ × A) (es : List (List ℕ × A)) → In a es → is_listed a.0 (names_of es) ≡ true
in_listed a [] i = absurd i
in_listed a (e ∷ es) (inl p) = ap (λ b. b || is_listed a.0 (names_of es)) (ap (λ x. bytes_eq a.0 x.0) (sym p) ∙ name_itself a.0)
in_listed a (e ∷ es) (inr i) = ap (λ b. bytes_eq a.0 e.0 || b) (in_listed a es i) ∙ or-true (bytes_eq a.0 e.0)

looked_in : {A : Type 0} (a : List ℕ × A) (es : List (List ℕ × A)) → are_distinct (names_of es) ≡ true → In a es → look_up a.0 es ≡ Some a.1
looked_in a [] d i = absurd i
looked_in a (e ∷ es) d (inl p) = ap (λ x. cond (bytes_eq a.0 x.0) (Some x.1) (look_up a.0 es)) (sym p) ∙ ap (λ b. cond b (Some a.1) (look_up a.0 es)) (name_itself a.0)
looked_in {A} a (e ∷ es) d (inr i) =
    let p = both_true (not (is_listed e.0 (names_of es))) (are_distinct (names_of es)) d in
    at (bytes_eq a.0 e.0) refl (not_true _ p.0) (looked_in a es p.1 i)
  where
    at : (b : Bool) → bytes_eq a.0 e.0 ≡ b → is_listed e.0 (names_of es) ≡ false → look_up a.0 es ≡ Some a.1 → cond b (Some e.1) (look_up a.0 es) ≡ Some a.1
    at false f n h = h
    at true f n h = absurd (true≢false (sym (in_listed a es i) ∙ (ap (λ m. is_listed m (names_of es)) (name_equal a.0 e.0 f) ∙ n)))

-- ---- classes

from_all : {A : Type 0} (q : A → Bool) (xs : List A) → list_all q xs ≡ true → (x : A) → In x xs → q x ≡ true
from_all q [] h x i = absurd i
from_all q (y ∷ xs) h x (inl e) = ap q e ∙ (both_true (q y) (list_all q xs) h).0
from_all q (y ∷ xs) h x (inr i) = from_all q xs (both_true (q y) (list_all q xs) h).1 x i

other_name : (n : List ℕ) (T : Classes) → is_listed n (class_names T) ≡ false → (k : Class) → In k T → bytes_eq n k.name ≡ false
other_name n [] h k i = absurd i
other_name n (t ∷ T) h k (inl e) = ap (λ (c : Class). bytes_eq n c.name) e ∙ (both_false (bytes_eq n t.name) (is_listed n (class_names T)) h).0
other_name n (t ∷ T) h k (inr i) = other_name n T (both_false (bytes_eq n t.name) (is_listed n (class_names T)) h).1 k i

name_listed : (T : Classes) (k : Class) → In k T → is_listed k.name (class_names T) ≡ true
name_listed [] k i = absurd i
name_listed (t ∷ T) k (inl e) = ap (λ b. b || is_listed k.name (class_names T)) (ap (λ (c : Class). bytes_eq k.name c.name) (sym e) ∙ name_itself k.name)
name_listed (t ∷ T) k (inr i) = ap (λ b. bytes_eq k.name t.name || b) (name_listed T k i) ∙ or-true (bytes_eq k.name t.name)

class_known : (T : Classes) → are_distinct (class_names T) ≡ true → (k : Class) → In k T → class_named T k.name ≡ Some k
class_known [] d k i = absurd i
class_known (t ∷ T) d k (inl e) = ap (λ (c : Class). cond (bytes_eq k.name c.name) (Some c) (class_named T k.name)) (sym e) ∙ ap (λ b. cond b (Some k) (class_named T k.name)) (name_itself k.name)
class_known (t ∷ T) d k (inr i) =
    let p = both_true (not (is_listed t.name (class_names T))) (are_distinct (class_names T)) d in
    at (bytes_eq k.name t.name) refl (not_true _ p.0) (class_known T p.1 k i)
  where
    at : (b : Bool) → bytes_eq k.name t.name ≡ b → is_listed t.name (class_names T) ≡ false → class_named T k.name ≡ Some k → cond b (Some t) (class_named T k.name) ≡ Some k
    at false f n h = h
    at true f n h = absurd (true≢false (sym (name_listed T k i) ∙ (ap (λ m. is_listed m (class_names T)) (name_equal k.name t.name f) ∙ n)))

named_in : (T : Classes) (c : List ℕ) (k : Class) → class_named T c ≡ Some k → In k T × (c ≡ k.name)
named_in [] c k h = absurd (cc)
named_in (t ∷ T) c k h = at (bytes_eq c t.name) refl h (λ g. named_in T c k g)
  where
    at : (b : Bool) → bytes_eq c t.name ≡ b → cond b (Some t) (class_named T c) ≡ Some k → (class_named T c ≡ Some k → In k T × (c ≡ k.name)) → In k (t ∷ T) × (c ≡ k.name)
    at false e g r = let s = r g in (inr s.0, s.1)
    at true e g r = let f : t ≡ k = cc in (inl (sym f), name_equal c t.name e ∙ ap (λ (x : Class). x.name) f)

-- no two objects of different classes are related, and no two of one
classes_apart : (j : Data) (r : Object → Object → Bool) → ((o p : Object) → bytes_eq o.class p.class ≡ false → r o p ≡ false)
    → (T : Classes) → are_distinct (class_names T) ≡ true → ((k : Class) → In k T → no_two r (objects_in j k) ≡ true) → no_two r (flat_map (objects_in j) T) ≡ true
classes_apart j r other [] d f = refl
classes_apart j r other (k ∷ T) d f =
    let p = both_true (not (is_listed k.name (class_names T))) (are_distinct (class_names T)) d in
    two_lists r (objects_in j k) (flat_map (objects_in j) T) (f k (inl refl)) (classes_apart j r other T p.1 (λ c i. f c (inr i)))
    (λ x y a b.
    let m = from_map (object_in k) x (extent_of j k) a in
    let t = from_flat (objects_in j) y T b in
    let n = from_map (object_in t.0) y (extent_of j t.0) t.2 in
    other x y ((λ i. bytes_eq (m.2 i).class (n.2 i).class) ∙ other_name k.name T (not_true _ p.0) t.0 t.1))

-- ---- the objects of a value without a fault

in_has : (d : Objects) (o : Object) → In o d → has (value_of_object o) (object_values d) ≡ true
unfolding any
in_has [] o i = absurd i
in_has (p ∷ d) o (inl e) = ap (λ b. b || has (value_of_object o) (object_values d)) (ap (λ (q : Object). same (value_of_object o) (value_of_object q)) (sym e) ∙ same_itself (value_of_object o))
in_has (p ∷ d) o (inr i) = ap (λ b. same (value_of_object o) (value_of_object p) || b) (in_has d o i) ∙ or-true (same (value_of_object o) (value_of_object p))

module _ (S : Classes) (j : Data) (schema : is_schema S ≡ true) where
  distinct_classes : are_distinct (class_names S) ≡ true
  distinct_classes = (both_true (are_distinct (class_names S)) (are_distinct (extent_names S) && list_all (is_class (class_names S)) S) schema).0

  distinct_attributes : (k : Class) → In k S → are_distinct (names_of k.attributes) ≡ true
  distinct_attributes k i =
      let a = both_true (are_distinct (class_names S)) (are_distinct (extent_names S) && list_all (is_class (class_names S)) S) schema in
      let b = both_true (are_distinct (extent_names S)) (list_all (is_class (class_names S)) S) a.1 in
      (both_true (are_distinct (names_of k.attributes)) _ (from_all (is_class (class_names S)) S b.1 k i)).0

  written_in : (k : Class) → In k S → (e : Data) → In e (extent_of j k) → In (object_in k e) (written S j)
  written_in k i e l = in_flat (objects_in j) k (object_in k e) S i (in_map (object_in k) e (extent_of j k) l)

  -- a reference that names an object of its class names one that is written
  known_there : (r : List ℕ × ℕ) → is_there S j r ≡ true → tests.is_there (written S j) r.0 r.1 ≡ true
  known_there r h = at (class_named S r.0) refl h
    where
      id_found : (o : Option ℕ) → option_map_or (λ n. r.1 == n) o false ≡ true → unwrap_or o 0 ≡ r.1
      id_found None g = absurd (cc)
      id_found (Some n) g = grind (arith, nat_tests)

      at : (m : Option Class) → class_named S r.0 ≡ m → option_map_or (λ (k : Class). is_taken r.1 (extent_of j k)) m false ≡ true → tests.is_there (written S j) r.0 r.1 ≡ true
      at None e g = absurd (cc)
      at (Some k) e g =
          let n = named_in S r.0 k e in
          let f = from_any (is_id r.1) (extent_of j k) g in
          (λ i. has (VObj (n.1 i) (sym (id_found (own_id f.0) f.2) i)) (object_values (written S j))) ∙ in_has (written S j) (object_in k f.0) (written_in k n.0 f.0 f.1)

  -- ---- phase 2

  module _ (ids : first_of (extent_fault j) S ≡ None) where
    extent_among : (k : Class) → In k S → first_among (element_fault k) [] (extent_of j k) ≡ None
    extent_among k i = at (get k.extent j) (none_of (extent_fault j) S ids k i)
      where
        at : (m : Option Data) → array_fault k m ≡ None → first_among (element_fault k) [] (option_map_or elements m []) ≡ None
        at None h = refl
        at (Some m) h = (neither _ _ h).1

    id_there : (k : Class) (before : List Data) (e : Data) → element_fault k before e ≡ None → (i : ℕ) × (own_id e ≡ Some i) × (is_taken i before ≡ false)
    id_there k before e h = at (own_id e) refl (neither _ _ h).1
      where
        at : (o : Option ℕ) → own_id e ≡ o → id_fault k before o ≡ None → (i : ℕ) × (own_id e ≡ Some i) × (is_taken i before ≡ false)
        at None f g = absurd (cc)
        at (Some i) f g = (i, f, not_true _ (holds _ _ g))

    own_id_there : (k : Class) → In k S → (e : Data) → In e (extent_of j k) → (i : ℕ) × (own_id e ≡ Some i)
    own_id_there k i e l =
        let a = none_among (element_fault k) [] (extent_of j k) (extent_among k i) e l in
        let b = id_there k a.0 e a.1 in
        (b.0, b.1)

    ids_apart : (k : Class) → In k S → no_two same_object (objects_in j k) ≡ true
    ids_apart k i =
        sym (no_two_map (object_in k) same_object (extent_of j k))
        ∙ (none_related (λ x y. same_object (object_in k x) (object_in k y)) (element_fault k) apart [] (extent_of j k) (extent_among k i)).0
      where
        apart : (before : List Data) (x : Data) → element_fault k before x ≡ None → (y : Data) → In y before → same_object (object_in k y) (object_in k x) ≡ false
        apart before x h y l =
            let a = id_there k before x h in
            other_id k.name (id_in y) (id_in x) (λ e. differs a.0 (own_id_low x a.0 a.1) (own_id y) (any_false (is_id a.0) before a.2 y l) (e ∙ id_of_some x a.0 a.1))
          where
            any_false : {A : Type 0} (q : A → Bool) (xs : List A) → list_any q xs ≡ false → (z : A) → In z xs → q z ≡ false
            any_false q [] g z m = absurd m
            any_false q (u ∷ xs) g z (inl e) = ap q e ∙ (both_false (q u) (list_any q xs) g).0
            any_false q (u ∷ xs) g z (inr m) = any_false q xs (both_false (q u) (list_any q xs) g).1 z m

            differs : (n : ℕ) → 0 < n → (o : Option ℕ) → option_map_or (λ m. n == m) o false ≡ false → unwrap_or o 0 ≡ n → ⊥
            differs n p None g e = omega arith
            differs n p (Some m) g e = grind (arith, nat_tests)

    all_apart : no_two same_object (written S j) ≡ true
    all_apart = classes_apart j same_object (λ o p h. other_class o.class p.class o.id p.id h) S distinct_classes ids_apart

    -- ---- phase 3

    module _ (fits : first_of (objects_fault (is_there S j) j) S ≡ None) where
      attributes_none : (k : Class) → In k S → (e : Data) → In e (extent_of j k) → first_of (attribute_fault (is_there S j) k e) k.attributes ≡ None
      attributes_none k i e l = (neither _ _ (none_of (object_fault (is_there S j) k) (extent_of j k) (none_of (objects_fault (is_there S j) j) S fits k i) e l)).1

      value_typed : (k : Class) (e : Data) (a : List ℕ × TypeTree) → attribute_fault (is_there S j) k e a ≡ None
          → typed_by (tests.is_there (written S j)) (value_or_unit (option_and_then (value_of a.1) (get a.0 e))) a.1 ≡ true
      value_typed k e a h = at (get a.0 e) h
        where
          is_typed : (v : Data) (o : Option ValueTree) → value_of a.1 v ≡ o → is_some o ≡ true → find (λ r. not (is_there S j r)) (references a.1 v) ≡ None → typed_by (tests.is_there (written S j)) (value_or_unit o) a.1 ≡ true
          is_typed v None f g n = absurd (cc)
          is_typed v (Some w) f g n = typed (tests.is_there (written S j)) (is_there S j) known_there a.1 v w f n

          at : (m : Option Data) → value_fault (is_there S j) k e a m ≡ None → typed_by (tests.is_there (written S j)) (value_or_unit (option_and_then (value_of a.1) m)) a.1 ≡ true
          at None g = absurd (cc)
          at (Some v) g =
              let p = neither _ _ g in
              is_typed v (value_of a.1 v) refl (holds _ _ p.0) (none_mapped _ _ p.1)

      one_fits : (k : Class) → In k S → (e : Data) → In e (extent_of j k) → fits_class (tests.is_there (written S j)) (Some k) (object_in k e) ≡ true
      one_fits k i e l =
          let known = own_id_there k i e l in
          and_true _ _
          (and_true _ _
          (and_true _ _ (ap (ltb 0) (id_of_some e known.0 known.1) ∙ lt-ltb 0 known.0 (own_id_low e known.0 known.1)) (ap are_distinct (names_kept e k.attributes) ∙ distinct_attributes k i))
          (all_in (λ x. is_value_of (tests.is_there (written S j)) (look_up x.0 k.attributes) x.1) (map (attribute_in e) k.attributes) (λ x m.
          let a = from_map (attribute_in e) x k.attributes m in
          ap (λ y. is_value_of (tests.is_there (written S j)) (look_up y.0 k.attributes) y.1) a.2
          ∙ ap (λ t. is_value_of (tests.is_there (written S j)) t (attribute_in e a.0).1) (looked_in a.0 k.attributes (distinct_attributes k i) a.1)
          ∙ value_typed k e a.0 (none_of (attribute_fault (is_there S j) k e) k.attributes (attributes_none k i e l) a.0 a.1))))
          (all_in (λ x. is_listed x.0 (names_of (map (attribute_in e) k.attributes))) k.attributes (λ a m. ap (is_listed a.0) (names_kept e k.attributes) ∙ in_listed a k.attributes m))

      all_fit_class : all_fit S (written S j) (written S j) ≡ true
      all_fit_class = all_in (λ (o : Object). fits_class (tests.is_there (written S j)) (class_named S o.class) o) (written S j) (λ o m.
          let a = from_flat (objects_in j) o S m in
          let b = from_map (object_in a.0) o (extent_of j a.0) a.2 in
          ap (λ (p : Object). fits_class (tests.is_there (written S j)) (class_named S p.class) p) b.2
          ∙ ap (λ n. fits_class (tests.is_there (written S j)) n (object_in a.0 b.0)) (class_known S distinct_classes a.0 a.1)
          ∙ one_fits a.0 a.1 b.0 b.1)

    -- ---- phase 4

    module _ (keys : first_of (λ k. keys_fault k (objects_in j k)) S ≡ None) where
      key_apart : (k : Class) → In k S → (key : List (List ℕ)) → In key k.keys → no_two (λ o p. list_all (agree_at o p) key) (objects_in j k) ≡ true
      key_apart k i key l =
          let a = none_among (key_fault (objects_in j k) k) [] k.keys (none_of (λ c. keys_fault c (objects_in j c)) S keys k i) key l in
          (none_related (λ o p. list_all (agree_at o p) key) (repeat_fault k (length a.0 + 1) key)
          (λ before x h y m. not_found (λ (p : Object). list_all (agree_at p x) key) before (none_mapped _ _ h) y m) [] (objects_in j k) a.1).0

      class_apart : (k : Class) → In k S → no_two (λ (o : Object). clash (class_named S o.class) o) (objects_in j k) ≡ true
      class_apart k i =
          no_two_alike (λ (o : Object). clash (class_named S o.class) o) (λ o p. list_any (λ key. list_all (agree_at o p) key) k.keys) (objects_in j k) (λ o p a b.
          let m = from_map (object_in k) o (extent_of j k) a in
          let n = from_map (object_in k) p (extent_of j k) b in
          let c = ap (λ (q : Object). q.class) m.2 in
          ap (λ t. clash t o p) (ap (class_named S) c ∙ class_known S distinct_classes k i)
          ∙ ap (λ t. t && list_any (λ key. list_all (agree_at o p) key) k.keys) ((λ q. bytes_eq (c q) (n.2 q).class) ∙ name_itself k.name))
          ∙ none_by_any (λ key o p. list_all (agree_at o p) key) k.keys (objects_in j k) (key_apart k i)

      no_clash : keys_are_met S (written S j) ≡ true
      no_clash = classes_apart j (λ (o : Object). clash (class_named S o.class) o) (λ o p h. at (class_named S o.class) o p h) S distinct_classes class_apart
        where
          at : (m : Option Class) (o p : Object) → bytes_eq o.class p.class ≡ false → clash m o p ≡ false
          at None o p h = refl
          at (Some k) o p h = ap (λ b. b && list_any (λ key. list_all (λ a. agree_at o p a) key) k.keys) h

-- a value without a fault writes a database
pub accepted : (S : Classes) (j : Data) → is_schema S ≡ true → db_fault S j ≡ None → Each IsHeld (written S j) → Meets S (written S j)
accepted S j schema none held =
    let a = neither (members_fault S j) _ none in
    let b = neither (first_of (extent_fault j) S) _ a.1 in
    let c = neither (first_of (objects_fault (is_there S j) j) S) _ b.1 in
    meets_from S (written S j) held
    (and_true _ _ (and_true _ _ (all_apart S j schema b.0) (all_fit_class S j schema b.0 c.0)) (no_clash S j schema b.0 c.1))
