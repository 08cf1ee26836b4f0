-- The test of objects against a schema answers true exactly where they meet it.
use Rattle.std.proofs.Common.{◌≡◌, ◌⊎◌, inl, inr, ℕ, zero, suc, Bool, true, false, not, cond, true≢false, ◌&&◌, ◌||◌, List, [], ◌∷◌, Option, Some, None, ap, sym, refl, subst, ◌∙◌, arith}
use mathlib.Core.Bool.{or-true}
use Rattle.std.specs.List.{list_any, list_all, slice_get}
use Rattle.std.specs.Option.{option_and_then}
use Rattle.std.specs.Str.{bytes_eq}
use Rattle.std.specs.Prelude.{ltb}
use Rattle.std.proofs.lemmas.Bool.{lt-ltb, ltb-true}
use Rattle.kola_values.specs.Values.{ValueTree, VObj}
use Rattle.kola_values.specs.Types.{TypeTree, TClass}
use Rattle.kola_values.specs.Order.{same}
use Rattle.kola_values.specs.Sets.{Each, any, has}
use Rattle.kola_values.specs.WellFormed.{WellFormed}
use Rattle.kola_values.specs.Databases.{Class, Object, Classes, Objects, look_up, value_or_unit, attribute_of, HasType}
use Rattle.kola_core.specs.NameLists.{is_listed}
use Rattle.kola_schema.specs.Schemas.{are_distinct, names_of, class_named, key_at}
use Rattle.kola_schema.specs.Meets.{FitsClass, NoneTwice, object_values, agree_on, Meets}
use Rattle.kola_database.specs.MeetsTests.{is_there, IsHeld, no_two, same_object, is_value_of, are_typed, are_whole, fits_class, agree_at, clash, all_fit, keys_are_met, meets}
use Rattle.kola_values.proofs.Anys.{bool_same, equal, same_itself, same_comm}
use Rattle.kola_values.proofs.Truth.{not_true}
use Rattle.kola_values.proofs.SameTypes.{and_true, both_true, name_equal, name_itself}
use Rattle.kola_schema.proofs.Schemas.{attribute_of_class}
use Rattle.kola_database.proofs.MeetingTypes.{class_part, there_exactly, typed_from, typed_to}

abbrev pub value_of_object : Object → ValueTree
value_of_object o = VObj o.class o.id

-- ---- elements of a list

abbrev pub In : {A : Type 0} → A → List A → Type 0
In x [] = ⊥
In x (y ∷ ys) = (x ≡ y) ⊎ In x ys

pub any_in : {A : Type 0} (q : A → Bool) (xs : List A) (x : A) → In x xs → q x ≡ true → list_any q xs ≡ true
any_in q [] x i h = absurd i
any_in q (y ∷ ys) x (inl e) h = ap (λ b. b || list_any q ys) (ap q (sym e) ∙ h)
any_in q (y ∷ ys) x (inr i) h = ap (λ b. q y || b) (any_in q ys x i h) ∙ or-true (q y)

pub from_any : {A : Type 0} (q : A → Bool) (xs : List A) → list_any q xs ≡ true → (x : A) × In x xs × (q x ≡ true)
from_any q [] h = absurd (cc)
from_any {A} q (y ∷ ys) h = at (q y) refl h (λ k. from_any q ys k)
  where
    at : (b : Bool) → q y ≡ b → (b || list_any q ys) ≡ true → (list_any q ys ≡ true → (x : A) × In x ys × (q x ≡ true)) → (x : A) × In x (y ∷ ys) × (q x ≡ true)
    at true e h r = (y, inl refl, e)
    at false e h r = let s = r h in (s.0, inr s.1, s.2)

-- two elements that are related are one
pub lone : {A : Type 0} (r : A → A → Bool) (xs : List A) → no_two r xs ≡ true → (x y : A) → In x xs → In y xs → r x y ≡ true → r y x ≡ true → x ≡ y
lone r [] h x y i j p q = absurd i
lone {A} r (z ∷ zs) h x y i j p q = at i j (λ k l. lone r zs parts.1 x y k l p q)
  where
    parts : (not (list_any (r z) zs) ≡ true) × (no_two r zs ≡ true)
    parts = both_true (not (list_any (r z) zs)) (no_two r zs) h

    none : list_any (r z) zs ≡ false
    none = not_true (list_any (r z) zs) parts.0

    at : (x ≡ z) ⊎ In x zs → (y ≡ z) ⊎ In y zs → (In x zs → In y zs → x ≡ y) → x ≡ y
    at (inl e) (inl f) k = e ∙ sym f
    at (inl e) (inr l) k = absurd (true≢false (sym (any_in (r z) zs y l (ap (λ u. r u y) (sym e) ∙ p)) ∙ none))
    at (inr l) (inl f) k = absurd (true≢false (sym (any_in (r z) zs x l (ap (λ u. r u x) (sym f) ∙ q)) ∙ none))
    at (inr l) (inr m) k = k l m

-- ---- objects

apart : (v : ValueTree) (d : Objects) → list_any (λ (o : Object). same v (value_of_object o)) d ≡ has v (object_values d)
unfolding any
apart v [] = refl
apart v (o ∷ d) = ap (λ b. same v (value_of_object o) || b) (apart v d)

pub none_twice_from : (d : Objects) → no_two same_object d ≡ true → NoneTwice (object_values d)
none_twice_from [] h = tt
none_twice_from (o ∷ d) h =
    let p = both_true (not (list_any (same_object o) d)) (no_two same_object d) h in
    (sym (apart (value_of_object o) d) ∙ not_true (list_any (same_object o) d) p.0, none_twice_from d p.1)

pub none_twice_to : (d : Objects) → NoneTwice (object_values d) → no_two same_object d ≡ true
none_twice_to [] h = refl
none_twice_to (o ∷ d) h = and_true _ _ (ap not (apart (value_of_object o) d ∙ h.0)) (none_twice_to d h.1)

in_has : (d : Objects) (o : Object) → In o d → has (value_of_object o) (object_values d) ≡ true
in_has d o i = sym (apart (value_of_object o) d) ∙ any_in (same_object o) d o i (same_itself (value_of_object o))

has_in : (d : Objects) (v : ValueTree) → has v (object_values d) ≡ true → (o : Object) × In o d × (v ≡ value_of_object o)
has_in d v h =
    let r = from_any (λ (o : Object). same v (value_of_object o)) d (apart v d ∙ h) in
    (r.0, r.1, equal v (value_of_object r.0) r.2)

-- a value of a class's type is an object of the class
object_of : (d : Objects) (c : List ℕ) (v : ValueTree) → HasType d v (TClass c) → (o : Object) × In o d × (v ≡ value_of_object o) × (o.class ≡ c)
object_of d c (VObj k i) h =
    let r = has_in d (VObj k i) (sym (there_exactly d k i) ∙ h.1) in
    (r.0, r.1, r.2, sym (ap class_part r.2) ∙ h.0)
object_of d c _ h = absurd h

of_class : (d : Objects) (o : Object) → In o d → HasType d (value_of_object o) (TClass o.class)
of_class d o i = (refl, there_exactly d o.class o.id ∙ in_has d o i)

-- ---- the attributes of an object of a database

not_the_first : (p o : Object) (d : Objects) → has (value_of_object p) (object_values d) ≡ false → In o d → same (value_of_object o) (value_of_object p) ≡ false
not_the_first p o d n i = at (same (value_of_object o) (value_of_object p)) refl
  where
    at : (b : Bool) → same (value_of_object o) (value_of_object p) ≡ b → b ≡ false
    at false e = refl
    at true e = sym (in_has d o i) ∙ (ap (λ v. has v (object_values d)) (equal (value_of_object o) (value_of_object p) e) ∙ n)

attribute_in : (d : Objects) (o : Object) (a : List ℕ) → NoneTwice (object_values d) → In o d → attribute_of a d (value_of_object o) ≡ value_or_unit (look_up a o.values)
attribute_in [] o a n i = absurd i
attribute_in (p ∷ d) o a n (inl e) =
    subst (λ (q : Object). attribute_of a (p ∷ d) (value_of_object q) ≡ value_or_unit (look_up a q.values)) (sym e)
    (ap (λ b. cond b (value_or_unit (look_up a p.values)) (attribute_of a d (value_of_object p))) (same_itself (value_of_object p)))
attribute_in (p ∷ d) o a n (inr i) =
    ap (λ b. cond b (value_or_unit (look_up a p.values)) (attribute_of a d (value_of_object o))) (not_the_first p o d n.0 i)
    ∙ attribute_in d o a n.1 i

agreeing : (d : Objects) (o p : Object) → NoneTwice (object_values d) → In o d → In p d → (key : List (List ℕ)) → agree_on d key (value_of_object o) (value_of_object p) ≡ list_all (λ a. agree_at o p a) key
agreeing d o p n i k [] = refl
agreeing d o p n i k (a ∷ key) = λ j. same (attribute_in d o a n i j) (attribute_in d p a n k j) && agreeing d o p n i k key j

agree_back : (o p : Object) (key : List (List ℕ)) → list_all (λ a. agree_at o p a) key ≡ list_all (λ a. agree_at p o a) key
agree_back o p [] = refl
agree_back o p (a ∷ key) = λ j. same_comm (value_or_unit (look_up a o.values)) (value_or_unit (look_up a p.values)) j && agree_back o p key j

-- ---- keys

key_found : {A : Type 0} (q : A → Bool) (keys : List A) (n : ℕ) (key : A) → slice_get keys n ≡ Some key → q key ≡ true → list_any q keys ≡ true
key_found q [] n key h k = absurd (cc)
key_found q (x ∷ keys) zero key h k = let e : x ≡ key = cc in ap (λ b. b || list_any q keys) (ap q e ∙ k)
key_found q (x ∷ keys) (suc n) key h k = ap (λ b. q x || b) (key_found q keys n key h k) ∙ or-true (q x)

key_place : {A : Type 0} (q : A → Bool) (keys : List A) → list_any q keys ≡ true → (n : ℕ) × (key : A) × (slice_get keys n ≡ Some key) × (q key ≡ true)
key_place q [] h = absurd (cc)
key_place {A} q (x ∷ keys) h = at (q x) refl h (λ k. key_place q keys k)
  where
    at : (b : Bool) → q x ≡ b → (b || list_any q keys) ≡ true → (list_any q keys ≡ true → (n : ℕ) × (key : A) × (slice_get keys n ≡ Some key) × (q key ≡ true)) → (n : ℕ) × (key : A) × (slice_get (x ∷ keys) n ≡ Some key) × (q key ≡ true)
    at true e h r = (0, x, refl, e)
    at false e h r = let s = r h in (suc s.0, s.1, s.2, s.3)

clash_from : (S : Classes) (c : List ℕ) (n : ℕ) (key : List (List ℕ)) (o p : Object) → key_at S c n ≡ Some key → o.class ≡ c → p.class ≡ c → list_all (λ a. agree_at o p a) key ≡ true → clash (class_named S o.class) o p ≡ true
clash_from S c n key o p h e f k = ap (λ m. clash (class_named S m) o p) e ∙ at (class_named S c) h
  where
    at : (m : Option Class) → option_and_then (λ (t : Class). slice_get t.keys n) m ≡ Some key → clash m o p ≡ true
    at None g = absurd (cc)
    at (Some t) g = and_true _ _ (ap (bytes_eq o.class) (f ∙ sym e) ∙ name_itself o.class) (key_found (λ l. list_all (λ a. agree_at o p a) l) t.keys n key g k)

clash_to : (S : Classes) (o p : Object) → clash (class_named S o.class) o p ≡ true → (n : ℕ) × (key : List (List ℕ)) × (key_at S o.class n ≡ Some key) × (list_all (λ a. agree_at o p a) key ≡ true) × (p.class ≡ o.class)
clash_to S o p h = at (class_named S o.class) h
  where
    at : (m : Option Class) → clash m o p ≡ true → (n : ℕ) × (key : List (List ℕ)) × (option_and_then (λ (t : Class). slice_get t.keys n) m ≡ Some key) × (list_all (λ a. agree_at o p a) key ≡ true) × (p.class ≡ o.class)
    at None g = absurd (cc)
    at (Some t) g =
        let q = both_true (bytes_eq o.class p.class) (list_any (λ l. list_all (λ a. agree_at o p a) l) t.keys) g in
        let r = key_place (λ l. list_all (λ a. agree_at o p a) l) t.keys q.1 in
        (r.0, r.1, r.2, r.3, sym (name_equal o.class p.class q.0))

-- no two values of a class's type agree on a key of the class
abbrev KeysMet : Classes → Objects → Type 0
KeysMet S d = (c : List ℕ) (n : ℕ) (key : List (List ℕ)) (v w : ValueTree) → key_at S c n ≡ Some key
    → HasType d v (TClass c) → HasType d w (TClass c) → agree_on d key v w ≡ true → v ≡ w

keys_from : (S : Classes) (d : Objects) → NoneTwice (object_values d) → keys_are_met S d ≡ true → KeysMet S d
keys_from S d twice h c n key v w k tv tw agree =
    let o = object_of d c v tv in
    let p = object_of d c w tw in
    let said : list_all (λ a. agree_at o.0 p.0 a) key ≡ true = sym (agreeing d o.0 p.0 twice o.1 p.1 key) ∙ ((λ j. agree_on d key (sym o.2 j) (sym p.2 j)) ∙ agree) in
    let one = lone (λ (x : Object). clash (class_named S x.class) x) d h o.0 p.0 o.1 p.1 (clash_from S c n key o.0 p.0 k o.3 p.3 said) (clash_from S c n key p.0 o.0 k p.3 o.3 (sym (agree_back o.0 p.0 key) ∙ said)) in
    o.2 ∙ (ap value_of_object one ∙ sym p.2)

keys_to : (S : Classes) (d : Objects) → NoneTwice (object_values d) → KeysMet S d → (l : Objects) → ((o : Object) → In o l → In o d) → NoneTwice (object_values l) → keys_are_met S l ≡ true
keys_to S d twice keys [] within n = refl
keys_to S d twice keys (o ∷ l) within n = and_true _ _ (ap not (at (list_any (clash (class_named S o.class) o) l) refl)) (keys_to S d twice keys l (λ p i. within p (inr i)) n.1)
  where
    at : (b : Bool) → list_any (clash (class_named S o.class) o) l ≡ b → b ≡ false
    at false e = refl
    at true e =
        let r = from_any (clash (class_named S o.class) o) l e in
        let k = clash_to S o r.0 r.2 in
        let i = within o (inl refl) in
        let j = within r.0 (inr r.1) in
        let one = keys o.class k.0 k.1 (value_of_object o) (value_of_object r.0) k.2 (of_class d o i) (subst (λ c. HasType d (value_of_object r.0) (TClass c)) k.4 (of_class d r.0 j)) (agreeing d o r.0 twice i j k.1 ∙ k.3) in
        sym (in_has l r.0 r.1) ∙ (ap (λ v. has v (object_values l)) (sym one) ∙ n.0)

-- ---- look-ups

module _ {A : Type 0} where
  looked : (a : List ℕ) (es : List (List ℕ × A)) → is_listed a (names_of es) ≡ true → (v : A) × (look_up a es ≡ Some v)
  looked a [] h = absurd (cc)
  looked a (e ∷ es) h = at (bytes_eq a e.0) h (λ k. looked a es k)
    where
      at : (b : Bool) → (b || is_listed a (names_of es)) ≡ true → (is_listed a (names_of es) ≡ true → (v : A) × (look_up a es ≡ Some v)) → (v : A) × (cond b (Some e.1) (look_up a es) ≡ Some v)
      at true h r = (e.1, refl)
      at false h r = r h

  listed : (a : List ℕ) (es : List (List ℕ × A)) (v : A) → look_up a es ≡ Some v → is_listed a (names_of es) ≡ true
  listed a [] v h = absurd (cc)
  listed a (e ∷ es) v h = at (bytes_eq a e.0) h (λ k. listed a es v k)
    where
      at : (b : Bool) → cond b (Some e.1) (look_up a es) ≡ Some v → (look_up a es ≡ Some v → is_listed a (names_of es) ≡ true) → (b || is_listed a (names_of es)) ≡ true
      at true h r = refl
      at false h r = r h

  all_at : (q : List ℕ × A → Bool) (a : List ℕ) (es : List (List ℕ × A)) (v : A) → list_all q es ≡ true → look_up a es ≡ Some v → q (a, v) ≡ true
  all_at q a [] v h k = absurd (cc)
  all_at q a (e ∷ es) v h k =
      let p = both_true (q e) (list_all q es) h in
      at (bytes_eq a e.0) refl k p.0 (λ l. all_at q a es v p.1 l)
    where
      at : (b : Bool) → bytes_eq a e.0 ≡ b → cond b (Some e.1) (look_up a es) ≡ Some v → q e ≡ true → (look_up a es ≡ Some v → q (a, v) ≡ true) → q (a, v) ≡ true
      at true f k p r =
          let n = name_equal a e.0 f in
          let w : v ≡ e.1 = cc in
          (λ j. q (n j, w j)) ∙ p
      at false f k p r = r k

  each_at : (Q : A → Type 0) (a : List ℕ) (es : List (List ℕ × A)) (v : A) → Each (λ e. Q e.1) es → look_up a es ≡ Some v → Q v
  each_at Q a [] v h k = absurd (cc)
  each_at Q a (e ∷ es) v h k = at (bytes_eq a e.0) k (λ l. each_at Q a es v h.1 l)
    where
      at : (b : Bool) → cond b (Some e.1) (look_up a es) ≡ Some v → (look_up a es ≡ Some v → Q v) → Q v
      at true k r = let w : e.1 ≡ v = cc in subst Q w h.0
      at false k r = r k

  all_looked : (q : List ℕ × A → Bool) (es : List (List ℕ × A)) → are_distinct (names_of es) ≡ true → ((a : List ℕ) (v : A) → look_up a es ≡ Some v → q (a, v) ≡ true) → list_all q es ≡ true
  all_looked q [] d f = refl
  all_looked q (e ∷ es) d f =
      let p = both_true (not (is_listed e.0 (names_of es))) (are_distinct (names_of es)) d in
      and_true _ _ (f e.0 e.1 (ap (λ b. cond b (Some e.1) (look_up e.0 es)) (name_itself e.0))) (all_looked q es p.1 (λ a v h. f a v (later a v h (not_true (is_listed e.0 (names_of es)) p.0))))
    where
      later : (a : List ℕ) (v : A) → look_up a es ≡ Some v → is_listed e.0 (names_of es) ≡ false → look_up a (e ∷ es) ≡ Some v
      later a v h n = at (bytes_eq a e.0) refl
        where
          at : (b : Bool) → bytes_eq a e.0 ≡ b → cond b (Some e.1) (look_up a es) ≡ Some v
          at false f = h
          at true f = absurd (true≢false (sym (listed a es v h) ∙ (ap (λ m. is_listed m (names_of es)) (name_equal a e.0 f) ∙ n)))

  all_listed : (p : List ℕ → Bool) (es : List (List ℕ × A)) → ((a : List ℕ) → is_listed a (names_of es) ≡ true → p a ≡ true) → list_all (λ e. p e.0) es ≡ true
  all_listed p [] f = refl
  all_listed p (e ∷ es) f = and_true _ _ (f e.0 (ap (λ b. b || is_listed e.0 (names_of es)) (name_itself e.0))) (all_listed p es (λ a h. f a (ap (λ b. bytes_eq a e.0 || b) h ∙ or-true (bytes_eq a e.0))))

-- ---- an object and its class

has_a_type : (there : List ℕ → ℕ → Bool) (m : Option TypeTree) (v : ValueTree) → is_value_of there m v ≡ true → (t : TypeTree) × (m ≡ Some t)
has_a_type there None v h = absurd (cc)
has_a_type there (Some t) v h = (t, refl)

fits_from : (S : Classes) (d : Objects) (o : Object) → IsHeld o → fits_class (is_there d) (class_named S o.class) o ≡ true → FitsClass S d o
fits_from S d o held h = at (class_named S o.class) refl h
  where
    at : (m : Option Class) → class_named S o.class ≡ m → fits_class (is_there d) m o ≡ true → FitsClass S d o
    at None e h = absurd (cc)
    at (Some k) e h =
        let p = both_true (ltb 0 o.id && are_distinct (names_of o.values) && are_typed (is_there d) k.attributes o.values) (are_whole k.attributes o.values) h in
        let q = both_true (ltb 0 o.id && are_distinct (names_of o.values)) (are_typed (is_there d) k.attributes o.values) p.0 in
        let r = both_true (ltb 0 o.id) (are_distinct (names_of o.values)) q.0 in
        let low = ltb-true 0 o.id r.0 in
        record {
          class = k;
          is = e;
          once = r.1;
          exactly = λ a. bool_same (is_listed a (names_of o.values)) (is_listed a (names_of k.attributes)) (in_class k q.1 a) (in_object k p.1 a);
          types = λ a t g. typed k q.1 p.1 a t (ap (option_and_then (λ (c : Class). look_up a c.attributes)) (sym e) ∙ (attribute_of_class S o.class a ∙ g));
          id_low = omega arith;
          id_high = held.1;
        }
      where
        value_typed : (k : Class) → are_typed (is_there d) k.attributes o.values ≡ true → (a : List ℕ) (v : ValueTree) → look_up a o.values ≡ Some v → is_value_of (is_there d) (look_up a k.attributes) v ≡ true
        value_typed k q a v l = all_at (λ e. is_value_of (is_there d) (look_up e.0 k.attributes) e.1) a o.values v q l

        in_class : (k : Class) → are_typed (is_there d) k.attributes o.values ≡ true → (a : List ℕ) → is_listed a (names_of o.values) ≡ true → is_listed a (names_of k.attributes) ≡ true
        in_class k q a g =
            let v = looked a o.values g in
            let t = has_a_type (is_there d) (look_up a k.attributes) v.0 (value_typed k q a v.0 v.1) in
            listed a k.attributes t.0 t.1

        in_object : (k : Class) → are_whole k.attributes o.values ≡ true → (a : List ℕ) → is_listed a (names_of k.attributes) ≡ true → is_listed a (names_of o.values) ≡ true
        in_object k p a g = let t = looked a k.attributes g in all_at (λ e. is_listed e.0 (names_of o.values)) a k.attributes t.0 p t.1

        typed : (k : Class) → are_typed (is_there d) k.attributes o.values ≡ true → are_whole k.attributes o.values ≡ true → (a : List ℕ) (t : TypeTree) → look_up a k.attributes ≡ Some t → HasType d (value_or_unit (look_up a o.values)) t
        typed k q p a t l =
            let v = looked a o.values (in_object k p a (listed a k.attributes t l)) in
            subst (λ m. HasType d (value_or_unit m) t) (sym v.1)
            (typed_from d v.0 t (each_at WellFormed a o.values v.0 held.0 v.1) (ap (λ m. is_value_of (is_there d) m v.0) (sym l) ∙ value_typed k q a v.0 v.1))

fits_to : (S : Classes) (d : Objects) (o : Object) → FitsClass S d o → fits_class (is_there d) (class_named S o.class) o ≡ true
fits_to S d o f =
    let low = f.id_low in
    ap (λ m. fits_class (is_there d) m o) f.is
    ∙ and_true _ _ (and_true _ _ (and_true _ _ (lt-ltb 0 o.id (omega arith)) f.once) typed) (all_listed (λ a. is_listed a (names_of o.values)) f.class.attributes (λ a h. f.exactly a ∙ h))
  where
    typed : are_typed (is_there d) f.class.attributes o.values ≡ true
    typed = all_looked (λ e. is_value_of (is_there d) (look_up e.0 f.class.attributes) e.1) o.values f.once (λ a v h.
        let t = looked a f.class.attributes (sym (f.exactly a) ∙ listed a o.values v h) in
        let has = f.types a t.0 (sym (attribute_of_class S o.class a) ∙ (ap (option_and_then (λ (c : Class). look_up a c.attributes)) f.is ∙ t.1)) in
        ap (λ m. is_value_of (is_there d) m v) t.1 ∙ typed_to d v t.0 (subst (λ m. HasType d (value_or_unit m) t.0) h has))

each_fits_from : (S : Classes) (d l : Objects) → Each IsHeld l → all_fit S d l ≡ true → Each (FitsClass S d) l
each_fits_from S d [] held h = tt
each_fits_from S d (o ∷ l) held h =
    let p = both_true (fits_class (is_there d) (class_named S o.class) o) (all_fit S d l) h in
    (fits_from S d o held.0 p.0, each_fits_from S d l held.1 p.1)

each_fits_to : (S : Classes) (d l : Objects) → Each (FitsClass S d) l → all_fit S d l ≡ true
each_fits_to S d [] h = refl
each_fits_to S d (o ∷ l) h = and_true _ _ (fits_to S d o h.0) (each_fits_to S d l h.1)

-- ---- a database and its schema

pub meets_from : (S : Classes) (d : Objects) → Each IsHeld d → meets S d ≡ true → Meets S d
meets_from S d held h =
    let p = both_true (no_two same_object d && all_fit S d d) (keys_are_met S d) h in
    let q = both_true (no_two same_object d) (all_fit S d d) p.0 in
    let twice = none_twice_from d q.0 in
    record { distinct = twice; fits = each_fits_from S d d held q.1; keys = keys_from S d twice p.1 }

pub meets_to : (S : Classes) (d : Objects) → Meets S d → meets S d ≡ true
meets_to S d m = and_true _ _ (and_true _ _ (none_twice_to d m.distinct) (each_fits_to S d d m.fits)) (keys_to S d m.distinct m.keys d (λ o i. i) m.distinct)
