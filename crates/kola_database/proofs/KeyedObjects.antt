-- Two objects clash exactly where a key says the same of them.
use Rattle.std.proofs.Common.{◌≡◌, ℕ, ◌+◌, ◌<◌, Bool, true, false, not, ◌&&◌, ◌||◌, List, [], ◌∷◌, ◌++◌, Option, Some, None, map, flat_map, ap, sym, refl, ◌∙◌, arith, Less, Equal, Greater, Ordering}
use mathlib.Core.Bool.{or-false, or-true}
use Rattle.std.specs.List.{list_any, list_all}
use Rattle.std.proofs.lemmas.List.Folds.{list_any-append}
use Rattle.std.specs.Str.{bytes_eq}
use Rattle.std.specs.Ordering.{is_eq, ordering_then, ordering_reverse}
use Rattle.std.specs.Cmp.{IsTotalOrder}
use Rattle.std.proofs.lemmas.Cmp.{lists_total}
use Rattle.kola_values.specs.Values.{ValueTree, VObj}
use Rattle.kola_values.specs.Order.{cmp, same}
use Rattle.kola_values.specs.Databases.{Class, Object, Classes, Objects}
use Rattle.kola_schema.specs.Schemas.{class_named}
use Rattle.kola_database.specs.MeetsTests.{no_two, agree_at, clash, keys_are_met}
use Rattle.kola_database.specs.KeyedObjects.{value_at_name, keyed, keyed_from, all_keyed, keyed_objects, cmp_keyed, same_keyed}
use Rattle.kola_values.specs.Models.Total.{cmp_total}
use Rattle.kola_values.proofs.Anys.{equal, same_itself}
use Rattle.kola_values.proofs.SameTypes.{name_equal}
use Rattle.kola_database.proofs.MeetingTypes.{other_class}

pub cmp_keyed_total : IsTotalOrder cmp_keyed
cmp_keyed_total = lists_total cmp_total

eq_reversed : (o : Ordering) → is_eq (ordering_reverse o) ≡ is_eq o
eq_reversed Less = refl
eq_reversed Equal = refl
eq_reversed Greater = refl

pub same_keyed_flips : (xs ys : List ValueTree) → same_keyed xs ys ≡ same_keyed ys xs
same_keyed_flips xs ys = ap is_eq (cmp_keyed_total.antisymm xs ys) ∙ eq_reversed (cmp_keyed ys xs)

then_eq : (a b : Ordering) → is_eq (ordering_then a b) ≡ (is_eq a && is_eq b)
then_eq Less b = refl
then_eq Equal b = refl
then_eq Greater b = refl

-- ---- some element of a list made of lists

none_of : {A : Type 0} (xs : List A) → list_any (λ _. false) xs ≡ false
none_of [] = refl
none_of (x ∷ xs) = none_of xs

four : (a b c d : Bool) → ((a || b) || (c || d)) ≡ ((a || c) || (b || d))
four true b c d = refl
four false true c d = sym (or-true c)
four false false c d = refl

any_either : {A : Type 0} (p q : A → Bool) (xs : List A) → list_any (λ x. p x || q x) xs ≡ (list_any p xs || list_any q xs)
any_either p q [] = refl
any_either p q (x ∷ xs) = ap (λ b. (p x || q x) || b) (any_either p q xs) ∙ four (p x) (q x) (list_any p xs) (list_any q xs)

any_alike : {A : Type 0} (p q : A → Bool) (xs : List A) → ((x : A) → p x ≡ q x) → list_any p xs ≡ list_any q xs
any_alike p q [] f = refl
any_alike p q (x ∷ xs) f = λ j. f x j || any_alike p q xs f j

-- some element of the first list is related to one of those that are made
across : {A B : Type 0} (r : A → A → Bool) (f : B → List A) (xs : List A) (bs : List B) → list_any (λ x. list_any (r x) (flat_map f bs)) xs ≡ list_any (λ b. list_any (λ x. list_any (r x) (f b)) xs) bs
across r f xs [] = none_of xs
across r f xs (b ∷ bs) =
    any_alike (λ x. list_any (r x) (f b ++ flat_map f bs)) (λ x. list_any (r x) (f b) || list_any (r x) (flat_map f bs)) xs (λ x. list_any-append (r x) (f b) (flat_map f bs))
    ∙ any_either (λ x. list_any (r x) (f b)) (λ x. list_any (r x) (flat_map f bs)) xs
    ∙ ap (λ c. list_any (λ x. list_any (r x) (f b)) xs || c) (across r f xs bs)

no_two_joined : {A : Type 0} (r : A → A → Bool) (xs ys : List A) → no_two r xs ≡ true → no_two r (xs ++ ys) ≡ (not (list_any (λ x. list_any (r x) ys) xs) && no_two r ys)
no_two_joined r [] ys h = refl
no_two_joined r (x ∷ xs) ys h = at (list_any (r x) xs) refl (list_any (r x) ys) refl h (λ k. no_two_joined r xs ys k)
  where
    at : (a : Bool) → list_any (r x) xs ≡ a → (b : Bool) → list_any (r x) ys ≡ b → (not a && no_two r xs) ≡ true → (no_two r xs ≡ true → no_two r (xs ++ ys) ≡ (not (list_any (λ z. list_any (r z) ys) xs) && no_two r ys))
        → (not (list_any (r x) (xs ++ ys)) && no_two r (xs ++ ys)) ≡ (not (b || list_any (λ z. list_any (r z) ys) xs) && no_two r ys)
    at true e b f h k = absurd (cc)
    at false e true f h k = ap (λ c. not c && no_two r (xs ++ ys)) (list_any-append (r x) xs ys ∙ (λ j. e j || f j))
    at false e false f h k = (λ j. not ((list_any-append (r x) xs ys ∙ (λ i. e i || f i)) j) && k h j)

-- what is made of one element has no two, so what counts is what is made of two
no_two_made : {A B : Type 0} (r : A → A → Bool) (f : B → List A) (bs : List B) → ((b : B) → no_two r (f b) ≡ true) → no_two r (flat_map f bs) ≡ no_two (λ b c. list_any (λ x. list_any (r x) (f c)) (f b)) bs
no_two_made r f [] h = refl
no_two_made r f (b ∷ bs) h =
    no_two_joined r (f b) (flat_map f bs) (h b)
    ∙ (λ j. not (across r f (f b) bs j) && no_two_made r f bs h j)

no_two_alike : {A : Type 0} (p q : A → A → Bool) (xs : List A) → ((x y : A) → p x y ≡ q x y) → no_two p xs ≡ no_two q xs
no_two_alike p q [] f = refl
no_two_alike p q (x ∷ xs) f = λ j. not (any_alike (p x) (q x) xs (f x) j) && no_two_alike p q xs f j

-- ---- two keys of two objects

abbrev id_part : ValueTree → ℕ
id_part (VObj c i) = i
id_part v = 0

-- a key of a later place says another thing
other_place : (c d : List ℕ) (m n : ℕ) → (m ≡ n → ⊥) → same (VObj c m) (VObj d n) ≡ false
other_place c d m n h = at (same (VObj c m) (VObj d n)) refl
  where
    at : (b : Bool) → same (VObj c m) (VObj d n) ≡ b → b ≡ false
    at false e = refl
    at true e = absurd (h (ap id_part (equal (VObj c m) (VObj d n) e)))

same_one : (o p : Object) (m n : ℕ) (key other : List (List ℕ)) → same_keyed (keyed o m key) (keyed p n other) ≡ (same (VObj o.class m) (VObj p.class n) && same_keyed (map (λ a. value_at_name o a) key) (map (λ a. value_at_name p a) other))
unfolding same
same_one o p m n key other = then_eq (cmp (VObj o.class m) (VObj p.class n)) (cmp_keyed (map (λ a. value_at_name o a) key) (map (λ a. value_at_name p a) other))

agree_all : (o p : Object) (key : List (List ℕ)) → same_keyed (map (λ a. value_at_name o a) key) (map (λ a. value_at_name p a) key) ≡ list_all (λ a. agree_at o p a) key
unfolding same
agree_all o p [] = refl
agree_all o p (a ∷ key) =
    then_eq (cmp (value_at_name o a) (value_at_name p a)) (cmp_keyed (map (λ b. value_at_name o b) key) (map (λ b. value_at_name p b) key))
    ∙ ap (λ b. same (value_at_name o a) (value_at_name p a) && b) (agree_all o p key)

module _ (o p : Object) where
  -- a key before the others
  before : (m n : ℕ) (key : List (List ℕ)) (keys : List (List (List ℕ))) → m < n → list_any (same_keyed (keyed o m key)) (keyed_from p n keys) ≡ false
  before m n key [] h = refl
  before m n key (k ∷ keys) h =
      (λ j. (same_one o p m n key k ∙ ap (λ b. b && same_keyed (map (λ a. value_at_name o a) key) (map (λ a. value_at_name p a) k)) (other_place o.class p.class m n (λ e. omega arith))) j || before m (n + 1) key keys (omega arith) j)

  -- the others before a key
  behind : (m n : ℕ) (key : List (List ℕ)) (keys : List (List (List ℕ))) → n < m → list_any (λ x. same_keyed x (keyed p n key)) (keyed_from o m keys) ≡ false
  behind m n key [] h = refl
  behind m n key (k ∷ keys) h =
      (λ j. (same_one o p m n k key ∙ ap (λ b. b && same_keyed (map (λ a. value_at_name o a) k) (map (λ a. value_at_name p a) key)) (other_place o.class p.class m n (λ e. omega arith))) j || behind (m + 1) n key keys (omega arith) j)

  abbrev crossing : List (List ValueTree) → List (List ValueTree) → Bool
  crossing xs ys = list_any (λ x. list_any (same_keyed x) ys) xs

  same_keys : o.class ≡ p.class → (n : ℕ) (keys : List (List (List ℕ))) → crossing (keyed_from o n keys) (keyed_from p n keys) ≡ list_any (λ key. list_all (λ a. agree_at o p a) key) keys
  same_keys e n [] = refl
  same_keys e n (k ∷ keys) =
      let here : same_keyed (keyed o n k) (keyed p n k) ≡ list_all (λ a. agree_at o p a) k =
      same_one o p n n k k ∙ ap (λ b. b && same_keyed (map (λ a. value_at_name o a) k) (map (λ a. value_at_name p a) k)) (ap (λ c. same (VObj o.class n) (VObj c n)) (sym e) ∙ same_itself (VObj o.class n)) ∙ agree_all o p k in
      let first : list_any (same_keyed (keyed o n k)) (keyed p n k ∷ keyed_from p (n + 1) keys) ≡ list_all (λ a. agree_at o p a) k =
      (λ j. here j || before n (n + 1) k keys (omega arith) j) ∙ or-false (list_all (λ a. agree_at o p a) k) in
      let rest : crossing (keyed_from o (n + 1) keys) (keyed p n k ∷ keyed_from p (n + 1) keys) ≡ list_any (λ key. list_all (λ a. agree_at o p a) key) keys =
      any_either (λ x. same_keyed x (keyed p n k)) (λ x. list_any (same_keyed x) (keyed_from p (n + 1) keys)) (keyed_from o (n + 1) keys)
      ∙ (λ j. behind (n + 1) n k keys (omega arith) j || same_keys e (n + 1) keys j) in
      λ j. first j || rest j

  other_keys : bytes_eq o.class p.class ≡ false → (m n : ℕ) (keys others : List (List (List ℕ))) → crossing (keyed_from o m keys) (keyed_from p n others) ≡ false
  other_keys e m n [] others = refl
  other_keys e m n (k ∷ keys) others = λ j. one n others j || other_keys e (m + 1) n keys others j
    where
      one : (n : ℕ) (others : List (List (List ℕ))) → list_any (same_keyed (keyed o m k)) (keyed_from p n others) ≡ false
      one n [] = refl
      one n (t ∷ others) =
          (λ j. (same_one o p m n k t ∙ ap (λ b. b && same_keyed (map (λ a. value_at_name o a) k) (map (λ a. value_at_name p a) t)) (other_class o.class p.class m n e)) j || one (n + 1) others j)

crossing_of : (S : Classes) (o p : Object) → crossing o p (all_keyed (class_named S o.class) o) (all_keyed (class_named S p.class) p) ≡ clash (class_named S o.class) o p
crossing_of S o p = at (bytes_eq o.class p.class) refl (class_named S o.class) refl (class_named S p.class) refl
  where
    at : (b : Bool) → bytes_eq o.class p.class ≡ b → (m : Option Class) → class_named S o.class ≡ m → (n : Option Class) → class_named S p.class ≡ n → crossing o p (all_keyed m o) (all_keyed n p) ≡ clash m o p
    at b e None f n g = refl
    at false e (Some k) f None g = none_of (keyed_from o 0 k.keys) ∙ ap (λ c. c && list_any (λ key. list_all (λ a. agree_at o p a) key) k.keys) (sym e)
    at false e (Some k) f (Some l) g = other_keys o p e 0 0 k.keys l.keys ∙ ap (λ c. c && list_any (λ key. list_all (λ a. agree_at o p a) key) k.keys) (sym e)
    at true e (Some k) f n g =
        let q = name_equal o.class p.class e in
        ap (λ m. crossing o p (keyed_from o 0 k.keys) (all_keyed m p)) (sym g ∙ (ap (class_named S) (sym q) ∙ f))
        ∙ same_keys o p q 0 k.keys
        ∙ ap (λ c. c && list_any (λ key. list_all (λ a. agree_at o p a) key) k.keys) (sym e)

-- the keys of one object say different things
one_object : (m : Option Class) (o : Object) → no_two same_keyed (all_keyed m o) ≡ true
one_object None o = refl
one_object (Some k) o = at 0 k.keys
  where
    at : (n : ℕ) (keys : List (List (List ℕ))) → no_two same_keyed (keyed_from o n keys) ≡ true
    at n [] = refl
    at n (k ∷ keys) = λ j. not (before o o n (n + 1) k keys (omega arith) j) && at (n + 1) keys j

pub keyed_apart : (S : Classes) (d : Objects) → no_two same_keyed (keyed_objects S d) ≡ keys_are_met S d
keyed_apart S d =
    no_two_made same_keyed (λ (o : Object). all_keyed (class_named S o.class) o) d (λ o. one_object (class_named S o.class) o)
    ∙ no_two_alike (λ (o p : Object). crossing o p (all_keyed (class_named S o.class) o) (all_keyed (class_named S p.class) p)) (λ (o : Object). clash (class_named S o.class) o) d (crossing_of S)
