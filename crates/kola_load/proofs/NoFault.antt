-- What holds where a list of tests finds no fault.
use Rattle.std.proofs.Common.{◌≡◌, ◌⊎◌, inl, inr, Bool, true, false, not, cond, ◌&&◌, ◌||◌, List, [], ◌∷◌, ◌++◌, Option, Some, None, map, flat_map, option_map, option_and_then, refl, ap, subst, ◌∙◌}
use Rattle.std.specs.List.{find, list_any, list_all}
use Rattle.std.specs.Option.{option_or}
use Rattle.kola_database.specs.MeetsTests.{no_two}
use Rattle.std.proofs.lemmas.List.Folds.{list_any-append}
use Rattle.kola_values.proofs.Truth.{both_false, not_true}
use Rattle.kola_database.proofs.Meeting.{In}
use Rattle.kola_values.proofs.SameTypes.{and_true, both_true}
use Rattle.kola_load.specs.Loading.{Test, unless, first_of, first_among}
use Rattle.kola_load.specs.declared.fault.DbFault.{DbFault}

-- ---- options

pub neither : {A : Type 0} (a b : Option A) → option_or a b ≡ None → (a ≡ None) × (b ≡ None)
neither None b h = (refl, h)
neither (Some x) b h = absurd (cc)

pub holds : (b : Bool) (f : DbFault) → unless b f ≡ None → b ≡ true
holds true f h = refl
holds false f h = absurd (cc)

pub none_mapped : {A B : Type 0} (f : A → B) (o : Option A) → option_map f o ≡ None → o ≡ None
none_mapped f None e = refl
none_mapped f (Some x) e = absurd (cc)

pub some_mapped : {A B : Type 0} (f : A → B) (o : Option A) (y : B) → option_map f o ≡ Some y → (x : A) × (o ≡ Some x) × (f x ≡ y)
some_mapped f None y e = absurd (cc)
some_mapped f (Some x) y e = (x, refl, cc)

pub some_then : {A B : Type 0} (f : A → Option B) (o : Option A) (y : B) → option_and_then f o ≡ Some y → (x : A) × (o ≡ Some x) × (f x ≡ Some y)
some_then f None y e = absurd (cc)
some_then f (Some x) y e = (x, refl, e)

-- ---- elements of lists

pub in_left : {A : Type 0} (x : A) (xs ys : List A) → In x xs → In x (xs ++ ys)
in_left x [] ys i = absurd i
in_left x (y ∷ xs) ys (inl e) = inl e
in_left x (y ∷ xs) ys (inr i) = inr (in_left x xs ys i)

pub in_right : {A : Type 0} (x : A) (xs ys : List A) → In x ys → In x (xs ++ ys)
in_right x [] ys i = i
in_right x (y ∷ xs) ys i = inr (in_right x xs ys i)

pub in_either : {A : Type 0} (x : A) (xs ys : List A) → In x (xs ++ ys) → In x xs ⊎ In x ys
in_either x [] ys i = inr i
in_either x (y ∷ xs) ys (inl e) = inl (inl e)
in_either x (y ∷ xs) ys (inr i) = later (in_either x xs ys i)
  where
    later : In x xs ⊎ In x ys → In x (y ∷ xs) ⊎ In x ys
    later (inl k) = inl (inr k)
    later (inr k) = inr k

pub in_map : {A B : Type 0} (f : A → B) (x : A) (xs : List A) → In x xs → In (f x) (map f xs)
in_map f x [] i = absurd i
in_map f x (y ∷ xs) (inl e) = inl (ap f e)
in_map f x (y ∷ xs) (inr i) = inr (in_map f x xs i)

pub from_map : {A B : Type 0} (f : A → B) (y : B) (xs : List A) → In y (map f xs) → (x : A) × In x xs × (y ≡ f x)
from_map f y [] i = absurd i
from_map f y (x ∷ xs) (inl e) = (x, inl refl, e)
from_map f y (x ∷ xs) (inr i) = let r = from_map f y xs i in (r.0, inr r.1, r.2)

pub in_flat : {A B : Type 0} (f : A → List B) (x : A) (y : B) (xs : List A) → In x xs → In y (f x) → In y (flat_map f xs)
in_flat f x y [] i k = absurd i
in_flat f x y (z ∷ xs) (inl e) k = in_left y (f z) (flat_map f xs) (subst (λ u. In y (f u)) e k)
in_flat f x y (z ∷ xs) (inr i) k = in_right y (f z) (flat_map f xs) (in_flat f x y xs i k)

pub from_flat : {A B : Type 0} (f : A → List B) (y : B) (xs : List A) → In y (flat_map f xs) → (x : A) × In x xs × In y (f x)
from_flat f y [] i = absurd i
from_flat {A} {B} f y (z ∷ xs) i = at (in_either y (f z) (flat_map f xs) i) (λ k. from_flat f y xs k)
  where
    at : In y (f z) ⊎ In y (flat_map f xs) → (In y (flat_map f xs) → (x : A) × In x xs × In y (f x)) → (x : A) × In x (z ∷ xs) × In y (f x)
    at (inl k) r = (z, inl refl, k)
    at (inr k) r = let s = r k in (s.0, inr s.1, s.2)

pub all_in : {A : Type 0} (q : A → Bool) (xs : List A) → ((x : A) → In x xs → q x ≡ true) → list_all q xs ≡ true
all_in q [] f = refl
all_in q (x ∷ xs) f = and_true _ _ (f x (inl refl)) (all_in q xs (λ y i. f y (inr i)))

pub none_in : {A : Type 0} (q : A → Bool) (xs : List A) → ((x : A) → In x xs → q x ≡ false) → list_any q xs ≡ false
none_in q [] f = refl
none_in q (x ∷ xs) f = λ i. f x (inl refl) i || none_in q xs (λ y k. f y (inr k)) i

pub not_found : {A : Type 0} (q : A → Bool) (xs : List A) → find q xs ≡ None → (x : A) → In x xs → q x ≡ false
not_found q [] h x i = absurd i
not_found {A} q (y ∷ xs) h x i = at (q y) refl h (λ k l. not_found q xs k x l) i
  where
    at : (b : Bool) → q y ≡ b → cond b (Some y) (find q xs) ≡ None → (find q xs ≡ None → In x xs → q x ≡ false) → In x (y ∷ xs) → q x ≡ false
    at true e k r l = absurd (cc)
    at false e k r (inl l) = ap q l ∙ e
    at false e k r (inr l) = r k l

-- ---- lists of tests

pub none_of : {A : Type 0} (test : A → Test) (xs : List A) → first_of test xs ≡ None → (x : A) → In x xs → test x ≡ None
none_of test [] h x i = absurd i
none_of test (y ∷ xs) h x (inl e) = ap test e ∙ (neither (test y) (first_of test xs) h).0
none_of test (y ∷ xs) h x (inr i) = none_of test xs (neither (test y) (first_of test xs) h).1 x i

pub none_among : {A : Type 0} (test : List A → A → Test) (before xs : List A) → first_among test before xs ≡ None → (x : A) → In x xs → (b : List A) × (test b x ≡ None)
none_among test before [] h x i = absurd i
none_among test before (y ∷ xs) h x (inl e) = (before, ap (test before) e ∙ (neither (test before y) (first_among test (before ++ y ∷ []) xs) h).0)
none_among test before (y ∷ xs) h x (inr i) = none_among test (before ++ y ∷ []) xs (neither (test before y) (first_among test (before ++ y ∷ []) xs) h).1 x i

-- ---- no two elements are related

module _ {A : Type 0} (r : A → A → Bool) where
  -- where a test fails of an element that an earlier one is related to
  pub none_related : (test : List A → A → Test) → ((before : List A) (x : A) → test before x ≡ None → (y : A) → In y before → r y x ≡ false)
      → (before xs : List A) → first_among test before xs ≡ None → (no_two r xs ≡ true) × ((y : A) → In y before → list_any (r y) xs ≡ false)
  none_related test apart before [] h = (refl, λ y i. refl)
  none_related test apart before (x ∷ xs) h =
      let n = neither (test before x) (first_among test (before ++ x ∷ []) xs) h in
      let rest = none_related test apart (before ++ x ∷ []) xs n.1 in (
        and_true _ _ (ap not (rest.1 x (in_right x before (x ∷ []) (inl refl)))) rest.0,
        λ y i. (λ k. apart before x n.0 y i k || rest.1 y (in_left y before (x ∷ []) i) k),
      )

  pub two_lists : (xs ys : List A) → no_two r xs ≡ true → no_two r ys ≡ true → ((x y : A) → In x xs → In y ys → r x y ≡ false) → no_two r (xs ++ ys) ≡ true
  two_lists [] ys h k apart = k
  two_lists (x ∷ xs) ys h k apart =
      let p = both_true (not (list_any (r x) xs)) (no_two r xs) h in
      and_true _ _
      (ap not (list_any-append (r x) xs ys ∙ (λ i. not_true (list_any (r x) xs) p.0 i || none_in (r x) ys (λ y l. apart x y (inl refl) l) i)))
      (two_lists xs ys p.1 k (λ z y i l. apart z y (inr i) l))

pub no_two_alike : {A : Type 0} (p q : A → A → Bool) (xs : List A) → ((x y : A) → In x xs → In y xs → p x y ≡ q x y) → no_two p xs ≡ no_two q xs
no_two_alike p q [] f = refl
no_two_alike p q (x ∷ xs) f = λ i. not (any_in_alike (p x) (q x) xs (λ y l. f x y (inl refl) (inr l)) i) && no_two_alike p q xs (λ y z l m. f y z (inr l) (inr m)) i
  where
    any_in_alike : {A : Type 0} (p q : A → Bool) (xs : List A) → ((y : A) → In y xs → p y ≡ q y) → list_any p xs ≡ list_any q xs
    any_in_alike p q [] g = refl
    any_in_alike p q (y ∷ ys) g = λ i. g y (inl refl) i || any_in_alike p q ys (λ z l. g z (inr l)) i

pub no_two_map : {A B : Type 0} (f : A → B) (r : B → B → Bool) (xs : List A) → no_two (λ x y. r (f x) (f y)) xs ≡ no_two r (map f xs)
no_two_map f r [] = refl
no_two_map f r (x ∷ xs) = λ i. not (any_map f (r (f x)) xs i) && no_two_map f r xs i
  where
    any_map : {A B : Type 0} (f : A → B) (q : B → Bool) (xs : List A) → list_any (λ y. q (f y)) xs ≡ list_any q (map f xs)
    any_map f q [] = refl
    any_map f q (y ∷ ys) = ap (λ b. q (f y) || b) (any_map f q ys)

-- no two are related by one of several relations
pub none_by_any : {A B : Type 0} (r : B → A → A → Bool) (bs : List B) (xs : List A) → ((b : B) → In b bs → no_two (r b) xs ≡ true) → no_two (λ x y. list_any (λ b. r b x y) bs) xs ≡ true
none_by_any r [] xs f = none xs
  where
    none_any : {A : Type 0} (xs : List A) → list_any (λ _. false) xs ≡ false
    none_any [] = refl
    none_any (x ∷ xs) = none_any xs

    none : {A : Type 0} (xs : List A) → no_two (λ _ _. false) xs ≡ true
    none [] = refl
    none (x ∷ xs) = and_true _ _ (ap not (none_any xs)) (none xs)
none_by_any r (b ∷ bs) xs f = either (r b) (λ x y. list_any (λ c. r c x y) bs) xs (f b (inl refl)) (none_by_any r bs xs (λ c i. f c (inr i)))
  where
    any_either : {A : Type 0} (p q : A → Bool) (xs : List A) → list_any p xs ≡ false → list_any q xs ≡ false → list_any (λ x. p x || q x) xs ≡ false
    any_either p q [] h k = refl
    any_either p q (x ∷ xs) h k =
        let a = both_false (p x) (list_any p xs) h in
        let b = both_false (q x) (list_any q xs) k in
        λ i. (a.0 i || b.0 i) || any_either p q xs a.1 b.1 i

    either : {A : Type 0} (p q : A → A → Bool) (xs : List A) → no_two p xs ≡ true → no_two q xs ≡ true → no_two (λ x y. p x y || q x y) xs ≡ true
    either p q [] h k = refl
    either p q (x ∷ xs) h k =
        let a = both_true (not (list_any (p x) xs)) (no_two p xs) h in
        let b = both_true (not (list_any (q x) xs)) (no_two q xs) k in
        and_true _ _ (ap not (any_either (p x) (q x) xs (not_true _ a.0) (not_true _ b.0))) (either p q xs a.1 b.1)
