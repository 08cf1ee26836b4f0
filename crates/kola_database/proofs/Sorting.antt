-- A sorted list has no two equal elements exactly where no element is equal to the next.
use Rattle.std.proofs.Common.{◌≡◌, ℕ, zero, suc, ◌+◌, ◌<◌, length, get_or, Bool, true, false, not, ◌&&◌, ◌||◌, List, [], ◌∷◌, map, sym, ◌∙◌, ap, refl, arith, add-one, Less, Equal, Greater, Ordering}
use mathlib.Core.Bool.{and-false}
use Rattle.std.specs.List.{list_any, AllByRecursion, IsDistinct, IsAllAdjacentAnswer, AllAdjacentBelow}
use Rattle.std.specs.List.Sorted.{IsPermutation, IsSortedBy}
use Rattle.std.specs.Ordering.{is_lt, is_eq, ordering_reverse}
use Rattle.std.specs.Cmp.{IsTotalOrder}
use Rattle.std.proofs.lemmas.List.Sorted.{IsPermutation-sym}
use Rattle.std.proofs.lemmas.Map.Keys.{IsDistinct-IsPermutation}
use Rattle.kola_values.specs.Values.{ValueTree, VObj}
use Rattle.kola_values.specs.Order.{cmp, same}
use Rattle.kola_values.specs.Models.Total.{cmp_total}
use Rattle.kola_database.specs.MeetsTests.{no_two, same_object}
use Rattle.kola_database.specs.ObjectViews.{object_tree}
use Rattle.kola_database.specs.declared.object.ObjectDef.{ObjectDef}
use Rattle.kola_database.proofs.KeyLoops.{no_two_seen}
use Rattle.kola_values.proofs.Anys.{bool_same}
use Rattle.kola_values.proofs.SameTypes.{and_true, both_true}
use Rattle.kola_values.proofs.Truth.{both_false, not_true}

-- ---- the order of the elements does not tell

module _ {A : Type 0} (r : A → A → Bool) where
  none_related : (x : A) (xs : List A) → list_any (r x) xs ≡ false → AllByRecursion (λ y. r x y ≡ false) xs
  none_related x [] h = tt
  none_related x (y ∷ ys) h = let p = both_false (r x y) (list_any (r x) ys) h in (p.0, none_related x ys p.1)

  from_none_related : (x : A) (xs : List A) → AllByRecursion (λ y. r x y ≡ false) xs → list_any (r x) xs ≡ false
  from_none_related x [] h = refl
  from_none_related x (y ∷ ys) h = λ j. h.0 j || from_none_related x ys h.1 j

  told_apart : (xs : List A) → no_two r xs ≡ true → IsDistinct r xs
  unfolding IsDistinct
  told_apart [] h = tt
  told_apart (x ∷ xs) h =
      let p = both_true (not (list_any (r x) xs)) (no_two r xs) h in
      (none_related x xs (not_true (list_any (r x) xs) p.0), told_apart xs p.1)

  from_told_apart : (xs : List A) → IsDistinct r xs → no_two r xs ≡ true
  unfolding IsDistinct
  from_told_apart [] d = refl
  from_told_apart (x ∷ xs) d = λ j. not (from_none_related x xs d.0 j) && from_told_apart xs d.1 j

  pub no_two_moved : ((x y : A) → r x y ≡ r y x) → (xs ys : List A) → IsPermutation xs ys → no_two r ys ≡ no_two r xs
  no_two_moved flips xs ys p = bool_same (no_two r ys) (no_two r xs)
      (λ h. from_told_apart xs (IsDistinct-IsPermutation r flips ys xs (IsPermutation-sym xs ys p) (told_apart ys h)))
      (λ h. from_told_apart ys (IsDistinct-IsPermutation r flips xs ys p (told_apart xs h)))

-- ---- a sorted list

tied_at : (o : Ordering) → is_lt o ≡ false → is_lt (ordering_reverse o) ≡ false → is_eq o ≡ true
tied_at Less h k = absurd (cc)
tied_at Equal h k = refl
tied_at Greater h k = absurd (cc)

less_at : (o : Ordering) → is_lt o ≡ true → o ≡ Less
less_at Less h = refl
less_at Equal h = absurd (cc)
less_at Greater h = absurd (cc)

module _ {K : Type 0} (R : K → K → Ordering) (total : IsTotalOrder R) {X : Type 0} (key : X → K) where
  abbrev tied : X → X → Bool
  tied x y = is_eq (R (key x) (key y))

  abbrev below : X → X → Bool
  below x y = is_lt (R (key x) (key y))

  -- each is below the next
  abbrev Ascends : List X → Type 0
  Ascends [] = Unit {0}
  Ascends (x ∷ []) = Unit {0}
  Ascends (x ∷ y ∷ ys) = (R (key x) (key y) ≡ Less) × Ascends (y ∷ ys)

  ascends : (xs : List X) → AllAdjacentBelow (λ x y. true ≡ below x y) xs (length xs) → Ascends xs
  ascends [] h = tt
  ascends (x ∷ []) h = tt
  ascends (x ∷ y ∷ ys) h = (less_at (R (key x) (key y)) (sym (h 0 x (omega arith))), ascends (y ∷ ys) (λ k d p. simp add-one (simp add-one at (h (k + 1) d (omega arith)))))

  above_first : (x : X) (xs : List X) → Ascends (x ∷ xs) → AllByRecursion (λ y. tied x y ≡ false) xs
  above_first x [] h = tt
  above_first x (y ∷ ys) h = (ap is_eq h.0, later x y ys h.0 h.1)
    where
      later : (x y : X) (ys : List X) → R (key x) (key y) ≡ Less → Ascends (y ∷ ys) → AllByRecursion (λ z. tied x z ≡ false) ys
      later x y [] e h = tt
      later x y (z ∷ zs) e h = let f = total.trans (key x) (key y) (key z) e h.0 in (ap is_eq f, later x z zs f h.1)

  none_tied : (xs : List X) → Ascends xs → no_two tied xs ≡ true
  none_tied [] h = refl
  none_tied (x ∷ []) h = refl
  none_tied (x ∷ y ∷ ys) h = and_true _ _ (ap not (from_none_related tied x (y ∷ ys) (above_first x (y ∷ ys) h))) (none_tied (y ∷ ys) h.1)

  two_tied : (xs : List X) (k : ℕ) → k + 1 < length xs → ((d : X) → tied (get_or xs k d) (get_or xs (k + 1) d) ≡ true) → no_two tied xs ≡ false
  two_tied [] k p h = absurd (omega arith)
  two_tied (x ∷ []) k p h = absurd (omega arith)
  two_tied (x ∷ y ∷ ys) zero p h = ap (λ b. not (b || list_any (tied x) ys) && no_two tied (y ∷ ys)) (h x)
  two_tied (x ∷ y ∷ ys) (suc k) p h =
      ap (λ b. not (list_any (tied x) (y ∷ ys)) && b) (two_tied (y ∷ ys) k (omega arith) (λ d. simp add-one (simp add-one at (h d))))
      ∙ and-false (not (list_any (tied x) (y ∷ ys)))

  pub told_by_neighbours : (xs : List X) (b : Bool) → IsSortedBy below xs → IsAllAdjacentAnswer (λ x y c. c ≡ below x y) xs b → b ≡ no_two tied xs
  told_by_neighbours xs true s h = sym (none_tied xs (ascends xs h))
  told_by_neighbours xs false s h = sym (two_tied xs h.0 h.1 (λ d. tied_at (R (key (get_or xs h.0 d)) (key (get_or xs (h.0 + 1) d))) (sym (h.2 d)) (ap is_lt (sym (total.antisymm (key (get_or xs (h.0 + 1) d)) (key (get_or xs h.0 d)))) ∙ s h.0 d (omega arith) (omega arith))))

-- ---- objects

abbrev object_value : ObjectDef → ValueTree
object_value o = VObj o.class o.id

abbrev objects_below : ObjectDef → ObjectDef → Bool
objects_below o p = is_lt (cmp (object_value o) (object_value p))

pub objects_told : (os : List ObjectDef) (b : Bool) → IsSortedBy objects_below os → IsAllAdjacentAnswer (λ o p c. c ≡ objects_below o p) os b → b ≡ no_two same_object (map object_tree os)
unfolding same
objects_told os b s h = told_by_neighbours cmp cmp_total object_value os b s h ∙ no_two_seen object_tree same_object os
