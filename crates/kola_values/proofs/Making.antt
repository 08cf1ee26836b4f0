-- A list of values that is sorted and rid of repeats is the set of its members.
use Rattle.std.proofs.Common.{◌≡◌, ℕ, zero, suc, ◌+◌, ◌<◌, length, get_or, slice_get, Some, None, true≢false, Result, Ok, Err, is_ok, ⊎_elim, Bool, true, false, cond, ◌||◌, ltb, List, [], ◌∷◌, map, sym, ◌∙◌, ap, refl, arith, add-one}
use mathlib.Core.Bool.{or_self_left, or-true}
use Rattle.std.specs.List.{sum_by, dedup, dedup_from, find}
use Rattle.std.specs.List.{HoldsAt}
use Rattle.std.specs.List.Sorted.{IsPermutation, IsSortedBy, IsStrictlySortedBy, IsBinarySearchResult, IsSearchInRange}
use Rattle.std.proofs.lemmas.Bool.{cases_lt}
use Rattle.std.specs.declared.cmp.Ordering.TheVariants.{Less, Equal, Greater}
use Rattle.std.specs.declared.cmp.Ordering.{Ordering}
use Rattle.std.specs.Ordering.{is_lt, is_eq, ordering_reverse}
use Rattle.std.specs.Cmp.{IsTotalOrder}
use Rattle.std.proofs.lemmas.Cmp.{on_total}
use Rattle.std.proofs.lemmas.List.Sorted.{sum_by-IsPermutation, searchable_from_sorted}
use Rattle.std.proofs.lemmas.List.Sums.{sum_by-cons}
use Rattle.std.proofs.lemmas.List.Kept.{IsStrictlySortedBy-dedup}
use Rattle.std.proofs.lemmas.Bool.Decides.{nat_tests}
use Rattle.kola_values.specs.Values.{ValueTree}
use Rattle.kola_values.specs.Order.{cmp, same}
use Rattle.kola_values.specs.Sets.{Rising, canon, any, has}
use Rattle.kola_values.specs.Views.{value_tree}
use Rattle.kola_values.specs.Models.Exact.{exact}
use Rattle.kola_values.specs.Models.Total.{cmp_total}
use Rattle.kola_values.specs.declared.value.Value.{Value}
use Rattle.kola_values.proofs.Anys.{one_list, rising, any_canon, equal, same_itself, absent}
use Rattle.kola_values.proofs.Truth.{both_false}

-- the order of values by their trees
abbrev pub by_tree : Value → Value → Ordering
by_tree x y = cmp (value_tree x) (value_tree y)

abbrev pub same_tree : Value → Value → Bool
same_tree x y = is_eq (by_tree x y)

pub by_tree_total : IsTotalOrder by_tree
by_tree_total = on_total value_tree cmp_total

rising_from : (xs : List Value) → IsStrictlySortedBy by_tree xs → Rising (map value_tree xs)
unfolding IsStrictlySortedBy
rising_from [] h = tt
rising_from (x ∷ []) h = (tt, tt)
rising_from (x ∷ (y ∷ ys)) h = (h.0.0, rising_from (y ∷ ys) h.1)

pub deduped_rises : (ys : List Value) → IsSortedBy (λ x y. is_lt (by_tree x y)) ys → Rising (map value_tree (dedup same_tree ys))
deduped_rises ys h = rising_from (dedup same_tree ys) (IsStrictlySortedBy-dedup by_tree_total (λ x y. refl) ys h)

same_trees : (x y : Value) → same_tree x y ≡ true → value_tree x ≡ value_tree y
unfolding same
same_trees x y h = equal (value_tree x) (value_tree y) h

any_from : (q : ValueTree → Bool) (k : Value) (xs : List Value) → any q (map value_tree (dedup_from same_tree k xs)) ≡ (q (value_tree k) || any q (map value_tree xs))
unfolding any
any_from q k [] = refl
any_from q k (x ∷ xs) = at (same_tree x k) refl (any_from q k xs) (any_from q x xs)
  where
    at : (b : Bool) → same_tree x k ≡ b → any q (map value_tree (dedup_from same_tree k xs)) ≡ (q (value_tree k) || any q (map value_tree xs)) → any q (map value_tree (dedup_from same_tree x xs)) ≡ (q (value_tree x) || any q (map value_tree xs))
        → any q (map value_tree (cond b (dedup_from same_tree k xs) (k ∷ dedup_from same_tree x xs))) ≡ (q (value_tree k) || (q (value_tree x) || any q (map value_tree xs)))
    at true e h i = h ∙ sym (ap (λ v. q (value_tree k) || (q v || any q (map value_tree xs))) (same_trees x k e) ∙ or_self_left (q (value_tree k)) (any q (map value_tree xs)))
    at false e h i = ap (λ b. q (value_tree k) || b) i

any_dedup : (q : ValueTree → Bool) (xs : List Value) → any q (map value_tree (dedup same_tree xs)) ≡ any q (map value_tree xs)
unfolding any
any_dedup q [] = refl
any_dedup q (x ∷ xs) = any_from q x xs

any_count : (q : ValueTree → Bool) (xs : List Value) → any q (map value_tree xs) ≡ ltb 0 (sum_by (λ x. cond (q (value_tree x)) 1 0) xs)
unfolding any
any_count q [] = refl
any_count q (x ∷ xs) = at (q (value_tree x)) (any_count q xs) ∙ ap (ltb 0) (sym (sum_by-cons (λ x. cond (q (value_tree x)) 1 0) x xs))
  where
    at : (b : Bool) → any q (map value_tree xs) ≡ ltb 0 (sum_by (λ x. cond (q (value_tree x)) 1 0) xs) → (b || any q (map value_tree xs)) ≡ ltb 0 (cond b 1 0 + sum_by (λ x. cond (q (value_tree x)) 1 0) xs)
    at true h = grind (arith, nat_tests)
    at false h = h ∙ grind (arith, nat_tests)

any_moved : (q : ValueTree → Bool) (xs ys : List Value) → IsPermutation xs ys → any q (map value_tree ys) ≡ any q (map value_tree xs)
any_moved q xs ys h = any_count q ys ∙ ap (ltb 0) (sum_by-IsPermutation (λ x. cond (q (value_tree x)) 1 0) xs ys h) ∙ sym (any_count q xs)

pub made : (xs ys : List Value) → IsPermutation xs ys → IsSortedBy (λ x y. is_lt (by_tree x y)) ys → map value_tree (dedup same_tree ys) ≡ canon (map value_tree xs)
made xs ys p h = one_list _ _ (deduped_rises ys h) (rising (map value_tree xs)) (λ q. any_dedup q ys ∙ any_moved q xs ys p ∙ sym (any_canon q (map value_tree xs)))

-- ---- a binary search of a list of which the values rise

not_same : (v w : ValueTree) → (cmp w v ≡ Equal → ⊥) → same v w ≡ false
unfolding same
not_same v w n = at (cmp v w) refl
  where
    at : (o : Ordering) → cmp v w ≡ o → is_eq o ≡ false
    at Less e = refl
    at Equal e = absurd (n (cmp_total.antisymm w v ∙ ap ordering_reverse e))
    at Greater e = refl

less_unequal : (o : Ordering) → o ≡ Less → o ≡ Equal → ⊥
less_unequal o e f = cc

greater_unequal : (o : Ordering) → o ≡ Greater → o ≡ Equal → ⊥
greater_unequal o e f = cc

head_absent : (v : ValueTree) (vs : List ValueTree) → Rising (v ∷ vs) → has v vs ≡ false
unfolding any
head_absent v [] r = refl
head_absent v (w ∷ ws) r = absent v w ws r.0 r.1

module _ {X : Type 0} (f : X → ValueTree) where
  sorted_from : (xs : List X) → Rising (map f xs) → IsSortedBy (λ x y. is_lt (cmp (f x) (f y))) xs
  sorted_from [] r k d p q = absurd (omega arith)
  sorted_from (x ∷ []) r k d p q = absurd (omega arith)
  sorted_from (x ∷ (y ∷ ys)) r zero d p q = ap is_lt (cmp_total.antisymm (f y) (f x) ∙ ap ordering_reverse r.0)
  sorted_from (x ∷ (y ∷ ys)) r (suc k) d p q = rw add-one (rw add-one at (sorted_from (y ∷ ys) r.1 k d (omega arith) (omega arith)))

  module _ (v : ValueTree) where
    has_at : (xs : List X) (k : ℕ) (d : X) → k < length xs → cmp (f (get_or xs k d)) v ≡ Equal → has v (map f xs) ≡ true
    unfolding any
    has_at [] k d p h = absurd (omega arith)
    has_at (x ∷ xs) zero d p h = ap (λ b. b || has v (map f xs)) (ap (same v) (exact (f x) v h) ∙ same_itself v)
    has_at (x ∷ xs) (suc k) d p h = ap (λ b. same v (f x) || b) (has_at xs k d (omega arith) h) ∙ or-true (same v (f x))

    has_none : (xs : List X) → ((k : ℕ) (d : X) → k < length xs → cmp (f (get_or xs k d)) v ≡ Equal → ⊥) → has v (map f xs) ≡ false
    unfolding any
    has_none [] n = refl
    has_none (x ∷ xs) n = ap (λ b. b || has v (map f xs)) (not_same v (f x) (n 0 x (omega arith))) ∙ has_none xs (λ k d p. n (suc k) d (omega arith))

    -- what a binary search of a sorted list answers
    pub found_sorted : (xs : List X) (r : Result ℕ ℕ) → IsSortedBy (λ x y. is_lt (cmp (f x) (f y))) xs → IsSearchInRange r (length xs) → IsBinarySearchResult (λ x. cmp (f x) v) xs r → is_ok r ≡ has v (map f xs)
    found_sorted xs (Ok i) up p h = at xs refl p h
      where
        at : (ys : List X) → ys ≡ xs → i < length xs → HoldsAt (λ x. cmp (f x) v ≡ Equal) xs i → true ≡ has v (map f xs)
        at [] e p h = absurd (omega (arith, ap length e))
        at (y ∷ ys) e p h = sym (has_at xs i y p (h y))
    found_sorted xs (Err i) up p h =
        let parts = h (searchable_from_sorted cmp_total f xs v up) in
        sym (has_none xs (λ k d q e. ⊎_elim
        (λ below. less_unequal _ (parts.0 k d (omega arith) below) e)
        (λ from. greater_unequal _ (parts.1 k d from q) e)
        (cases_lt k i)))

    -- what a binary search answers
    pub found : (xs : List X) (r : Result ℕ ℕ) → Rising (map f xs) → IsSearchInRange r (length xs) → IsBinarySearchResult (λ x. cmp (f x) v) xs r → is_ok r ≡ has v (map f xs)
    found xs r rise p h = found_sorted xs r (sorted_from xs rise) p h

    first_found : (xs : List X) (i : ℕ) (d : X) → Rising (map f xs) → i < length xs → cmp (f (get_or xs i d)) v ≡ Equal → find (λ x. same v (f x)) xs ≡ slice_get xs i
    first_found [] i d r p h = absurd (omega arith)
    first_found (x ∷ xs) zero d r p h = ap (λ b. cond b (Some x) (find (λ y. same v (f y)) xs)) (ap (same v) (exact (f x) v h) ∙ same_itself v)
    first_found (x ∷ xs) (suc i) d r p h = ap (λ b. cond b (Some x) (find (λ y. same v (f y)) xs)) (at (same v (f x)) refl) ∙ first_found xs i d r.1 (omega arith) h
      where
        at : (b : Bool) → same v (f x) ≡ b → same v (f x) ≡ false
        at true e = absurd (true≢false (sym (has_at xs i d (omega arith) h) ∙ ap (λ w. has w (map f xs)) (equal v (f x) e) ∙ head_absent (f x) (map f xs) r))
        at false e = e

    -- the entry at a place of v is the first that is v
    pub first_at_place : (xs : List X) (i : ℕ) → Rising (map f xs) → i < length xs → HoldsAt (λ x. cmp (f x) v ≡ Equal) xs i → find (λ x. same v (f x)) xs ≡ slice_get xs i
    first_at_place xs i r p h = at xs refl
      where
        at : (ys : List X) → ys ≡ xs → find (λ x. same v (f x)) xs ≡ slice_get xs i
        at [] e = absurd (omega (arith, ap length e, p))
        at (y ∷ ys) e = first_found xs i y r p (h y)

    pub none_found : (xs : List X) → has v (map f xs) ≡ false → find (λ x. same v (f x)) xs ≡ None
    unfolding any
    none_found [] h = refl
    none_found (x ∷ xs) h =
        let p = both_false (same v (f x)) (has v (map f xs)) h in
        ap (λ b. cond b (Some x) (find (λ y. same v (f y)) xs)) p.0 ∙ none_found xs p.1
