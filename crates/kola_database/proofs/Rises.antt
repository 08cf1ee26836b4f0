-- A sorted list without repeats rises.
use Rattle.std.proofs.Common.{◌≡◌, suc, true≢false, ◌||◌, List, [], ◌∷◌, map, sym, ◌∙◌, ap, refl, arith, add-one}
use Rattle.std.specs.List.Sorted.{IsSortedBy}
use Rattle.std.specs.declared.cmp.Ordering.TheVariants.{Less, Equal, Greater}
use Rattle.std.specs.declared.cmp.Ordering.{Ordering}
use Rattle.std.specs.Ordering.{is_lt, is_eq}
use Rattle.kola_values.specs.Values.{ValueTree}
use Rattle.kola_values.specs.Order.{cmp, same}
use Rattle.kola_values.specs.Sets.{Rising, any, has}
use Rattle.kola_schema.specs.Meets.{NoneTwice}
use Rattle.kola_values.proofs.Anys.{reversed}

module _ {X : Type 0} (f : X → ValueTree) where
  -- a sorted list without repeats rises
  pub sorted_rises : (xs : List X) → IsSortedBy (λ x y. is_lt (cmp (f x) (f y))) xs → NoneTwice (map f xs) → Rising (map f xs)
  unfolding same any
  sorted_rises [] h n = tt
  sorted_rises (x ∷ []) h n = (tt, tt)
  sorted_rises (x ∷ (y ∷ ys)) h n = (at (cmp (f x) (f y)) refl, sorted_rises (y ∷ ys) (λ k d p q. rw add-one (rw add-one at (h (suc k) d (omega arith) (omega arith)))) n.1)
    where
      at : (o : Ordering) → cmp (f x) (f y) ≡ o → cmp (f x) (f y) ≡ Less
      at Less e = e
      at Equal e = absurd (true≢false (sym (ap (λ o. is_eq o || has (f x) (map f ys)) e) ∙ n.0))
      at Greater e = absurd (true≢false (sym (ap is_lt (reversed (f x) (f y) e)) ∙ h 0 x (omega arith) (omega arith)))
