-- A loop over the attributes of two keys, each with its object, and lists of what keys say.
use Rattle.std.proofs.Common.{◌≡◌, ℕ, ◌+◌, ◌<◌, min, List, [], ◌∷◌, length, get_or, map, sym, ap, ap₂, refl, ◌∙◌, arith, Bool, not, ◌&&◌, Equal, Ordering}
use Rattle.std.specs.Ordering.{nat_cmp}
use Rattle.std.specs.Cmp.Lexicographic.{slice_cmp}
use Rattle.std.proofs.lemmas.List.{get_or-map, length-map}
use Rattle.kola_core.proofs.Compare.{IsEqualBelow, step_equal, step_unequal, step_end}
use Rattle.kola_values.specs.Values.{ValueTree}
use Rattle.kola_values.specs.Order.{cmp}
use Rattle.kola_values.specs.Databases.{Object}
use Rattle.kola_database.specs.MeetsTests.{no_two}
use Rattle.kola_database.specs.KeyedObjects.{value_at_name}
use Rattle.kola_database.proofs.MeetingLoops.{any_seen}

abbrev shown : Object × List ℕ → ValueTree
shown q = value_at_name q.0 q.1

abbrev pairs : Object → List (List ℕ) → List (Object × List ℕ)
pairs o key = map (λ (a : List ℕ). (o, a)) key

abbrev values : Object → List (List ℕ) → List ValueTree
values o key = map (λ (a : List ℕ). value_at_name o a) key

pairs_shown : (o : Object) (key : List (List ℕ)) → map shown (pairs o key) ≡ values o key
pairs_shown o [] = refl
pairs_shown o (a ∷ key) = ap (λ l. value_at_name o a ∷ l) (pairs_shown o key)

pair_at : (o : Object) (key : List (List ℕ)) (i : ℕ) (a : List ℕ) → i < length key → a ≡ get_or key i a → (o, a) ≡ get_or (pairs o key) i (o, a)
pair_at o key i a p g = ap (λ (z : List ℕ). (o, z)) g ∙ sym (get_or-map (λ (z : List ℕ). (o, z)) key i a (o, a) p)

pairs_length : (o : Object) (key : List (List ℕ)) → length (pairs o key) ≡ length key
pairs_length o key = length-map key (λ (a : List ℕ). (o, a))

module _ (o p : Object) (key other : List (List ℕ)) (i : ℕ) (b : IsEqualBelow cmp (values o key) (values p other) i) where
  module _ (x y : List ℕ) (f : i < length key) (g : i < length other) (h : x ≡ get_or key i x) (k : y ≡ get_or other i y) where
    pub keys_equal : Equal ≡ cmp (value_at_name o x) (value_at_name p y) → IsEqualBelow cmp (values o key) (values p other) (i + 1)
    keys_equal e =
        let m = pairs_length o key in
        let n = pairs_length p other in
        step_equal shown cmp (pairs o key) (pairs p other) (values o key) (values p other) i (o, x) (p, y) (pairs_shown o key) (pairs_shown p other) (omega arith) (omega arith) (pair_at o key i x f h) (pair_at p other i y g k) b e

    pub keys_unequal : (r : Ordering) → r ≡ cmp (value_at_name o x) (value_at_name p y) → (r ≡ Equal → ⊥) → r ≡ slice_cmp cmp (values o key) (values p other)
    keys_unequal r e u =
        let m = pairs_length o key in
        let n = pairs_length p other in
        step_unequal shown cmp (pairs o key) (pairs p other) (values o key) (values p other) i (o, x) (p, y) r (pairs_shown o key) (pairs_shown p other) (omega arith) (omega arith) (pair_at o key i x f h) (pair_at p other i y g k) b e u

  pub keys_end : i ≡ min (length key) (length other) → nat_cmp (length key) (length other) ≡ slice_cmp cmp (values o key) (values p other)
  keys_end e =
      let m = pairs_length o key in
      let n = pairs_length p other in
      ap₂ nat_cmp (sym m) (sym n)
      ∙ step_end shown cmp (pairs o key) (pairs p other) (values o key) (values p other) i (pairs_shown o key) (pairs_shown p other) (omega arith) b

pub no_two_seen : {X A : Type 0} (v : X → A) (r : A → A → Bool) (xs : List X) → no_two (λ x y. r (v x) (v y)) xs ≡ no_two r (map v xs)
no_two_seen v r [] = refl
no_two_seen v r (x ∷ xs) = λ j. not (any_seen v (r (v x)) xs j) && no_two_seen v r xs j
