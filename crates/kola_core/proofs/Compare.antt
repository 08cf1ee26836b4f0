-- Two lists compared from a place on, in the lexicographic order.
use Rattle.std.proofs.Common.{◌≡◌, ℕ, zero, suc, ◌+◌, ◌<◌, min, List, [], ◌∷◌, length, get_or, drop, map, refl, sym, ap, ◌∙◌, arith, add-one}
use Rattle.std.specs.declared.cmp.Ordering.{Ordering}
use Rattle.std.specs.declared.cmp.Ordering.TheVariants.{Less, Equal, Greater}
use Rattle.std.specs.Ordering.{ordering_then, nat_cmp}
use Rattle.std.specs.Cmp.Lexicographic.{slice_cmp}
use Rattle.std.proofs.lemmas.Bool.Decides.{nat_tests}
use Rattle.kola_core.proofs.Lists.{seen, longer, length_seen}

pub then_assoc : (a b c : Ordering) → ordering_then (ordering_then a b) c ≡ ordering_then a (ordering_then b c)
then_assoc Less b c = refl
then_assoc Equal b c = refl
then_assoc Greater b c = refl

pub then_equal : (a : Ordering) → ordering_then a Equal ≡ a
then_equal Less = refl
then_equal Equal = refl
then_equal Greater = refl

pub both_equal : (a b : Ordering) → ordering_then a b ≡ Equal → (a ≡ Equal) × (b ≡ Equal)
both_equal Less b e = cc
both_equal Equal b e = (refl, e)
both_equal Greater b e = cc

decided : (a o b : Ordering) → a ≡ o → (o ≡ Equal → ⊥) → ordering_then a b ≡ o
decided Less o b h n = h
decided Equal o b h n = absurd (n (sym h))
decided Greater o b h n = h

below_all : (n : ℕ) → nat_cmp 0 (suc n) ≡ Less
below_all n = grind (arith, nat_tests)

above_all : (n : ℕ) → nat_cmp (suc n) 0 ≡ Greater
above_all n = grind (arith, nat_tests)

nat_cmp-suc : (m n : ℕ) → nat_cmp (suc m) (suc n) ≡ nat_cmp m n
nat_cmp-suc m n = grind (arith, nat_tests)

module _ {A : Type 0} (R : A → A → Ordering) where
  -- the first i are equal in the order
  pub record IsEqualBelow (xs ys : List A) (i : ℕ) : Type 0 where
    pub rest : slice_cmp R xs ys ≡ slice_cmp R (drop i xs) (drop i ys)

  more_equal : (xs ys : List A) (i : ℕ) (d e : A) → i < length xs → i < length ys → R (get_or xs i d) (get_or ys i e) ≡ Equal → slice_cmp R (drop i xs) (drop i ys) ≡ slice_cmp R (drop (i + 1) xs) (drop (i + 1) ys)
  more_equal [] ys i d e p q h = absurd (omega arith)
  more_equal (x ∷ xs) [] i d e p q h = absurd (omega arith)
  more_equal (x ∷ xs) (y ∷ ys) zero d e p q h = ap (λ o. ordering_then o (slice_cmp R xs ys)) h
  more_equal (x ∷ xs) (y ∷ ys) (suc i) d e p q h = rw add-one (more_equal xs ys i d e (omega arith) (omega arith) h ∙ simp add-one)

  unequal : (xs ys : List A) (i : ℕ) (d e : A) (o : Ordering) → i < length xs → i < length ys → R (get_or xs i d) (get_or ys i e) ≡ o → (o ≡ Equal → ⊥) → slice_cmp R (drop i xs) (drop i ys) ≡ o
  unequal [] ys i d e o p q h n = absurd (omega arith)
  unequal (x ∷ xs) [] i d e o p q h n = absurd (omega arith)
  unequal (x ∷ xs) (y ∷ ys) zero d e o p q h n = decided (R x y) o (slice_cmp R xs ys) h n
  unequal (x ∷ xs) (y ∷ ys) (suc i) d e o p q h n = unequal xs ys i d e o (omega arith) (omega arith) h n

  at_end : (xs ys : List A) (i : ℕ) → i ≡ min (length xs) (length ys) → slice_cmp R (drop i xs) (drop i ys) ≡ nat_cmp (length xs) (length ys)
  at_end [] [] zero h = refl
  at_end [] [] (suc i) h = refl
  at_end [] (y ∷ ys) zero h = sym (below_all (length ys))
  at_end [] (y ∷ ys) (suc i) h = absurd (omega arith)
  at_end (x ∷ xs) [] zero h = sym (above_all (length xs))
  at_end (x ∷ xs) [] (suc i) h = absurd (omega arith)
  at_end (x ∷ xs) (y ∷ ys) zero h = absurd (omega arith)
  at_end (x ∷ xs) (y ∷ ys) (suc i) h = at_end xs ys i (omega arith) ∙ sym (nat_cmp-suc (length xs) (length ys))

-- a loop over two lists that are seen through v
module _ {X A : Type 0} (v : X → A) (R : A → A → Ordering) where
  pub step_equal : (xs ys : List X) (us vs : List A) (i : ℕ) (x y : X) → map v xs ≡ us → map v ys ≡ vs → i < length xs → i < length ys → x ≡ get_or xs i x → y ≡ get_or ys i y → IsEqualBelow R us vs i → Equal ≡ R (v x) (v y) → IsEqualBelow R us vs (i + 1)
  step_equal xs ys us vs i x y e f p q g h b o = record {
    rest = b.rest ∙ more_equal R us vs i (v x) (v y) (longer v xs us i e p) (longer v ys vs i f q)
        (ap (λ a. R a (get_or vs i (v y))) (seen v xs us i x e p g) ∙ ap (R (v x)) (seen v ys vs i y f q h) ∙ sym o);
  }

  pub step_unequal : (xs ys : List X) (us vs : List A) (i : ℕ) (x y : X) (o : Ordering) → map v xs ≡ us → map v ys ≡ vs → i < length xs → i < length ys → x ≡ get_or xs i x → y ≡ get_or ys i y → IsEqualBelow R us vs i → o ≡ R (v x) (v y) → (o ≡ Equal → ⊥) → o ≡ slice_cmp R us vs
  step_unequal xs ys us vs i x y o e f p q g h b k n =
      sym (b.rest ∙ unequal R us vs i (v x) (v y) o (longer v xs us i e p) (longer v ys vs i f q)
      (ap (λ a. R a (get_or vs i (v y))) (seen v xs us i x e p g) ∙ ap (R (v x)) (seen v ys vs i y f q h) ∙ sym k) n)

  pub step_end : (xs ys : List X) (us vs : List A) (i : ℕ) → map v xs ≡ us → map v ys ≡ vs → i ≡ min (length xs) (length ys) → IsEqualBelow R us vs i → nat_cmp (length xs) (length ys) ≡ slice_cmp R us vs
  step_end xs ys us vs i e f h b =
      let m = length_seen v xs us e in
      let n = length_seen v ys vs f in
      let k : i ≡ min (length us) (length vs) = omega arith in
      sym (b.rest ∙ at_end R us vs i k ∙ ap (λ a. nat_cmp a (length vs)) m ∙ ap (nat_cmp (length xs)) n)
