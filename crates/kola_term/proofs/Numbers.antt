-- Entries of lists by their numbers: the tests of the code are the definitions of places.
use Rattle.std.proofs.Common.{◌≡◌, ℕ, zero, suc, ◌+◌, ◌≤◌, ◌==◌, if◌then◌else◌, Some, None, List, [], ◌∷◌, refl, ◌∙◌, arith}
use Rattle.std.proofs.lemmas.Bool.Decides.{nat_tests}
use Rattle.kola_term.specs.Places.{nth}
use Rattle.kola_term.specs.Parts.{entry_from}

pub test_apart : {A : Type 0} (n k : ℕ) (a b : A) → (n ≡ k → ⊥) → (if n == k then a else b) ≡ b
test_apart n k a b h = grind (arith, nat_tests)

pub test_same : {A : Type 0} (n k : ℕ) (a b : A) → n ≡ k → (if n == k then a else b) ≡ a
test_same n k a b h = grind (arith, nat_tests)

below_first : {A : Type 0} (k n : ℕ) (xs : List A) → n + 1 ≤ k → entry_from k n xs ≡ None
below_first k n [] h = refl
below_first k n (a ∷ xs) h = test_apart n k (Some a) (entry_from (suc k) n xs) (λ e. absurd (omega arith)) ∙ below_first (suc k) n xs (omega arith)

counted : {A : Type 0} (k n m : ℕ) (xs : List A) → m ≡ n + k → entry_from (suc k) m xs ≡ nth n xs
counted k n m [] e = refl
counted k zero m (a ∷ xs) e = below_first (suc k) m (a ∷ xs) (omega arith)
counted k (suc zero) m (a ∷ xs) e = test_same m (suc k) (Some a) (entry_from (suc (suc k)) m xs) (omega arith)
counted k (suc (suc n)) m (a ∷ xs) e =
    test_apart m (suc k) (Some a) (entry_from (suc (suc k)) m xs) (λ i. absurd (omega arith)) ∙ counted (suc k) (suc n) m xs (omega arith)

pub entry_nth : {A : Type 0} (n : ℕ) (xs : List A) → entry_from 1 n xs ≡ nth n xs
entry_nth n xs = counted 0 n n xs (omega arith)
