-- The parts of a term are smaller than it, and the path of a part below a place.
use Rattle.std.proofs.Common.{◌≡◌, ℕ, zero, suc, ◌+◌, ◌<◌, ◌≤◌, refl, List, [], ◌∷◌, ◌++◌, Option, Some, None, option_and_then, arith}
use Rattle.kola_term.specs.Terms.{FComp, FPair, FTimes, FK, FC, FIf, FIterate, FIter, FJoin, FNest, FUnnest, PAt, PAnd, POr, PNot, PInv, PCP, PEx, PFa, TermTree, TermF, TermP, TermC}
use Rattle.kola_term.specs.Places.{children, nth, sub_at}
use Rattle.kola_term.specs.Counts.{nodes}
use Rattle.coko_run.specs.Weights.{nodes_of}

abbrev pub nodes_all : List TermTree → ℕ
nodes_all [] = 0
nodes_all (t ∷ ts) = nodes t + nodes_all ts

nth_small : (n : ℕ) (ts : List TermTree) → nodes_of (nth n ts) ≤ nodes_all ts
nth_small n [] = omega arith
nth_small zero (t ∷ ts) = omega arith
nth_small (suc zero) (t ∷ ts) = omega arith
nth_small (suc (suc n)) (t ∷ ts) = omega (arith, nth_small (suc n) ts)

pub nodes_children : (t : TermTree) → nodes_all (children t) < nodes t
nodes_children (TermF (FComp f g)) = omega arith
nodes_children (TermF (FPair f g)) = omega arith
nodes_children (TermF (FTimes f g)) = omega arith
nodes_children (TermF (FK c)) = omega arith
nodes_children (TermF (FC f c)) = omega arith
nodes_children (TermF (FIf p f g)) = omega arith
nodes_children (TermF (FIterate p f)) = omega arith
nodes_children (TermF (FIter p f)) = omega arith
nodes_children (TermF (FJoin p f)) = omega arith
nodes_children (TermF (FNest f g)) = omega arith
nodes_children (TermF (FUnnest f g)) = omega arith
nodes_children (TermP (PAt p f)) = omega arith
nodes_children (TermP (PAnd p f)) = omega arith
nodes_children (TermP (POr p f)) = omega arith
nodes_children (TermP (PNot p)) = omega arith
nodes_children (TermP (PInv p)) = omega arith
nodes_children (TermP (PCP p c)) = omega arith
nodes_children (TermP (PEx p)) = omega arith
nodes_children (TermP (PFa p)) = omega arith
nodes_children (TermC c) = omega arith
nodes_children _ = omega arith

pub one_more : (w : TermTree) (q : List ℕ) (n : ℕ) → sub_at w (q ++ (n ∷ [])) ≡ option_and_then (λ c. nth n (children c)) (sub_at w q)
one_more w [] n = some_itself (nth n (children w))
  where
    some_itself : (o : Option TermTree) → option_and_then (λ c. Some c) o ≡ o
    some_itself (Some c) = refl
    some_itself None = refl
one_more w (k ∷ q) n = at (λ c. one_more c q n) (nth k (children w))
  where
    at : ((c : TermTree) → sub_at c (q ++ (n ∷ [])) ≡ option_and_then (λ c. nth n (children c)) (sub_at c q)) → (o : Option TermTree) → option_and_then (λ c. sub_at c (q ++ (n ∷ []))) o ≡ option_and_then (λ c. nth n (children c)) (option_and_then (λ c. sub_at c q) o)
    at h (Some c) = h c
    at h None = refl

pub below : (o : Option TermTree) (n : ℕ) (t : TermTree) → o ≡ Some t → nodes_of (option_and_then (λ c. nth n (children c)) o) < nodes_of o
below (Some c) n t e = omega (arith, nth_small n (children c), nodes_children c)
below None n t e = absurd (cc)
