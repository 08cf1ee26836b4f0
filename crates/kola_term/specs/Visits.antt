-- How many members a term visits at a value in a database: a whole number without limit, beside the term's value and not by it.
use Rattle.std.specs.Prelude.{ℕ, ◌+◌, Bool, not, cond, List, [], ◌∷◌, sum_by, length}
use Rattle.kola_values.specs.Values.{ValueTree, VPair}
use Rattle.kola_values.specs.Order.{same}
use Rattle.kola_values.specs.Sets.{members}
use Rattle.kola_values.specs.Databases.{Classes, Objects}
use Rattle.kola_term.specs.Terms.{FunTree, FFlat, FComp, FPair, FTimes, FC, FIf, FIterate, FIter, FJoin, FNest, FUnnest, PredTree, PAt, PAnd, POr, PNot, PInv, PCP, PEx, PFa}
use Rattle.kola_term.specs.Meaning.{left, right, constant, den, holds_at}

-- the costs up to the first that stops, that one included
abbrev pub until : (ValueTree → Bool) → (ValueTree → ℕ) → List ValueTree → ℕ
until stop cost [] = 0
until stop cost (v ∷ vs) = cost v + cond (stop v) 0 (until stop cost vs)

abbrev mutual
  pub visits : Classes → Objects → FunTree → ValueTree → ℕ
  visits S d FFlat v = length (members v)
  visits S d (FComp f g) v = visits S d g v + visits S d f (den S d g v)
  visits S d (FPair f g) v = visits S d f v + visits S d g v
  visits S d (FTimes f g) v = visits S d f (left v) + visits S d g (right v)
  visits S d (FC f c) v = visits S d f (VPair (constant S d c) v)
  visits S d (FIf p f g) v = pred_visits S d p v + cond (holds_at S d p v) (visits S d f v) (visits S d g v)
  visits S d (FIterate p f) v = sum_by (λ x. 1 + pred_visits S d p x + cond (holds_at S d p x) (visits S d f x) 0) (members v)
  visits S d (FIter p f) v = sum_by (λ y. 1 + pred_visits S d p (VPair (left v) y) + cond (holds_at S d p (VPair (left v) y)) (visits S d f (VPair (left v) y)) 0) (members (right v))
  visits S d (FJoin p f) v = sum_by (λ x. sum_by (λ y. 1 + pred_visits S d p (VPair x y) + cond (holds_at S d p (VPair x y)) (visits S d f (VPair x y)) 0) (members (right v))) (members (left v))
  visits S d (FNest f g) v = sum_by (λ y. sum_by (λ x. 1 + visits S d f x + cond (same (den S d f x) y) (visits S d g x) 0) (members (left v))) (members (right v))
  visits S d (FUnnest f g) v = sum_by (λ x. 1 + visits S d f x + visits S d g x + length (members (den S d g x))) (members v)
  visits S d _ v = 0

  pub pred_visits : Classes → Objects → PredTree → ValueTree → ℕ
  pred_visits S d (PAt p f) v = visits S d f v + pred_visits S d p (den S d f v)
  pred_visits S d (PAnd p q) v = pred_visits S d p v + cond (holds_at S d p v) (pred_visits S d q v) 0
  pred_visits S d (POr p q) v = pred_visits S d p v + cond (holds_at S d p v) 0 (pred_visits S d q v)
  pred_visits S d (PNot p) v = pred_visits S d p v
  pred_visits S d (PInv p) v = pred_visits S d p (VPair (right v) (left v))
  pred_visits S d (PCP p c) v = pred_visits S d p (VPair (constant S d c) v)
  pred_visits S d (PEx p) v = until (λ y. holds_at S d p (VPair (left v) y)) (λ y. 1 + pred_visits S d p (VPair (left v) y)) (members (right v))
  pred_visits S d (PFa p) v = until (λ y. not (holds_at S d p (VPair (left v) y))) (λ y. 1 + pred_visits S d p (VPair (left v) y)) (members (right v))
  pred_visits S d _ v = 0
