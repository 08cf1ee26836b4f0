-- A number that falls from a term to its parts.
use Rattle.std.specs.Prelude.{ℕ, ◌+◌}
use Rattle.kola_term.specs.Terms.{FunTree, FComp, FPair, FTimes, FC, FIf, FIterate, FIter, FJoin, FNest, FUnnest, PredTree, PAt, PAnd, POr, PNot, PInv, PCP, PEx, PFa}

abbrev mutual
  pub fun_weight : FunTree → ℕ
  fun_weight (FComp f g) = 1 + fun_weight f + fun_weight g
  fun_weight (FPair f g) = 1 + fun_weight f + fun_weight g
  fun_weight (FTimes f g) = 1 + fun_weight f + fun_weight g
  fun_weight (FC f c) = 1 + fun_weight f
  fun_weight (FIf p f g) = 1 + pred_weight p + fun_weight f + fun_weight g
  fun_weight (FIterate p f) = 1 + pred_weight p + fun_weight f
  fun_weight (FIter p f) = 1 + pred_weight p + fun_weight f
  fun_weight (FJoin p f) = 1 + pred_weight p + fun_weight f
  fun_weight (FNest f g) = 1 + fun_weight f + fun_weight g
  fun_weight (FUnnest f g) = 1 + fun_weight f + fun_weight g
  fun_weight _ = 1

  pub pred_weight : PredTree → ℕ
  pred_weight (PAt p f) = 1 + pred_weight p + fun_weight f
  pred_weight (PAnd p q) = 1 + pred_weight p + pred_weight q
  pred_weight (POr p q) = 1 + pred_weight p + pred_weight q
  pred_weight (PNot p) = 1 + pred_weight p
  pred_weight (PInv p) = 1 + pred_weight p
  pred_weight (PCP p c) = 1 + pred_weight p
  pred_weight (PEx p) = 1 + pred_weight p
  pred_weight (PFa p) = 1 + pred_weight p
  pred_weight _ = 1
