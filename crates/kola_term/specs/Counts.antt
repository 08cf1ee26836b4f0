-- The number of nodes of a term and its depth. All functions, predicates and constants are nodes; a leaf has depth 1.
use Rattle.std.specs.Prelude.{ℕ, ◌+◌, max}
use Rattle.kola_term.specs.Terms.{FunTree, FComp, FPair, FTimes, FK, FC, FIf, FIterate, FIter, FJoin, FNest, FUnnest, PredTree, PAt, PAnd, POr, PNot, PInv, PCP, PEx, PFa, TermTree, TermF, TermP, TermC}

abbrev mutual
  pub fun_nodes : FunTree → ℕ
  fun_nodes (FComp f g) = 1 + fun_nodes f + fun_nodes g
  fun_nodes (FPair f g) = 1 + fun_nodes f + fun_nodes g
  fun_nodes (FTimes f g) = 1 + fun_nodes f + fun_nodes g
  fun_nodes (FK c) = 2
  fun_nodes (FC f c) = 2 + fun_nodes f
  fun_nodes (FIf p f g) = 1 + pred_nodes p + fun_nodes f + fun_nodes g
  fun_nodes (FIterate p f) = 1 + pred_nodes p + fun_nodes f
  fun_nodes (FIter p f) = 1 + pred_nodes p + fun_nodes f
  fun_nodes (FJoin p f) = 1 + pred_nodes p + fun_nodes f
  fun_nodes (FNest f g) = 1 + fun_nodes f + fun_nodes g
  fun_nodes (FUnnest f g) = 1 + fun_nodes f + fun_nodes g
  fun_nodes _ = 1

  pub pred_nodes : PredTree → ℕ
  pred_nodes (PAt p f) = 1 + pred_nodes p + fun_nodes f
  pred_nodes (PAnd p q) = 1 + pred_nodes p + pred_nodes q
  pred_nodes (POr p q) = 1 + pred_nodes p + pred_nodes q
  pred_nodes (PNot p) = 1 + pred_nodes p
  pred_nodes (PInv p) = 1 + pred_nodes p
  pred_nodes (PCP p c) = 2 + pred_nodes p
  pred_nodes (PEx p) = 1 + pred_nodes p
  pred_nodes (PFa p) = 1 + pred_nodes p
  pred_nodes _ = 1

abbrev pub nodes : TermTree → ℕ
nodes (TermF f) = fun_nodes f
nodes (TermP p) = pred_nodes p
nodes (TermC c) = 1

abbrev mutual
  pub fun_depth : FunTree → ℕ
  fun_depth (FComp f g) = 1 + max (fun_depth f) (fun_depth g)
  fun_depth (FPair f g) = 1 + max (fun_depth f) (fun_depth g)
  fun_depth (FTimes f g) = 1 + max (fun_depth f) (fun_depth g)
  fun_depth (FK c) = 2
  fun_depth (FC f c) = 1 + max (fun_depth f) 1
  fun_depth (FIf p f g) = 1 + max (pred_depth p) (max (fun_depth f) (fun_depth g))
  fun_depth (FIterate p f) = 1 + max (pred_depth p) (fun_depth f)
  fun_depth (FIter p f) = 1 + max (pred_depth p) (fun_depth f)
  fun_depth (FJoin p f) = 1 + max (pred_depth p) (fun_depth f)
  fun_depth (FNest f g) = 1 + max (fun_depth f) (fun_depth g)
  fun_depth (FUnnest f g) = 1 + max (fun_depth f) (fun_depth g)
  fun_depth _ = 1

  pub pred_depth : PredTree → ℕ
  pred_depth (PAt p f) = 1 + max (pred_depth p) (fun_depth f)
  pred_depth (PAnd p q) = 1 + max (pred_depth p) (pred_depth q)
  pred_depth (POr p q) = 1 + max (pred_depth p) (pred_depth q)
  pred_depth (PNot p) = 1 + pred_depth p
  pred_depth (PInv p) = 1 + pred_depth p
  pred_depth (PCP p c) = 1 + max (pred_depth p) 1
  pred_depth (PEx p) = 1 + pred_depth p
  pred_depth (PFa p) = 1 + pred_depth p
  pred_depth _ = 1

abbrev pub depth : TermTree → ℕ
depth (TermF f) = fun_depth f
depth (TermP p) = pred_depth p
depth (TermC c) = 1
