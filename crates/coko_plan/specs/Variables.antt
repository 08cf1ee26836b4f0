-- The variables of a term, and whether a rule may fire: where it puts in no variable that its pattern side lacks.
use Rattle.std.specs.Prelude.{ℕ, Bool, false, List, [], ◌∷◌, ◌++◌}
use Rattle.std.specs.List.{list_any, list_all}
use Rattle.std.specs.Str.{bytes_eq}
use Rattle.kola_term.specs.Terms.{ConstTree, CMeta, FunTree, FComp, FPair, FTimes, FK, FC, FIf, FIterate, FIter, FJoin, FNest, FUnnest, FMeta, PredTree, PAt, PAnd, POr, PNot, PInv, PCP, PEx, PFa, PMeta, TermTree, TermF, TermP, TermC}
use Rattle.kola_term.specs.Typing.{MetaTree}
use Rattle.kola_rule.specs.Rules.{RuleTree}
use Rattle.kola_match.specs.Occurring.{Occurs}
use Rattle.kola_match.specs.Instances.{pattern_side, other_side}

-- ---- the variables of a term, from left to right, each as the term that it is alone

abbrev pub const_variables : ConstTree → List TermTree
const_variables (CMeta n) = TermC (CMeta n) ∷ []
const_variables _ = []

abbrev mutual
  pub fun_variables : FunTree → List TermTree
  fun_variables (FComp f g) = fun_variables f ++ fun_variables g
  fun_variables (FPair f g) = fun_variables f ++ fun_variables g
  fun_variables (FTimes f g) = fun_variables f ++ fun_variables g
  fun_variables (FK c) = const_variables c
  fun_variables (FC f c) = fun_variables f ++ const_variables c
  fun_variables (FIf p f g) = pred_variables p ++ (fun_variables f ++ fun_variables g)
  fun_variables (FIterate p f) = pred_variables p ++ fun_variables f
  fun_variables (FIter p f) = pred_variables p ++ fun_variables f
  fun_variables (FJoin p f) = pred_variables p ++ fun_variables f
  fun_variables (FNest f g) = fun_variables f ++ fun_variables g
  fun_variables (FUnnest f g) = fun_variables f ++ fun_variables g
  fun_variables (FMeta n) = TermF (FMeta n) ∷ []
  fun_variables _ = []

  pub pred_variables : PredTree → List TermTree
  pred_variables (PAt p f) = pred_variables p ++ fun_variables f
  pred_variables (PAnd p q) = pred_variables p ++ pred_variables q
  pred_variables (POr p q) = pred_variables p ++ pred_variables q
  pred_variables (PNot p) = pred_variables p
  pred_variables (PInv p) = pred_variables p
  pred_variables (PCP p c) = pred_variables p ++ const_variables c
  pred_variables (PEx p) = pred_variables p
  pred_variables (PFa p) = pred_variables p
  pred_variables (PMeta n) = TermP (PMeta n) ∷ []
  pred_variables _ = []

abbrev pub variables : TermTree → List TermTree
variables (TermF f) = fun_variables f
variables (TermP p) = pred_variables p
variables (TermC c) = const_variables c

-- two variables are of one kind and one name
abbrev pub same_variable : TermTree → TermTree → Bool
same_variable (TermF (FMeta m)) (TermF (FMeta n)) = bytes_eq m n
same_variable (TermP (PMeta m)) (TermP (PMeta n)) = bytes_eq m n
same_variable (TermC (CMeta m)) (TermC (CMeta n)) = bytes_eq m n
same_variable _ _ = false

abbrev pub is_among : List TermTree → TermTree → Bool
is_among vs v = list_any (λ w. same_variable w v) vs

-- each variable of the side that is put in stands in the side that is matched
abbrev pub can_fire : RuleTree → Bool → Bool
can_fire r rev = list_all (is_among (variables (pattern_side r rev))) (variables (other_side r rev))

-- the same, by the places of variables
abbrev pub Covers : RuleTree → Bool → Type 0
Covers r rev = (v : List ℕ × MetaTree) → Occurs (other_side r rev) v → Occurs (pattern_side r rev) v
