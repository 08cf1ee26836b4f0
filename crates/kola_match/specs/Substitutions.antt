-- Substitutions of types for type variables and of terms for the variables of a rule.
use Rattle.std.specs.Prelude.{ℕ, true, List, [], ◌∷◌, Some, ◌≡◌}
use Rattle.kola_values.specs.Types.{TypeTree, TVar, TSet, TPair, TStruct, FieldTypes, TEnd, TField}
use Rattle.kola_values.specs.Databases.{Classes}
use Rattle.kola_term.specs.Terms.{ConstTree, CMeta, FunTree, FComp, FPair, FTimes, FK, FC, FIf, FIterate, FIter, FJoin, FNest, FUnnest, FMeta, PredTree, PAt, PAnd, POr, PNot, PInv, PCP, PEx, PFa, PMeta, TermTree, TermF, TermP, TermC}
use Rattle.kola_term.specs.Typing.{MetaTree, MFun, MPred, MConst, Context, out, is_typed, const_type}

-- a type for each type variable, and a term for each variable of each kind
pub record Substitution : Type 0 where
  pub types : List ℕ → TypeTree
  pub funs : List ℕ → FunTree
  pub preds : List ℕ → PredTree
  pub consts : List ℕ → ConstTree

abbrev mutual
  pub sub_type : (List ℕ → TypeTree) → TypeTree → TypeTree
  sub_type s (TVar n) = s n
  sub_type s (TSet t) = TSet (sub_type s t)
  sub_type s (TPair t u) = TPair (sub_type s t) (sub_type s u)
  sub_type s (TStruct ts) = TStruct (sub_types s ts)
  sub_type s t = t

  pub sub_types : (List ℕ → TypeTree) → FieldTypes → FieldTypes
  sub_types s TEnd = TEnd
  sub_types s (TField l t ts) = TField l (sub_type s t) (sub_types s ts)

abbrev pub inst_const : Substitution → ConstTree → ConstTree
inst_const s (CMeta n) = s.consts n
inst_const s c = c

abbrev mutual
  -- the term under the substitution
  pub inst_fun : Substitution → FunTree → FunTree
  inst_fun s (FComp f g) = FComp (inst_fun s f) (inst_fun s g)
  inst_fun s (FPair f g) = FPair (inst_fun s f) (inst_fun s g)
  inst_fun s (FTimes f g) = FTimes (inst_fun s f) (inst_fun s g)
  inst_fun s (FK c) = FK (inst_const s c)
  inst_fun s (FC f c) = FC (inst_fun s f) (inst_const s c)
  inst_fun s (FIf p f g) = FIf (inst_pred s p) (inst_fun s f) (inst_fun s g)
  inst_fun s (FIterate p f) = FIterate (inst_pred s p) (inst_fun s f)
  inst_fun s (FIter p f) = FIter (inst_pred s p) (inst_fun s f)
  inst_fun s (FJoin p f) = FJoin (inst_pred s p) (inst_fun s f)
  inst_fun s (FNest f g) = FNest (inst_fun s f) (inst_fun s g)
  inst_fun s (FUnnest f g) = FUnnest (inst_fun s f) (inst_fun s g)
  inst_fun s (FMeta n) = s.funs n
  inst_fun s f = f

  pub inst_pred : Substitution → PredTree → PredTree
  inst_pred s (PAt p f) = PAt (inst_pred s p) (inst_fun s f)
  inst_pred s (PAnd p q) = PAnd (inst_pred s p) (inst_pred s q)
  inst_pred s (POr p q) = POr (inst_pred s p) (inst_pred s q)
  inst_pred s (PNot p) = PNot (inst_pred s p)
  inst_pred s (PInv p) = PInv (inst_pred s p)
  inst_pred s (PCP p c) = PCP (inst_pred s p) (inst_const s c)
  inst_pred s (PEx p) = PEx (inst_pred s p)
  inst_pred s (PFa p) = PFa (inst_pred s p)
  inst_pred s (PMeta n) = s.preds n
  inst_pred s p = p

abbrev pub inst : Substitution → TermTree → TermTree
inst s (TermF f) = TermF (inst_fun s f)
inst s (TermP p) = TermP (inst_pred s p)
inst s (TermC c) = TermC (inst_const s c)

-- the term of the variable has its declared type in the context
abbrev pub HasMetaType : Classes → Context → Substitution → List ℕ → MetaTree → Type 0
HasMetaType S x s n (MFun t u) = out S x (s.funs n) (sub_type s.types t) ≡ Some (sub_type s.types u)
HasMetaType S x s n (MPred t) = is_typed S x (s.preds n) (sub_type s.types t) ≡ true
HasMetaType S x s n (MConst t) = const_type S x (s.consts n) ≡ Some (sub_type s.types t)

-- the term of each declared variable has its type in the context x
abbrev pub IsTyped : Classes → Context → Substitution → Context → Type 0
IsTyped S x s [] = Unit {0}
IsTyped S x s (v ∷ vs) = HasMetaType S x s v.0 v.1 × IsTyped S x s vs
