-- Substitutions that agree on the variables of a term give one instance of it.
use Rattle.std.proofs.Common.{◌≡◌, ℕ, refl, sym, ap, ap₂, ◌∙◌, List, [], ◌∷◌, Option, Some, None, inl, inr}
use Rattle.kola_values.specs.Types.{TypeTree, TUnit}
use Rattle.kola_values.specs.Databases.{Classes, look_up}
use Rattle.kola_term.specs.Terms.{ConstTree, CMeta, FunTree, FComp, FPair, FTimes, FK, FC, FIf, FIterate, FIter, FJoin, FNest, FUnnest, FMeta, PredTree, PAt, PAnd, POr, PNot, PInv, PCP, PEx, PFa, PMeta, TermTree, TermF, TermP, TermC}
use Rattle.kola_term.specs.Typing.{Context, MetaTree, MFun, MPred, MConst, const_of}
use Rattle.kola_term.specs.Places.{sub_at, Typed}
use Rattle.kola_term.proofs.Inversions.{some_same}
use Rattle.kola_term.proofs.Introductions.{fun_some, pred_some}
use Rattle.kola_term.proofs.Paths.{typed_at}
use Rattle.kola_match.specs.Substitutions.{Substitution, inst, inst_fun, inst_pred, inst_const}
use Rattle.kola_match.specs.Occurring.{variable, Occurs}
use Rattle.kola_match.specs.Pairs.{Sides, AllGive}
use Rattle.kola_match.specs.Spotting.{OccursOn, AllOccurOn}
use Rattle.kola_match.proofs.Commute.{sub_inst}

module _ (s o : Substitution) where
  abbrev Agree : TermTree → Type 0
  Agree t = (v : List ℕ × MetaTree) → Occurs t v → inst s (variable v.0 v.1) ≡ inst o (variable v.0 v.1)

  same_const : (c : ConstTree) → Agree (TermC c) → inst_const s c ≡ inst_const o c
  same_const (CMeta n) h = let p : TermC (s.consts n) ≡ TermC (o.consts n) = h (n, MConst TUnit) ([], refl) in cc
  same_const _ h = refl

  mutual
    same_fun : (f : FunTree) → Agree (TermF f) → inst_fun s f ≡ inst_fun o f
    same_fun (FComp f g) h = ap₂ FComp (same_fun f (λ v e. h v (1 ∷ e.0, e.1))) (same_fun g (λ v e. h v (2 ∷ e.0, e.1)))
    same_fun (FPair f g) h = ap₂ FPair (same_fun f (λ v e. h v (1 ∷ e.0, e.1))) (same_fun g (λ v e. h v (2 ∷ e.0, e.1)))
    same_fun (FTimes f g) h = ap₂ FTimes (same_fun f (λ v e. h v (1 ∷ e.0, e.1))) (same_fun g (λ v e. h v (2 ∷ e.0, e.1)))
    same_fun (FK c) h = ap FK (same_const c (λ v e. h v (1 ∷ e.0, e.1)))
    same_fun (FC f c) h = ap₂ FC (same_fun f (λ v e. h v (1 ∷ e.0, e.1))) (same_const c (λ v e. h v (2 ∷ e.0, e.1)))
    same_fun (FIf p f g) h =
        let a = same_pred p (λ v e. h v (1 ∷ e.0, e.1)) in
        let b = same_fun f (λ v e. h v (2 ∷ e.0, e.1)) in
        let c = same_fun g (λ v e. h v (3 ∷ e.0, e.1)) in
        λ i. FIf (a i) (b i) (c i)
    same_fun (FIterate p f) h = ap₂ FIterate (same_pred p (λ v e. h v (1 ∷ e.0, e.1))) (same_fun f (λ v e. h v (2 ∷ e.0, e.1)))
    same_fun (FIter p f) h = ap₂ FIter (same_pred p (λ v e. h v (1 ∷ e.0, e.1))) (same_fun f (λ v e. h v (2 ∷ e.0, e.1)))
    same_fun (FJoin p f) h = ap₂ FJoin (same_pred p (λ v e. h v (1 ∷ e.0, e.1))) (same_fun f (λ v e. h v (2 ∷ e.0, e.1)))
    same_fun (FNest f g) h = ap₂ FNest (same_fun f (λ v e. h v (1 ∷ e.0, e.1))) (same_fun g (λ v e. h v (2 ∷ e.0, e.1)))
    same_fun (FUnnest f g) h = ap₂ FUnnest (same_fun f (λ v e. h v (1 ∷ e.0, e.1))) (same_fun g (λ v e. h v (2 ∷ e.0, e.1)))
    same_fun (FMeta n) h = let p : TermF (s.funs n) ≡ TermF (o.funs n) = h (n, MFun TUnit TUnit) ([], refl) in cc
    same_fun _ h = refl

    same_pred : (p : PredTree) → Agree (TermP p) → inst_pred s p ≡ inst_pred o p
    same_pred (PAt p f) h = ap₂ PAt (same_pred p (λ v e. h v (1 ∷ e.0, e.1))) (same_fun f (λ v e. h v (2 ∷ e.0, e.1)))
    same_pred (PAnd p q) h = ap₂ PAnd (same_pred p (λ v e. h v (1 ∷ e.0, e.1))) (same_pred q (λ v e. h v (2 ∷ e.0, e.1)))
    same_pred (POr p q) h = ap₂ POr (same_pred p (λ v e. h v (1 ∷ e.0, e.1))) (same_pred q (λ v e. h v (2 ∷ e.0, e.1)))
    same_pred (PNot p) h = ap PNot (same_pred p (λ v e. h v (1 ∷ e.0, e.1)))
    same_pred (PInv p) h = ap PInv (same_pred p (λ v e. h v (1 ∷ e.0, e.1)))
    same_pred (PCP p c) h = ap₂ PCP (same_pred p (λ v e. h v (1 ∷ e.0, e.1))) (same_const c (λ v e. h v (2 ∷ e.0, e.1)))
    same_pred (PEx p) h = ap PEx (same_pred p (λ v e. h v (1 ∷ e.0, e.1)))
    same_pred (PFa p) h = ap PFa (same_pred p (λ v e. h v (1 ∷ e.0, e.1)))
    same_pred (PMeta n) h = let p : TermP (s.preds n) ≡ TermP (o.preds n) = h (n, MPred TUnit) ([], refl) in cc
    same_pred _ h = refl

  pub same_inst : (t : TermTree) → Agree t → inst s t ≡ inst o t
  same_inst (TermF f) h = ap TermF (same_fun f h)
  same_inst (TermP p) h = ap TermP (same_pred p h)
  same_inst (TermC c) h = ap TermC (same_const c h)

  -- two that give the same of sides agree on each variable that stands there
  pub agree_on : (sides : Sides) (v : List ℕ × MetaTree) → AllGive s sides → AllGive o sides → OccursOn sides v → inst s (variable v.0 v.1) ≡ inst o (variable v.0 v.1)
  agree_on [] v g h e = absurd e
  agree_on (a ∷ sides) v g h (inl e) =
      let w = variable v.0 v.1 in
      some_same (inst s w) (inst o w) (sym (sub_inst s e.0 a.0 w e.1) ∙ (ap (λ z. sub_at z e.0) (g.0 ∙ sym h.0) ∙ sub_inst o e.0 a.0 w e.1))
  agree_on (a ∷ sides) v g h (inr e) = agree_on sides v g.1 h.1 e

  abbrev pub AgreeOnAll : Context → Type 0
  AgreeOnAll [] = Unit {0}
  AgreeOnAll (v ∷ vs) = (inst s (variable v.0 v.1) ≡ inst o (variable v.0 v.1)) × AgreeOnAll vs

  pub agree_on_all : (sides : Sides) (vs : Context) → AllGive s sides → AllGive o sides → AllOccurOn sides vs → AgreeOnAll vs
  agree_on_all sides [] g h e = tt
  agree_on_all sides (v ∷ vs) g h e = (agree_on sides v g h e.0, agree_on_all sides vs g h e.1)

-- ---- a variable that stands in a typed term is declared, of its kind

abbrev pub IsDeclared : Context → List ℕ → MetaTree → Type 0
IsDeclared vars n m = (d : MetaTree) × (look_up n vars ≡ Some d) × (variable n m ≡ variable n d)

const_some : (o : Option MetaTree) (u : TypeTree) → const_of o ≡ Some u → o ≡ Some (MConst u)
const_some (Some (MConst t)) u e = ap (λ z. Some (MConst z)) (some_same t u e)
const_some (Some (MFun a b)) u e = absurd (cc)
const_some (Some (MPred a)) u e = absurd (cc)
const_some None u e = absurd (cc)

pub declared_where : (S : Classes) (vars : Context) (q : List ℕ) (t : TermTree) (T : TypeTree) (n : List ℕ) (m : MetaTree) → Typed S vars t T → sub_at t q ≡ Some (variable n m) → IsDeclared vars n m
declared_where S vars q t T n (MFun a c) h e =
    let p = typed_at S vars q t (TermF (FMeta n)) T h e in
    (MFun p.0 p.2.0, fun_some (look_up n vars) p.0 p.2.0 p.2.1, refl)
declared_where S vars q t T n (MPred a) h e =
    let p = typed_at S vars q t (TermP (PMeta n)) T h e in
    (MPred p.0, pred_some (look_up n vars) p.0 p.2, refl)
declared_where S vars q t T n (MConst a) h e =
    let p = typed_at S vars q t (TermC (CMeta n)) T h e in
    (MConst p.2.0, const_some (look_up n vars) p.2.0 p.2.1, refl)
