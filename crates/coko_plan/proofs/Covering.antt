-- A rule that may fire puts in no variable that stands nowhere in its pattern side.
use Rattle.std.proofs.Common.{◌≡◌, ℕ, Bool, true, false, ◌||◌, List, [], ◌∷◌, ◌++◌, refl, sym, ap, ap₂, ◌∙◌, subst}
use Rattle.std.specs.List.{list_any, list_all}
use Rattle.kola_term.specs.Terms.{ConstTree, CMeta, FunTree, FComp, FPair, FTimes, FK, FC, FIf, FIterate, FIter, FJoin, FNest, FUnnest, FMeta, PredTree, PAt, PAnd, POr, PNot, PInv, PCP, PEx, PFa, PMeta, TermTree, TermF, TermP, TermC}
use Rattle.kola_term.specs.Typing.{MetaTree, MFun, MPred, MConst}
use Rattle.kola_term.proofs.Inversions.{same_name-equal, and_true}
use Rattle.kola_rule.specs.Rules.{RuleTree}
use Rattle.kola_match.specs.Occurring.{variable}
use Rattle.kola_match.specs.Instances.{pattern_side, other_side}
use Rattle.kola_match.proofs.RuleTests.{Variable, is_variable_at, fun_has, pred_has, const_has, has_variable}
use Rattle.kola_match.proofs.Occurring.{is_found, stands}
use Rattle.coko_plan.specs.Variables.{const_variables, fun_variables, pred_variables, variables, same_variable, is_among, can_fire, Covers}

pub or_assoc : (a b c : Bool) → (a || (b || c)) ≡ ((a || b) || c)
or_assoc true b c = refl
or_assoc false b c = refl

pub or_false : (a : Bool) → (a || false) ≡ a
or_false true = refl
or_false false = refl

pub any_append : {A : Type 0} (p : A → Bool) (xs ys : List A) → list_any p (xs ++ ys) ≡ (list_any p xs || list_any p ys)
any_append p [] ys = refl
any_append p (x ∷ xs) ys = ap (λ b. p x || b) (any_append p xs ys) ∙ or_assoc (p x) (list_any p xs) (list_any p ys)

-- ---- what stands in a term is among its variables

abbrev sees : Variable → List TermTree → Bool
sees v ts = is_among ts (variable v.0 v.1)

sees_append : (v : Variable) (xs ys : List TermTree) (a b : Bool) → sees v xs ≡ a → sees v ys ≡ b → sees v (xs ++ ys) ≡ (a || b)
sees_append v xs ys a b e h = any_append (λ w. same_variable w (variable v.0 v.1)) xs ys ∙ ap₂ (λ c d. c || d) e h

fun_leaf : (k n : List ℕ) (m : MetaTree) → same_variable (TermF (FMeta k)) (variable n m) ≡ is_variable_at (TermF (FMeta k)) (n, m)
fun_leaf k n (MFun t u) = refl
fun_leaf k n (MPred t) = refl
fun_leaf k n (MConst t) = refl

pred_leaf : (k n : List ℕ) (m : MetaTree) → same_variable (TermP (PMeta k)) (variable n m) ≡ is_variable_at (TermP (PMeta k)) (n, m)
pred_leaf k n (MFun t u) = refl
pred_leaf k n (MPred t) = refl
pred_leaf k n (MConst t) = refl

const_leaf : (k n : List ℕ) (m : MetaTree) → same_variable (TermC (CMeta k)) (variable n m) ≡ is_variable_at (TermC (CMeta k)) (n, m)
const_leaf k n (MFun t u) = refl
const_leaf k n (MPred t) = refl
const_leaf k n (MConst t) = refl

const_seen : (v : Variable) (c : ConstTree) → sees v (const_variables c) ≡ const_has v c
const_seen v (CMeta k) = or_false (same_variable (TermC (CMeta k)) (variable v.0 v.1)) ∙ const_leaf k v.0 v.1
const_seen v c = refl

mutual
  fun_seen : (v : Variable) (f : FunTree) → sees v (fun_variables f) ≡ fun_has v f
  fun_seen v (FComp f g) = sees_append v (fun_variables f) (fun_variables g) (fun_has v f) (fun_has v g) (fun_seen v f) (fun_seen v g)
  fun_seen v (FPair f g) = sees_append v (fun_variables f) (fun_variables g) (fun_has v f) (fun_has v g) (fun_seen v f) (fun_seen v g)
  fun_seen v (FTimes f g) = sees_append v (fun_variables f) (fun_variables g) (fun_has v f) (fun_has v g) (fun_seen v f) (fun_seen v g)
  fun_seen v (FK c) = const_seen v c
  fun_seen v (FC f c) = sees_append v (fun_variables f) (const_variables c) (fun_has v f) (const_has v c) (fun_seen v f) (const_seen v c)
  fun_seen v (FIf p f g) = sees_append v (pred_variables p) (fun_variables f ++ fun_variables g) (pred_has v p) (fun_has v f || fun_has v g) (pred_seen v p) (sees_append v (fun_variables f) (fun_variables g) (fun_has v f) (fun_has v g) (fun_seen v f) (fun_seen v g))
  fun_seen v (FIterate p f) = sees_append v (pred_variables p) (fun_variables f) (pred_has v p) (fun_has v f) (pred_seen v p) (fun_seen v f)
  fun_seen v (FIter p f) = sees_append v (pred_variables p) (fun_variables f) (pred_has v p) (fun_has v f) (pred_seen v p) (fun_seen v f)
  fun_seen v (FJoin p f) = sees_append v (pred_variables p) (fun_variables f) (pred_has v p) (fun_has v f) (pred_seen v p) (fun_seen v f)
  fun_seen v (FNest f g) = sees_append v (fun_variables f) (fun_variables g) (fun_has v f) (fun_has v g) (fun_seen v f) (fun_seen v g)
  fun_seen v (FUnnest f g) = sees_append v (fun_variables f) (fun_variables g) (fun_has v f) (fun_has v g) (fun_seen v f) (fun_seen v g)
  fun_seen v (FMeta k) = or_false (same_variable (TermF (FMeta k)) (variable v.0 v.1)) ∙ fun_leaf k v.0 v.1
  fun_seen v f = refl

  pred_seen : (v : Variable) (p : PredTree) → sees v (pred_variables p) ≡ pred_has v p
  pred_seen v (PAt p f) = sees_append v (pred_variables p) (fun_variables f) (pred_has v p) (fun_has v f) (pred_seen v p) (fun_seen v f)
  pred_seen v (PAnd p q) = sees_append v (pred_variables p) (pred_variables q) (pred_has v p) (pred_has v q) (pred_seen v p) (pred_seen v q)
  pred_seen v (POr p q) = sees_append v (pred_variables p) (pred_variables q) (pred_has v p) (pred_has v q) (pred_seen v p) (pred_seen v q)
  pred_seen v (PNot p) = pred_seen v p
  pred_seen v (PInv p) = pred_seen v p
  pred_seen v (PCP p c) = sees_append v (pred_variables p) (const_variables c) (pred_has v p) (const_has v c) (pred_seen v p) (const_seen v c)
  pred_seen v (PEx p) = pred_seen v p
  pred_seen v (PFa p) = pred_seen v p
  pred_seen v (PMeta k) = or_false (same_variable (TermP (PMeta k)) (variable v.0 v.1)) ∙ pred_leaf k v.0 v.1
  pred_seen v p = refl

pub term_seen : (v : Variable) (t : TermTree) → sees v (variables t) ≡ has_variable v t
term_seen v (TermF f) = fun_seen v f
term_seen v (TermP p) = pred_seen v p
term_seen v (TermC c) = const_seen v c

-- ---- from the test to the places

same_found : (w : TermTree) (n : List ℕ) (m : MetaTree) → same_variable w (variable n m) ≡ true → w ≡ variable n m
same_found (TermF (FMeta k)) n (MFun t u) e = ap (λ z. TermF (FMeta z)) (same_name-equal k n e)
same_found (TermP (PMeta k)) n (MPred t) e = ap (λ z. TermP (PMeta z)) (same_name-equal k n e)
same_found (TermC (CMeta k)) n (MConst t) e = ap (λ z. TermC (CMeta z)) (same_name-equal k n e)
same_found _ n m e = absurd (cc)

-- where each passes, one that passes another test passes both
one_of_all : (p q : TermTree → Bool) (C : Type 0) (xs : List TermTree) → list_all p xs ≡ true → list_any q xs ≡ true → ((x : TermTree) → p x ≡ true → q x ≡ true → C) → C
one_of_all p q C [] h e f = absurd (cc)
one_of_all p q C (x ∷ xs) h e f =
    let a = and_true (p x) (list_all p xs) h in
    decide (q x) refl e a.0 a.1 (one_of_all p q C xs)
  where
    decide : (b : Bool) → q x ≡ b → (b || list_any q xs) ≡ true → p x ≡ true → list_all p xs ≡ true → (list_all p xs ≡ true → list_any q xs ≡ true → ((y : TermTree) → p y ≡ true → q y ≡ true → C) → C) → C
    decide true k l i j g = f x i k
    decide false k l i j g = g j l f

pub fires_covers : (r : RuleTree) (rev : Bool) → can_fire r rev ≡ true → Covers r rev
fires_covers r rev e = λ v o.
    let old = variables (pattern_side r rev) in
    let new = variables (other_side r rev) in
    let found = term_seen v (other_side r rev) ∙ is_found v.0 v.1 o.0 (other_side r rev) o.1 in
    stands v (pattern_side r rev) (sym (term_seen v (pattern_side r rev)) ∙ one_of_all (is_among old) (λ w. same_variable w (variable v.0 v.1)) (is_among old (variable v.0 v.1) ≡ true) new e found (λ w h k. subst (λ z. is_among old z ≡ true) (same_found w v.0 v.1 k) h))
