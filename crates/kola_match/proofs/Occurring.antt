-- A variable stands in a term where it is the node or stands in a child.
use Rattle.std.proofs.Common.{◌≡◌, ℕ, zero, suc, Bool, true, false, ◌||◌, Some, List, [], ◌∷◌, refl, ap, ◌∙◌, ◌⊎◌, inl, inr}
use Rattle.kola_term.specs.Terms.{CMeta, FComp, FPair, FTimes, FK, FC, FIf, FIterate, FIter, FJoin, FNest, FUnnest, FMeta, PAt, PAnd, POr, PNot, PInv, PCP, PEx, PFa, PMeta, ConstTree, FunTree, PredTree, TermTree, TermF, TermP, TermC}
use Rattle.kola_term.specs.Typing.{MetaTree, MFun, MPred, MConst}
use Rattle.kola_term.specs.Places.{children, nth, sub_at}
use Rattle.kola_term.proofs.Inversions.{same_name-equal, some_same, then_some}
use Rattle.kola_term.proofs.Introductions.{same_name_itself, bind}
use Rattle.kola_match.specs.Occurring.{variable, Occurs}
use Rattle.kola_match.proofs.RuleTests.{Variable, is_variable_at, const_has, fun_has, pred_has, has_variable}

abbrev pub any_has : Variable → List TermTree → Bool
any_has v [] = false
any_has v (t ∷ ts) = has_variable v t || any_has v ts

one_more : (a : Bool) → a ≡ (a || false)
one_more true = refl
one_more false = refl

two_more : (a b : Bool) → (a || b) ≡ (a || (b || false))
two_more a b = ap (λ z. a || z) (one_more b)

three_more : (a b c : Bool) → (a || (b || c)) ≡ (a || (b || (c || false)))
three_more a b c = ap (λ z. a || (b || z)) (one_more c)

-- an inner node is no variable, and a leaf has no child
pub node : (v : Variable) (t : TermTree) → has_variable v t ≡ (is_variable_at t v || any_has v (children t))
node v (TermF (FComp f g)) = two_more (fun_has v f) (fun_has v g)
node v (TermF (FPair f g)) = two_more (fun_has v f) (fun_has v g)
node v (TermF (FTimes f g)) = two_more (fun_has v f) (fun_has v g)
node v (TermF (FK c)) = one_more (const_has v c)
node v (TermF (FC f c)) = two_more (fun_has v f) (const_has v c)
node v (TermF (FIf p f g)) = three_more (pred_has v p) (fun_has v f) (fun_has v g)
node v (TermF (FIterate p f)) = two_more (pred_has v p) (fun_has v f)
node v (TermF (FIter p f)) = two_more (pred_has v p) (fun_has v f)
node v (TermF (FJoin p f)) = two_more (pred_has v p) (fun_has v f)
node v (TermF (FNest f g)) = two_more (fun_has v f) (fun_has v g)
node v (TermF (FUnnest f g)) = two_more (fun_has v f) (fun_has v g)
node v (TermP (PAt p f)) = two_more (pred_has v p) (fun_has v f)
node v (TermP (PAnd p q)) = two_more (pred_has v p) (pred_has v q)
node v (TermP (POr p q)) = two_more (pred_has v p) (pred_has v q)
node v (TermP (PNot p)) = one_more (pred_has v p)
node v (TermP (PInv p)) = one_more (pred_has v p)
node v (TermP (PCP p c)) = two_more (pred_has v p) (const_has v c)
node v (TermP (PEx p)) = one_more (pred_has v p)
node v (TermP (PFa p)) = one_more (pred_has v p)
node v t = one_more (is_variable_at t v)

either : (a b : Bool) → (a || b) ≡ true → (a ≡ true) ⊎ (b ≡ true)
either true b e = inl refl
either false b e = inr e

or_left : (a b : Bool) → a ≡ true → (a || b) ≡ true
or_left true b e = refl
or_left false b e = absurd (cc)

or_right : (a b : Bool) → b ≡ true → (a || b) ≡ true
or_right true b e = refl
or_right false b e = e

-- what is the variable at the node
found_here : (t : TermTree) (n : List ℕ) (m : MetaTree) → is_variable_at t (n, m) ≡ true → t ≡ variable n m
found_here (TermF (FMeta k)) n (MFun a b) e = ap (λ z. TermF (FMeta z)) (same_name-equal k n e)
found_here (TermP (PMeta k)) n (MPred a) e = ap (λ z. TermP (PMeta z)) (same_name-equal k n e)
found_here (TermC (CMeta k)) n (MConst a) e = ap (λ z. TermC (CMeta z)) (same_name-equal k n e)
found_here _ n m e = absurd (cc)

here_found : (n : List ℕ) (m : MetaTree) → is_variable_at (variable n m) (n, m) ≡ true
here_found n (MFun a b) = same_name_itself n
here_found n (MPred a) = same_name_itself n
here_found n (MConst a) = same_name_itself n

-- a list of terms has a variable where one of them has it
nth_has : (v : Variable) (k : ℕ) (ts : List TermTree) (c : TermTree) → nth k ts ≡ Some c → has_variable v c ≡ true → any_has v ts ≡ true
nth_has v k [] c e h = absurd (cc)
nth_has v zero (t ∷ ts) c e h = absurd (cc)
nth_has v (suc zero) (t ∷ ts) c e h = or_left (has_variable v t) (any_has v ts) (ap (has_variable v) (some_same t c e) ∙ h)
nth_has v (suc (suc k)) (t ∷ ts) c e h = or_right (has_variable v t) (any_has v ts) (nth_has v (suc k) ts c e h)

-- a variable that stands somewhere is found
pub is_found : (n : List ℕ) (m : MetaTree) (q : List ℕ) (t : TermTree) → sub_at t q ≡ Some (variable n m) → has_variable (n, m) t ≡ true
is_found n m [] t e =
    node (n, m) t ∙ or_left (is_variable_at t (n, m)) (any_has (n, m) (children t)) (ap (λ z. is_variable_at z (n, m)) (some_same t (variable n m) e) ∙ here_found n m)
is_found n m (k ∷ q) t e =
    let p = then_some (λ c. sub_at c q) (nth k (children t)) (variable n m) e in
    node (n, m) t ∙ or_right (is_variable_at t (n, m)) (any_has (n, m) (children t)) (nth_has (n, m) k (children t) p.0 p.1 (is_found n m q p.0 p.2))

at_root : (t : TermTree) (n : List ℕ) (m : MetaTree) → is_variable_at t (n, m) ≡ true → Occurs t (n, m)
at_root t n m e = ([], ap Some (found_here t n m e))

below : (t c : TermTree) (k : ℕ) (v : Variable) → nth k (children t) ≡ Some c → Occurs c v → Occurs t v
below t c k v e o = (k ∷ o.0, bind (λ z. sub_at z o.0) (nth k (children t)) c (Some (variable v.0 v.1)) e o.1)

one : (t a : TermTree) (v : Variable) (p : Bool) → nth 1 (children t) ≡ Some a → (p ≡ true → Occurs a v) → p ≡ true → Occurs t v
one t a v p e f k = below t a 1 v e (f k)

two : (t a b : TermTree) (v : Variable) (p q : Bool) → nth 1 (children t) ≡ Some a → nth 2 (children t) ≡ Some b → (p ≡ true → Occurs a v) → (q ≡ true → Occurs b v) → (p || q) ≡ true → Occurs t v
two t a b v true q e h f g k = below t a 1 v e (f refl)
two t a b v false q e h f g k = below t b 2 v h (g k)

three : (t a b c : TermTree) (v : Variable) (p q r : Bool) → nth 1 (children t) ≡ Some a → nth 2 (children t) ≡ Some b → nth 3 (children t) ≡ Some c → (p ≡ true → Occurs a v) → (q ≡ true → Occurs b v) → (r ≡ true → Occurs c v) → (p || (q || r)) ≡ true → Occurs t v
three t a b c v true q r e h i f g j k = below t a 1 v e (f refl)
three t a b c v false true r e h i f g j k = below t b 2 v h (g refl)
three t a b c v false false r e h i f g j k = below t c 3 v i (j k)

const_stands : (v : Variable) (c : ConstTree) → const_has v c ≡ true → Occurs (TermC c) v
const_stands v c e = at_root (TermC c) v.0 v.1 e

mutual
  fun_stands : (v : Variable) (f : FunTree) → fun_has v f ≡ true → Occurs (TermF f) v
  fun_stands v (FComp f g) e = two (TermF (FComp f g)) (TermF f) (TermF g) v (fun_has v f) (fun_has v g) refl refl (fun_stands v f) (fun_stands v g) e
  fun_stands v (FPair f g) e = two (TermF (FPair f g)) (TermF f) (TermF g) v (fun_has v f) (fun_has v g) refl refl (fun_stands v f) (fun_stands v g) e
  fun_stands v (FTimes f g) e = two (TermF (FTimes f g)) (TermF f) (TermF g) v (fun_has v f) (fun_has v g) refl refl (fun_stands v f) (fun_stands v g) e
  fun_stands v (FK c) e = one (TermF (FK c)) (TermC c) v (const_has v c) refl (const_stands v c) e
  fun_stands v (FC f c) e = two (TermF (FC f c)) (TermF f) (TermC c) v (fun_has v f) (const_has v c) refl refl (fun_stands v f) (const_stands v c) e
  fun_stands v (FIf p f g) e = three (TermF (FIf p f g)) (TermP p) (TermF f) (TermF g) v (pred_has v p) (fun_has v f) (fun_has v g) refl refl refl (pred_stands v p) (fun_stands v f) (fun_stands v g) e
  fun_stands v (FIterate p f) e = two (TermF (FIterate p f)) (TermP p) (TermF f) v (pred_has v p) (fun_has v f) refl refl (pred_stands v p) (fun_stands v f) e
  fun_stands v (FIter p f) e = two (TermF (FIter p f)) (TermP p) (TermF f) v (pred_has v p) (fun_has v f) refl refl (pred_stands v p) (fun_stands v f) e
  fun_stands v (FJoin p f) e = two (TermF (FJoin p f)) (TermP p) (TermF f) v (pred_has v p) (fun_has v f) refl refl (pred_stands v p) (fun_stands v f) e
  fun_stands v (FNest f g) e = two (TermF (FNest f g)) (TermF f) (TermF g) v (fun_has v f) (fun_has v g) refl refl (fun_stands v f) (fun_stands v g) e
  fun_stands v (FUnnest f g) e = two (TermF (FUnnest f g)) (TermF f) (TermF g) v (fun_has v f) (fun_has v g) refl refl (fun_stands v f) (fun_stands v g) e
  fun_stands v f e = at_root (TermF f) v.0 v.1 e

  pred_stands : (v : Variable) (p : PredTree) → pred_has v p ≡ true → Occurs (TermP p) v
  pred_stands v (PAt p f) e = two (TermP (PAt p f)) (TermP p) (TermF f) v (pred_has v p) (fun_has v f) refl refl (pred_stands v p) (fun_stands v f) e
  pred_stands v (PAnd p q) e = two (TermP (PAnd p q)) (TermP p) (TermP q) v (pred_has v p) (pred_has v q) refl refl (pred_stands v p) (pred_stands v q) e
  pred_stands v (POr p q) e = two (TermP (POr p q)) (TermP p) (TermP q) v (pred_has v p) (pred_has v q) refl refl (pred_stands v p) (pred_stands v q) e
  pred_stands v (PNot p) e = one (TermP (PNot p)) (TermP p) v (pred_has v p) refl (pred_stands v p) e
  pred_stands v (PInv p) e = one (TermP (PInv p)) (TermP p) v (pred_has v p) refl (pred_stands v p) e
  pred_stands v (PCP p c) e = two (TermP (PCP p c)) (TermP p) (TermC c) v (pred_has v p) (const_has v c) refl refl (pred_stands v p) (const_stands v c) e
  pred_stands v (PEx p) e = one (TermP (PEx p)) (TermP p) v (pred_has v p) refl (pred_stands v p) e
  pred_stands v (PFa p) e = one (TermP (PFa p)) (TermP p) v (pred_has v p) refl (pred_stands v p) e
  pred_stands v p e = at_root (TermP p) v.0 v.1 e

-- what is found stands somewhere
pub stands : (v : Variable) (t : TermTree) → has_variable v t ≡ true → Occurs t v
stands v (TermF f) e = fun_stands v f e
stands v (TermP p) e = pred_stands v p e
stands v (TermC c) e = const_stands v c e
