-- Two terms that are the same outside of a path: their nodes, their children and the input types of those.
use Rattle.std.proofs.Common.{◌≡◌, ℕ, zero, suc, true, false, Option, Some, None, refl, sym, ap, ap₂, ◌∙◌, subst, option_and_then, option_map, List, [], ◌∷◌, length, arith}
use Rattle.kola_values.specs.Types.{TypeTree, TPair}
use Rattle.kola_values.specs.Databases.{Classes}
use Rattle.kola_term.specs.Terms.{ConstTree, FunTree, FId, FFst, FSnd, FFlat, FUnion, FIsect, FMinus, FAttr, FComp, FPair, FTimes, FK, FC, FIf, FIterate, FIter, FJoin, FNest, FUnnest, FMeta, PredTree, PEq, PLt, PLe, PMember, PAt, PAnd, POr, PNot, PInv, PKP, PCP, PEx, PFa, PMeta, TermTree, TermF, TermP, TermC}
use Rattle.kola_term.specs.Typing.{Context, out, const_type}
use Rattle.kola_term.specs.Places.{children, rebuild, inputs, nth, with_nth, flatten, sub_at, put_in, place}
use Rattle.kola_term.proofs.Inversions.{then_some, some_same}
use Rattle.kola_term.proofs.Introductions.{bind}
use Rattle.kola_match.specs.Nodes.{alike_funs, alike_preds, same_node}
use Rattle.kola_proof.specs.Outside.{SameUnless, AreChildren, AreParts}

-- ---- lists

nth_zero : (cs : List TermTree) → nth zero cs ≡ None
nth_zero [] = refl
nth_zero (c ∷ cs) = refl

lists_same : (bs cs : List TermTree) → ((k : ℕ) → nth (suc k) bs ≡ nth (suc k) cs) → bs ≡ cs
lists_same [] [] h = refl
lists_same [] (c ∷ cs) h = let e : None ≡ Some c = h 0 in absurd (cc)
lists_same (b ∷ bs) [] h = let e : Some b ≡ None = h 0 in absurd (cc)
lists_same (b ∷ bs) (c ∷ cs) h = ap₂ (λ x y. x ∷ y) (some_same b c (h 0)) (lists_same bs cs (λ k. h (suc k)))

tail_same : (n : ℕ) (b c : TermTree) (bs cs : List TermTree) → ((k : ℕ) → (suc (suc n) ≡ k → ⊥) → nth k (b ∷ bs) ≡ nth k (c ∷ cs)) → (k : ℕ) → (suc n ≡ k → ⊥) → nth k bs ≡ nth k cs
tail_same n b c bs cs h zero d = nth_zero bs ∙ sym (nth_zero cs)
tail_same n b c bs cs h (suc k) d = h (suc (suc k)) (λ e. d (omega (arith, e)))

-- entries that are the same but for the n-th
with_other : (n : ℕ) (bs cs : List TermTree) (z y : TermTree) → ((k : ℕ) → (n ≡ k → ⊥) → nth k bs ≡ nth k cs) → nth n bs ≡ Some z → nth n cs ≡ Some y → with_nth n y bs ≡ cs
with_other n [] cs z y h i j = absurd (cc)
with_other n (b ∷ bs) [] z y h i j = absurd (cc)
with_other zero (b ∷ bs) (c ∷ cs) z y h i j = absurd (cc)
with_other (suc zero) (b ∷ bs) (c ∷ cs) z y h i j = ap₂ (λ p q. p ∷ q) (sym (some_same c y j)) (lists_same bs cs (λ k. h (suc (suc k)) (λ e. absurd (omega (arith, e)))))
with_other (suc (suc n)) (b ∷ bs) (c ∷ cs) z y h i j = ap₂ (λ p q. p ∷ q) (some_same b c (h 1 (λ e. absurd (omega (arith, e))))) (with_other (suc n) bs cs z y (tail_same n b c bs cs h) i j)

nth_same : (n : ℕ) (cs : List TermTree) (c e : TermTree) → nth n cs ≡ Some c → nth n (with_nth n e cs) ≡ Some e
nth_same n [] c e i = absurd (cc)
nth_same zero (a ∷ cs) c e i = absurd (cc)
nth_same (suc zero) (a ∷ cs) c e i = refl
nth_same (suc (suc n)) (a ∷ cs) c e i = nth_same (suc n) cs c e i

nth_other : (n k : ℕ) (cs : List TermTree) (e : TermTree) → (n ≡ k → ⊥) → nth k (with_nth n e cs) ≡ nth k cs
nth_other n k [] e d = refl
nth_other zero k (a ∷ cs) e d = refl
nth_other (suc zero) zero (a ∷ cs) e d = refl
nth_other (suc zero) (suc zero) (a ∷ cs) e d = absurd (d refl)
nth_other (suc zero) (suc (suc k)) (a ∷ cs) e d = refl
nth_other (suc (suc n)) zero (a ∷ cs) e d = refl
nth_other (suc (suc n)) (suc zero) (a ∷ cs) e d = refl
nth_other (suc (suc n)) (suc (suc k)) (a ∷ cs) e d = nth_other (suc n) (suc k) cs e (λ p. d (ap suc p))

-- ---- nodes

-- a node has at most three children
few : (t : TermTree) (k : ℕ) → nth (suc (suc (suc (suc k)))) (children t) ≡ None
few (TermF (FComp y1 y2)) k = refl
few (TermF (FPair y1 y2)) k = refl
few (TermF (FTimes y1 y2)) k = refl
few (TermF (FNest y1 y2)) k = refl
few (TermF (FUnnest y1 y2)) k = refl
few (TermF (FK y1)) k = refl
few (TermF (FC y1 y2)) k = refl
few (TermF (FIf y1 y2 y3)) k = refl
few (TermF (FIterate y1 y2)) k = refl
few (TermF (FIter y1 y2)) k = refl
few (TermF (FJoin y1 y2)) k = refl
few (TermP (PAt y1 y2)) k = refl
few (TermP (PAnd y1 y2)) k = refl
few (TermP (POr y1 y2)) k = refl
few (TermP (PNot y1)) k = refl
few (TermP (PInv y1)) k = refl
few (TermP (PCP y1 y2)) k = refl
few (TermP (PEx y1)) k = refl
few (TermP (PFa y1)) k = refl
few _ k = refl

same_all : (n : ℕ) (b c : TermTree) → SameUnless n 1 b c → SameUnless n 2 b c → SameUnless n 3 b c → (k : ℕ) → (n ≡ k → ⊥) → nth k (children b) ≡ nth k (children c)
same_all n b c h i j zero d = nth_zero (children b) ∙ sym (nth_zero (children c))
same_all n b c h i j (suc zero) d = h d
same_all n b c h i j (suc (suc zero)) d = i d
same_all n b c h i j (suc (suc (suc zero))) d = j d
same_all n b c h i j (suc (suc (suc (suc k)))) d = few b k ∙ sym (few c k)

moved : (b z c : TermTree) (cs : List TermTree) → Some z ≡ Some c → same_node b z ≡ true → children z ≡ cs → (same_node b c ≡ true) × (children c ≡ cs)
moved b z c cs e h k = subst (λ y. (same_node b y ≡ true) × (children y ≡ cs)) (some_same z c e) (h, k)

-- a node with other children is the same node
built : (b : TermTree) (cs : List TermTree) (c : TermTree) → rebuild b cs ≡ Some c → (same_node b c ≡ true) × (children c ≡ cs)
built (TermF (FComp y1 y2)) (TermF z1 ∷ TermF z2 ∷ []) c e = moved (TermF (FComp y1 y2)) (TermF (FComp z1 z2)) c (TermF z1 ∷ TermF z2 ∷ []) e refl refl
built (TermF (FPair y1 y2)) (TermF z1 ∷ TermF z2 ∷ []) c e = moved (TermF (FPair y1 y2)) (TermF (FPair z1 z2)) c (TermF z1 ∷ TermF z2 ∷ []) e refl refl
built (TermF (FTimes y1 y2)) (TermF z1 ∷ TermF z2 ∷ []) c e = moved (TermF (FTimes y1 y2)) (TermF (FTimes z1 z2)) c (TermF z1 ∷ TermF z2 ∷ []) e refl refl
built (TermF (FNest y1 y2)) (TermF z1 ∷ TermF z2 ∷ []) c e = moved (TermF (FNest y1 y2)) (TermF (FNest z1 z2)) c (TermF z1 ∷ TermF z2 ∷ []) e refl refl
built (TermF (FUnnest y1 y2)) (TermF z1 ∷ TermF z2 ∷ []) c e = moved (TermF (FUnnest y1 y2)) (TermF (FUnnest z1 z2)) c (TermF z1 ∷ TermF z2 ∷ []) e refl refl
built (TermF (FK y1)) (TermC z1 ∷ []) c e = moved (TermF (FK y1)) (TermF (FK z1)) c (TermC z1 ∷ []) e refl refl
built (TermF (FC y1 y2)) (TermF z1 ∷ TermC z2 ∷ []) c e = moved (TermF (FC y1 y2)) (TermF (FC z1 z2)) c (TermF z1 ∷ TermC z2 ∷ []) e refl refl
built (TermF (FIf y1 y2 y3)) (TermP z1 ∷ TermF z2 ∷ TermF z3 ∷ []) c e = moved (TermF (FIf y1 y2 y3)) (TermF (FIf z1 z2 z3)) c (TermP z1 ∷ TermF z2 ∷ TermF z3 ∷ []) e refl refl
built (TermF (FIterate y1 y2)) (TermP z1 ∷ TermF z2 ∷ []) c e = moved (TermF (FIterate y1 y2)) (TermF (FIterate z1 z2)) c (TermP z1 ∷ TermF z2 ∷ []) e refl refl
built (TermF (FIter y1 y2)) (TermP z1 ∷ TermF z2 ∷ []) c e = moved (TermF (FIter y1 y2)) (TermF (FIter z1 z2)) c (TermP z1 ∷ TermF z2 ∷ []) e refl refl
built (TermF (FJoin y1 y2)) (TermP z1 ∷ TermF z2 ∷ []) c e = moved (TermF (FJoin y1 y2)) (TermF (FJoin z1 z2)) c (TermP z1 ∷ TermF z2 ∷ []) e refl refl
built (TermP (PAt y1 y2)) (TermP z1 ∷ TermF z2 ∷ []) c e = moved (TermP (PAt y1 y2)) (TermP (PAt z1 z2)) c (TermP z1 ∷ TermF z2 ∷ []) e refl refl
built (TermP (PAnd y1 y2)) (TermP z1 ∷ TermP z2 ∷ []) c e = moved (TermP (PAnd y1 y2)) (TermP (PAnd z1 z2)) c (TermP z1 ∷ TermP z2 ∷ []) e refl refl
built (TermP (POr y1 y2)) (TermP z1 ∷ TermP z2 ∷ []) c e = moved (TermP (POr y1 y2)) (TermP (POr z1 z2)) c (TermP z1 ∷ TermP z2 ∷ []) e refl refl
built (TermP (PNot y1)) (TermP z1 ∷ []) c e = moved (TermP (PNot y1)) (TermP (PNot z1)) c (TermP z1 ∷ []) e refl refl
built (TermP (PInv y1)) (TermP z1 ∷ []) c e = moved (TermP (PInv y1)) (TermP (PInv z1)) c (TermP z1 ∷ []) e refl refl
built (TermP (PCP y1 y2)) (TermP z1 ∷ TermC z2 ∷ []) c e = moved (TermP (PCP y1 y2)) (TermP (PCP z1 z2)) c (TermP z1 ∷ TermC z2 ∷ []) e refl refl
built (TermP (PEx y1)) (TermP z1 ∷ []) c e = moved (TermP (PEx y1)) (TermP (PEx z1)) c (TermP z1 ∷ []) e refl refl
built (TermP (PFa y1)) (TermP z1 ∷ []) c e = moved (TermP (PFa y1)) (TermP (PFa z1)) c (TermP z1 ∷ []) e refl refl
built _ _ c e = absurd (cc)

rebuilt_fun : (f g : FunTree) (n : ℕ) (z : TermTree) → alike_funs f g ≡ true → nth n (children (TermF f)) ≡ Some z → rebuild (TermF f) (children (TermF g)) ≡ Some (TermF g)
rebuilt_fun (FComp y1 y2) (FComp z1 z2) n z e i = refl
rebuilt_fun (FPair y1 y2) (FPair z1 z2) n z e i = refl
rebuilt_fun (FTimes y1 y2) (FTimes z1 z2) n z e i = refl
rebuilt_fun (FNest y1 y2) (FNest z1 z2) n z e i = refl
rebuilt_fun (FUnnest y1 y2) (FUnnest z1 z2) n z e i = refl
rebuilt_fun (FK y1) (FK z1) n z e i = refl
rebuilt_fun (FC y1 y2) (FC z1 z2) n z e i = refl
rebuilt_fun (FIf y1 y2 y3) (FIf z1 z2 z3) n z e i = refl
rebuilt_fun (FIterate y1 y2) (FIterate z1 z2) n z e i = refl
rebuilt_fun (FIter y1 y2) (FIter z1 z2) n z e i = refl
rebuilt_fun (FJoin y1 y2) (FJoin z1 z2) n z e i = refl
rebuilt_fun _ _ n z e i = absurd (cc)

rebuilt_pred : (p q : PredTree) (n : ℕ) (z : TermTree) → alike_preds p q ≡ true → nth n (children (TermP p)) ≡ Some z → rebuild (TermP p) (children (TermP q)) ≡ Some (TermP q)
rebuilt_pred (PAt y1 y2) (PAt z1 z2) n z e i = refl
rebuilt_pred (PAnd y1 y2) (PAnd z1 z2) n z e i = refl
rebuilt_pred (POr y1 y2) (POr z1 z2) n z e i = refl
rebuilt_pred (PNot y1) (PNot z1) n z e i = refl
rebuilt_pred (PInv y1) (PInv z1) n z e i = refl
rebuilt_pred (PCP y1 y2) (PCP z1 z2) n z e i = refl
rebuilt_pred (PEx y1) (PEx z1) n z e i = refl
rebuilt_pred (PFa y1) (PFa z1) n z e i = refl
rebuilt_pred _ _ n z e i = absurd (cc)

-- a node is the same node with its children
rebuilt : (b c : TermTree) (n : ℕ) (z : TermTree) → same_node b c ≡ true → nth n (children b) ≡ Some z → rebuild b (children c) ≡ Some c
rebuilt (TermF f) (TermF g) n z e i = rebuilt_fun f g n z e i
rebuilt (TermP p) (TermP q) n z e i = rebuilt_pred p q n z e i
rebuilt _ _ n z e i = absurd (cc)

-- ---- the children of a number

pub children_found : (b c : TermTree) (n : ℕ) (z y : TermTree) → same_node b c ≡ true → SameUnless n 1 b c → SameUnless n 2 b c → SameUnless n 3 b c → nth n (children b) ≡ Some z → nth n (children c) ≡ Some y → AreChildren b c n (Some (z, y))
children_found b c n z y e h1 h2 h3 i j = (i, j, ap (rebuild b) (with_other n (children b) (children c) z y (same_all n b c h1 h2 h3) i j) ∙ rebuilt b c n z e i)

-- where c is b with another child there
pub record Exchanged (b c : TermTree) (n : ℕ) (y : TermTree) : Type 0 where
  pub node : same_node b c ≡ true
  pub others : (k : ℕ) → (n ≡ k → ⊥) → nth k (children b) ≡ nth k (children c)
  pub child : nth n (children c) ≡ Some y

pub exchanged : (b c : TermTree) (n : ℕ) (z y : TermTree) → nth n (children b) ≡ Some z → rebuild b (with_nth n y (children b)) ≡ Some c → Exchanged b c n y
exchanged b c n z y i e =
    let m = built b (with_nth n y (children b)) c e in
    record { node = m.0; others = λ k d. sym (ap (nth k) m.1 ∙ nth_other n k (children b) y d); child = ap (nth n) m.1 ∙ nth_same n (children b) z y i }

pub other_node : (b c : TermTree) (n : ℕ) → same_node b c ≡ false → AreChildren b c n None
other_node b c n h = λ z y i e. let k : true ≡ false = sym (exchanged b c n z y i e).node ∙ h in cc

pub others_differ : (b c : TermTree) (n : ℕ) → (SameUnless n 1 b c × SameUnless n 2 b c × SameUnless n 3 b c → ⊥) → AreChildren b c n None
others_differ b c n h = λ z y i e. let m = exchanged b c n z y i e in h (m.others 1, m.others 2, m.others 3)

pub no_first : (b c : TermTree) (n : ℕ) → nth n (children b) ≡ None → AreChildren b c n None
no_first b c n h = λ z y i e. let k : None ≡ Some z = sym h ∙ i in cc

pub no_second : (b c : TermTree) (n : ℕ) → nth n (children c) ≡ None → AreChildren b c n None
no_second b c n h = λ z y i e. let k : None ≡ Some y = sym h ∙ (exchanged b c n z y i e).child in cc

-- ---- along a path

pub parts_end : (b c : TermTree) (q : List ℕ) → length q ≡ 0 → AreParts b c q (Some (b, c))
parts_end b c [] e = (refl, refl)
parts_end b c (n ∷ q) e = absurd (omega (arith, e))

pub parts_found : (b c : TermTree) (n : ℕ) (q : List ℕ) (z y : TermTree) (o : Option (TermTree × TermTree)) → AreChildren b c n (Some (z, y)) → AreParts z y q o → AreParts b c (n ∷ q) o
parts_found b c n q z y (Some p) h k = (
  bind (λ t. sub_at t q) (nth n (children b)) z (Some p.0) h.0 k.0,
  bind (λ t. option_and_then (λ e. rebuild b (with_nth n e (children b))) (put_in t q p.1)) (nth n (children b)) z (Some c) h.0 (bind (λ e. rebuild b (with_nth n e (children b))) (put_in z q p.1) y (Some c) k.1 h.2),
)
parts_found b c n q z y None h k = λ t e.
    let o = then_some (λ u. option_and_then (λ v. rebuild b (with_nth n v (children b))) (put_in u q t)) (nth n (children b)) c e in
    let p = then_some (λ v. rebuild b (with_nth n v (children b))) (put_in o.0 q t) c o.2 in
    let m = exchanged b c n o.0 p.0 o.1 p.2 in
    let oz : o.0 ≡ z = some_same o.0 z (sym o.1 ∙ h.0) in
    let py : p.0 ≡ y = some_same p.0 y (sym m.child ∙ h.1) in
    k t (subst (λ u. put_in u q t ≡ Some y) oz (p.1 ∙ ap Some py))

pub no_children : (b c : TermTree) (n : ℕ) (q : List ℕ) → AreChildren b c n None → AreParts b c (n ∷ q) None
no_children b c n q h = λ t e.
    let o = then_some (λ u. option_and_then (λ v. rebuild b (with_nth n v (children b))) (put_in u q t)) (nth n (children b)) c e in
    let p = then_some (λ v. rebuild b (with_nth n v (children b))) (put_in o.0 q t) c o.2 in
    h o.0 p.0 o.1 p.2

-- ---- input types

one_fun : (f g : FunTree) → Some (TermF f) ≡ Some (TermF g) → f ≡ g
one_fun f g e = cc

one_const : (c d : ConstTree) → Some (TermC c) ≡ Some (TermC d) → c ≡ d
one_const c d e = cc

module _ (S : Classes) (x : Context) where
  fun_input_kept : (f g : FunTree) (n : ℕ) (T : TypeTree) → alike_funs f g ≡ true → ((k : ℕ) → (n ≡ k → ⊥) → nth k (children (TermF f)) ≡ nth k (children (TermF g))) → nth n (inputs S x (TermF f) T) ≡ nth n (inputs S x (TermF g) T)
  fun_input_kept (FComp y1 y2) (FComp z1 z2) zero T e h = refl
  fun_input_kept (FComp y1 y2) (FComp z1 z2) (suc zero) T e h = ap (λ z. Some (out S x z T)) (one_fun y2 z2 (h 2 (λ i. absurd (omega arith))))
  fun_input_kept (FComp y1 y2) (FComp z1 z2) (suc (suc n)) T e h = refl
  fun_input_kept (FPair y1 y2) (FPair z1 z2) n T e h = refl
  fun_input_kept (FTimes y1 y2) (FTimes z1 z2) n T e h = refl
  fun_input_kept (FNest y1 y2) (FNest z1 z2) n T e h = refl
  fun_input_kept (FUnnest y1 y2) (FUnnest z1 z2) n T e h = refl
  fun_input_kept (FK y1) (FK z1) n T e h = refl
  fun_input_kept (FC y1 y2) (FC z1 z2) zero T e h = refl
  fun_input_kept (FC y1 y2) (FC z1 z2) (suc zero) T e h = ap (λ z. Some (option_map (λ u. TPair u T) (const_type S x z))) (one_const y2 z2 (h 2 (λ i. absurd (omega arith))))
  fun_input_kept (FC y1 y2) (FC z1 z2) (suc (suc n)) T e h = refl
  fun_input_kept (FIf y1 y2 y3) (FIf z1 z2 z3) n T e h = refl
  fun_input_kept (FIterate y1 y2) (FIterate z1 z2) n T e h = refl
  fun_input_kept (FIter y1 y2) (FIter z1 z2) n T e h = refl
  fun_input_kept (FJoin y1 y2) (FJoin z1 z2) n T e h = refl
  fun_input_kept FId FId n T e h = refl
  fun_input_kept FFst FFst n T e h = refl
  fun_input_kept FSnd FSnd n T e h = refl
  fun_input_kept FFlat FFlat n T e h = refl
  fun_input_kept FUnion FUnion n T e h = refl
  fun_input_kept FIsect FIsect n T e h = refl
  fun_input_kept FMinus FMinus n T e h = refl
  fun_input_kept (FAttr y) (FAttr z) n T e h = refl
  fun_input_kept (FMeta y) (FMeta z) n T e h = refl
  fun_input_kept _ _ n T e h = absurd (cc)

  pred_input_kept : (p q : PredTree) (n : ℕ) (T : TypeTree) → alike_preds p q ≡ true → ((k : ℕ) → (n ≡ k → ⊥) → nth k (children (TermP p)) ≡ nth k (children (TermP q))) → nth n (inputs S x (TermP p) T) ≡ nth n (inputs S x (TermP q) T)
  pred_input_kept (PAt y1 y2) (PAt z1 z2) zero T e h = refl
  pred_input_kept (PAt y1 y2) (PAt z1 z2) (suc zero) T e h = ap (λ z. Some (out S x z T)) (one_fun y2 z2 (h 2 (λ i. absurd (omega arith))))
  pred_input_kept (PAt y1 y2) (PAt z1 z2) (suc (suc n)) T e h = refl
  pred_input_kept (PAnd y1 y2) (PAnd z1 z2) n T e h = refl
  pred_input_kept (POr y1 y2) (POr z1 z2) n T e h = refl
  pred_input_kept (PNot y1) (PNot z1) n T e h = refl
  pred_input_kept (PInv y1) (PInv z1) n T e h = refl
  pred_input_kept (PCP y1 y2) (PCP z1 z2) zero T e h = refl
  pred_input_kept (PCP y1 y2) (PCP z1 z2) (suc zero) T e h = ap (λ z. Some (option_map (λ u. TPair u T) (const_type S x z))) (one_const y2 z2 (h 2 (λ i. absurd (omega arith))))
  pred_input_kept (PCP y1 y2) (PCP z1 z2) (suc (suc n)) T e h = refl
  pred_input_kept (PEx y1) (PEx z1) n T e h = refl
  pred_input_kept (PFa y1) (PFa z1) n T e h = refl
  pred_input_kept PEq PEq n T e h = refl
  pred_input_kept PLt PLt n T e h = refl
  pred_input_kept PLe PLe n T e h = refl
  pred_input_kept PMember PMember n T e h = refl
  pred_input_kept (PKP y) (PKP z) n T e h = refl
  pred_input_kept (PMeta y) (PMeta z) n T e h = refl
  pred_input_kept _ _ n T e h = absurd (cc)

  -- the input type of a child does not depend on the child
  input_kept : (b c : TermTree) (n : ℕ) (T : TypeTree) → same_node b c ≡ true → ((k : ℕ) → (n ≡ k → ⊥) → nth k (children b) ≡ nth k (children c)) → nth n (inputs S x b T) ≡ nth n (inputs S x c T)
  input_kept (TermF f) (TermF g) n T e h = fun_input_kept f g n T e h
  input_kept (TermP p) (TermP q) n T e h = pred_input_kept p q n T e h
  input_kept (TermC c) (TermC d) n T e h = refl
  input_kept _ _ n T e h = absurd (cc)

  -- nor does that of a part
  pub place_kept : (q : List ℕ) (b c y : TermTree) (T w : TypeTree) → place S x b T q ≡ Some w → put_in b q y ≡ Some c → (place S x c T q ≡ Some w) × (sub_at c q ≡ Some y)
  place_kept [] b c y T w i j = (i, ap Some (sym (some_same y c j)))
  place_kept (n ∷ q) b c y T w i j =
      let a = then_some (λ z. option_and_then (λ k. place S x z k q) (flatten (nth n (inputs S x b T)))) (nth n (children b)) w i in
      let g = then_some (λ k. place S x a.0 k q) (flatten (nth n (inputs S x b T))) w a.2 in
      let o = then_some (λ z. option_and_then (λ e. rebuild b (with_nth n e (children b))) (put_in z q y)) (nth n (children b)) c j in
      let p = then_some (λ e. rebuild b (with_nth n e (children b))) (put_in o.0 q y) c o.2 in
      let oa : o.0 ≡ a.0 = some_same o.0 a.0 (sym o.1 ∙ a.1) in
      let m = exchanged b c n a.0 p.0 a.1 p.2 in
      let input : flatten (nth n (inputs S x c T)) ≡ Some g.0 = ap flatten (sym (input_kept b c n T m.node m.others)) ∙ g.1 in
      let r = place_kept q a.0 p.0 y g.0 w g.2 (subst (λ z. put_in z q y ≡ Some p.0) oa p.1) in (
        bind (λ z. option_and_then (λ k. place S x z k q) (flatten (nth n (inputs S x c T)))) (nth n (children c)) p.0 (Some w) m.child (bind (λ k. place S x p.0 k q) (flatten (nth n (inputs S x c T))) g.0 (Some w) input r.0),
        bind (λ z. sub_at z q) (nth n (children c)) p.0 (Some y) m.child r.1,
      )
