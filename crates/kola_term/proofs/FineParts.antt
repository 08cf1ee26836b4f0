-- The parts of a fine term are fine at their places, and a fine part of the same output type in a part's place keeps a fine whole.
use Rattle.std.proofs.Common.{◌≡◌, ℕ, zero, suc, true, ◌⊎◌, inl, inr, Option, Some, None, refl, sym, ap, ap₂, ◌∙◌, subst, option_and_then, option_map, List, [], ◌∷◌, ◌++◌}
use Rattle.kola_values.specs.Types.{TypeTree, TBool, TPair}
use Rattle.kola_values.specs.Databases.{Classes}
use Rattle.kola_term.specs.Terms.{FunTree, FComp, FPair, FTimes, FK, FC, FIf, FIterate, FIter, FJoin, FNest, FUnnest, PAt, PAnd, POr, PNot, PInv, PCP, PEx, PFa, TermTree, TermF, TermP, TermC}
use Rattle.kola_term.specs.Typing.{Context, out, is_typed}
use Rattle.kola_term.specs.Places.{children, rebuild, inputs, Typed, nth, with_nth, flatten, sub_at, put_in, place}
use Rattle.kola_term.specs.Agreement.{kind_out, SameKind, Serves}
use Rattle.kola_term.specs.Faults.{Small, Fine, small}
use Rattle.kola_term.proofs.Inversions.{then_some, some_same}
use Rattle.kola_term.proofs.Introductions.{bind}
use Rattle.kola_term.proofs.Paths.{typed_at}
use Rattle.kola_term.proofs.Kept.{ServeAll, ok_same, same_kind_built, kept_node, kept_at, lengths, with_nth_serves}
use Rattle.kola_term.proofs.Faulty.{fine_small}

-- ---- the children of a rebuilt node

children_built : (t : TermTree) (cs : List TermTree) (b : TermTree) → rebuild t cs ≡ Some b → children b ≡ cs
children_built (TermF (FComp y1 y2)) (TermF z1 ∷ TermF z2 ∷ []) b e = ap children (sym (some_same (TermF (FComp z1 z2)) b e))
children_built (TermF (FPair y1 y2)) (TermF z1 ∷ TermF z2 ∷ []) b e = ap children (sym (some_same (TermF (FPair z1 z2)) b e))
children_built (TermF (FTimes y1 y2)) (TermF z1 ∷ TermF z2 ∷ []) b e = ap children (sym (some_same (TermF (FTimes z1 z2)) b e))
children_built (TermF (FK y1)) (TermC z1 ∷ []) b e = ap children (sym (some_same (TermF (FK z1)) b e))
children_built (TermF (FC y1 y2)) (TermF z1 ∷ TermC z2 ∷ []) b e = ap children (sym (some_same (TermF (FC z1 z2)) b e))
children_built (TermF (FIf y1 y2 y3)) (TermP z1 ∷ TermF z2 ∷ TermF z3 ∷ []) b e = ap children (sym (some_same (TermF (FIf z1 z2 z3)) b e))
children_built (TermF (FIterate y1 y2)) (TermP z1 ∷ TermF z2 ∷ []) b e = ap children (sym (some_same (TermF (FIterate z1 z2)) b e))
children_built (TermF (FIter y1 y2)) (TermP z1 ∷ TermF z2 ∷ []) b e = ap children (sym (some_same (TermF (FIter z1 z2)) b e))
children_built (TermF (FJoin y1 y2)) (TermP z1 ∷ TermF z2 ∷ []) b e = ap children (sym (some_same (TermF (FJoin z1 z2)) b e))
children_built (TermF (FNest y1 y2)) (TermF z1 ∷ TermF z2 ∷ []) b e = ap children (sym (some_same (TermF (FNest z1 z2)) b e))
children_built (TermF (FUnnest y1 y2)) (TermF z1 ∷ TermF z2 ∷ []) b e = ap children (sym (some_same (TermF (FUnnest z1 z2)) b e))
children_built (TermP (PAt y1 y2)) (TermP z1 ∷ TermF z2 ∷ []) b e = ap children (sym (some_same (TermP (PAt z1 z2)) b e))
children_built (TermP (PAnd y1 y2)) (TermP z1 ∷ TermP z2 ∷ []) b e = ap children (sym (some_same (TermP (PAnd z1 z2)) b e))
children_built (TermP (POr y1 y2)) (TermP z1 ∷ TermP z2 ∷ []) b e = ap children (sym (some_same (TermP (POr z1 z2)) b e))
children_built (TermP (PNot y1)) (TermP z1 ∷ []) b e = ap children (sym (some_same (TermP (PNot z1)) b e))
children_built (TermP (PInv y1)) (TermP z1 ∷ []) b e = ap children (sym (some_same (TermP (PInv z1)) b e))
children_built (TermP (PCP y1 y2)) (TermP z1 ∷ TermC z2 ∷ []) b e = ap children (sym (some_same (TermP (PCP z1 z2)) b e))
children_built (TermP (PEx y1)) (TermP z1 ∷ []) b e = ap children (sym (some_same (TermP (PEx z1)) b e))
children_built (TermP (PFa y1)) (TermP z1 ∷ []) b e = ap children (sym (some_same (TermP (PFa z1)) b e))
children_built _ _ b e = absurd (cc)

-- an entry of a list with another entry is that entry, or an entry of the list
other_or_same : (n m : ℕ) (cs : List TermTree) (e c : TermTree) → nth m (with_nth n e cs) ≡ Some c → ((m ≡ n) × (c ≡ e)) ⊎ (nth m cs ≡ Some c)
other_or_same n m [] e c h = absurd (cc)
other_or_same zero m (a ∷ cs) e c h = inr h
other_or_same (suc zero) zero (a ∷ cs) e c h = absurd (cc)
other_or_same (suc zero) (suc zero) (a ∷ cs) e c h = inl (refl, sym (some_same e c h))
other_or_same (suc zero) (suc (suc m)) (a ∷ cs) e c h = inr h
other_or_same (suc (suc n)) zero (a ∷ cs) e c h = absurd (cc)
other_or_same (suc (suc n)) (suc zero) (a ∷ cs) e c h = inr h
other_or_same (suc (suc n)) (suc (suc m)) (a ∷ cs) e c h = elim (other_or_same (suc n) (suc m) cs e c h) [ inl p ↦ inl (ap suc p.0, p.1) | inr p ↦ inr p ]

module _ (S : Classes) (x : Context) where
  -- ---- along a path and on

  sub_along : (q p : List ℕ) (t l : TermTree) → sub_at t q ≡ Some l → sub_at t (q ++ p) ≡ sub_at l p
  sub_along [] p t l e = ap (λ z. sub_at z p) (some_same t l e)
  sub_along (n ∷ q) p t l e =
      let i = then_some (λ c. sub_at c q) (nth n (children t)) l e in
      bind (λ c. sub_at c (q ++ p)) (nth n (children t)) i.0 (sub_at l p) i.1 (sub_along q p i.0 l i.2)

  place_along : (q p : List ℕ) (t l : TermTree) (T w : TypeTree) → sub_at t q ≡ Some l → place S x t T q ≡ Some w → place S x t T (q ++ p) ≡ place S x l w p
  place_along [] p t l T w e f = ap₂ (λ z y. place S x z y p) (some_same t l e) (some_same T w f)
  place_along (n ∷ q) p t l T w e f =
      let i = then_some (λ c. sub_at c q) (nth n (children t)) l e in
      let j = then_some (λ c. option_and_then (λ y. place S x c y q) (flatten (nth n (inputs S x t T)))) (nth n (children t)) w f in
      let k = then_some (λ y. place S x j.0 y q) (flatten (nth n (inputs S x t T))) w j.2 in
      let ij : i.0 ≡ j.0 = some_same i.0 j.0 (sym i.1 ∙ j.1) in
      bind (λ c. option_and_then (λ y. place S x c y (q ++ p)) (flatten (nth n (inputs S x t T)))) (nth n (children t)) j.0 (place S x l w p) j.1
      (bind (λ y. place S x j.0 y (q ++ p)) (flatten (nth n (inputs S x t T))) k.0 (place S x l w p) k.1 (place_along q p j.0 l k.0 w (subst (λ z. sub_at z q ≡ Some l) ij i.2) k.2))

  fine_typed : (t : TermTree) (T u : TypeTree) → Fine S x t T u → Typed S x t T
  fine_typed (TermF f) T u h = (u, h.0)
  fine_typed (TermP p) T u h = h.0
  fine_typed (TermC c) T u h = (u, h)

  typed_fine : (t : TermTree) (T : TypeTree) → Typed S x t T → Small S x t T → (u : TypeTree) × Fine S x t T u
  typed_fine (TermF f) T h s = (h.0, (h.1, s))
  typed_fine (TermP p) T h s = (TBool, (h, s))
  typed_fine (TermC c) T h s = (h.0, h.1)

  small_part : (q : List ℕ) (t l : TermTree) (T w : TypeTree) → Small S x t T → sub_at t q ≡ Some l → place S x t T q ≡ Some w → Small S x l w
  small_part q t l T w h i j p f z y e g o = h (q ++ p) f z y (sub_along q p t l i ∙ e) (place_along q p t l T w i j ∙ g) o

  pub part_fine : (q : List ℕ) (t l : TermTree) (T u : TypeTree) → Fine S x t T u → sub_at t q ≡ Some l → (w : TypeTree) × (v : TypeTree) × (place S x t T q ≡ Some w) × Fine S x l w v
  part_fine q t l T u h i =
      let k = typed_at S x q t l T (fine_typed t T u h) i in
      let f = typed_fine l k.0 k.2 (small_part q t l T k.0 (fine_small S x t T u h) i k.1) in
      (k.0, f.0, k.1, f.1)

  -- ---- a part in a part's place

  moved : (t z b : TermTree) (u : TypeTree) → Some z ≡ Some b → inputs S x z u ≡ inputs S x t u → inputs S x b u ≡ inputs S x t u
  moved t z b u e h = ap (λ y. inputs S x y u) (sym (some_same z b e)) ∙ h

  inputs_kept : (t : TermTree) (cs : List TermTree) (b : TermTree) (u : TypeTree) → ServeAll S x (inputs S x t u) (children t) cs → rebuild t cs ≡ Some b → inputs S x b u ≡ inputs S x t u
  inputs_kept (TermF (FComp y1 y2)) (TermF z1 ∷ TermF z2 ∷ []) b u h e = moved (TermF (FComp y1 y2)) (TermF (FComp z1 z2)) b u e (ap (λ o. o ∷ Some u ∷ []) (sym (h.1.0.1 u refl)))
  inputs_kept (TermF (FPair y1 y2)) (TermF z1 ∷ TermF z2 ∷ []) b u h e = moved (TermF (FPair y1 y2)) (TermF (FPair z1 z2)) b u e refl
  inputs_kept (TermF (FTimes y1 y2)) (TermF z1 ∷ TermF z2 ∷ []) b u h e = moved (TermF (FTimes y1 y2)) (TermF (FTimes z1 z2)) b u e refl
  inputs_kept (TermF (FK y1)) (TermC z1 ∷ []) b u h e = moved (TermF (FK y1)) (TermF (FK z1)) b u e refl
  inputs_kept (TermF (FC y1 y2)) (TermF z1 ∷ TermC z2 ∷ []) b u h e = moved (TermF (FC y1 y2)) (TermF (FC z1 z2)) b u e (ap (λ o. option_map (λ w. TPair w u) o ∷ Some u ∷ []) (sym (h.1.0.1 u refl)))
  inputs_kept (TermF (FIf y1 y2 y3)) (TermP z1 ∷ TermF z2 ∷ TermF z3 ∷ []) b u h e = moved (TermF (FIf y1 y2 y3)) (TermF (FIf z1 z2 z3)) b u e refl
  inputs_kept (TermF (FIterate y1 y2)) (TermP z1 ∷ TermF z2 ∷ []) b u h e = moved (TermF (FIterate y1 y2)) (TermF (FIterate z1 z2)) b u e refl
  inputs_kept (TermF (FIter y1 y2)) (TermP z1 ∷ TermF z2 ∷ []) b u h e = moved (TermF (FIter y1 y2)) (TermF (FIter z1 z2)) b u e refl
  inputs_kept (TermF (FJoin y1 y2)) (TermP z1 ∷ TermF z2 ∷ []) b u h e = moved (TermF (FJoin y1 y2)) (TermF (FJoin z1 z2)) b u e refl
  inputs_kept (TermF (FNest y1 y2)) (TermF z1 ∷ TermF z2 ∷ []) b u h e = moved (TermF (FNest y1 y2)) (TermF (FNest z1 z2)) b u e refl
  inputs_kept (TermF (FUnnest y1 y2)) (TermF z1 ∷ TermF z2 ∷ []) b u h e = moved (TermF (FUnnest y1 y2)) (TermF (FUnnest z1 z2)) b u e refl
  inputs_kept (TermP (PAt y1 y2)) (TermP z1 ∷ TermF z2 ∷ []) b u h e = moved (TermP (PAt y1 y2)) (TermP (PAt z1 z2)) b u e (ap (λ o. o ∷ Some u ∷ []) (sym (h.1.0.1 u refl)))
  inputs_kept (TermP (PAnd y1 y2)) (TermP z1 ∷ TermP z2 ∷ []) b u h e = moved (TermP (PAnd y1 y2)) (TermP (PAnd z1 z2)) b u e refl
  inputs_kept (TermP (POr y1 y2)) (TermP z1 ∷ TermP z2 ∷ []) b u h e = moved (TermP (POr y1 y2)) (TermP (POr z1 z2)) b u e refl
  inputs_kept (TermP (PNot y1)) (TermP z1 ∷ []) b u h e = moved (TermP (PNot y1)) (TermP (PNot z1)) b u e refl
  inputs_kept (TermP (PInv y1)) (TermP z1 ∷ []) b u h e = moved (TermP (PInv y1)) (TermP (PInv z1)) b u e refl
  inputs_kept (TermP (PCP y1 y2)) (TermP z1 ∷ TermC z2 ∷ []) b u h e = moved (TermP (PCP y1 y2)) (TermP (PCP z1 z2)) b u e (ap (λ o. option_map (λ w. TPair w u) o ∷ Some u ∷ []) (sym (h.1.0.1 u refl)))
  inputs_kept (TermP (PEx y1)) (TermP z1 ∷ []) b u h e = moved (TermP (PEx y1)) (TermP (PEx z1)) b u e refl
  inputs_kept (TermP (PFa y1)) (TermP z1 ∷ []) b u h e = moved (TermP (PFa y1)) (TermP (PFa z1)) b u e refl
  inputs_kept _ _ b u h e = absurd (cc)

  -- small at each child, and at the node
  small_node : (t : TermTree) (T : TypeTree) → ((m : ℕ) (c : TermTree) (w : TypeTree) → nth m (children t) ≡ Some c → flatten (nth m (inputs S x t T)) ≡ Some w → Small S x c w)
      → ((f : FunTree) (u : TypeTree) → t ≡ TermF f → out S x f T ≡ Some u → small u ≡ true) → Small S x t T
  small_node t T a h [] f w u e p o = h f u (some_same t (TermF f) e) (ap (out S x f) (some_same T w p) ∙ o)
  small_node t T a h (n ∷ q) f w u e p o =
      let i = then_some (λ c. sub_at c q) (nth n (children t)) (TermF f) e in
      let j = then_some (λ c. option_and_then (λ z. place S x c z q) (flatten (nth n (inputs S x t T)))) (nth n (children t)) w p in
      let k = then_some (λ z. place S x j.0 z q) (flatten (nth n (inputs S x t T))) w j.2 in
      let ij : i.0 ≡ j.0 = some_same i.0 j.0 (sym i.1 ∙ j.1) in
      a n j.0 k.0 j.1 k.1 q f w u (subst (λ z. sub_at z q ≡ Some (TermF f)) ij i.2) k.2 o

  -- the output of a function of the same output type is small
  small_output : (t b : TermTree) (T u : TypeTree) → SameKind t b → kind_out S x t T ≡ kind_out S x b T → Fine S x t T u → (f : FunTree) (v : TypeTree) → b ≡ TermF f → out S x f T ≡ Some v → small v ≡ true
  small_output (TermF g) (TermF b) T u k e h f v i o = h.1 [] g T v refl refl (e ∙ (ap (λ z. kind_out S x z T) i ∙ o))
  small_output (TermP p) (TermP b) T u k e h f v i o = absurd (cc)
  small_output (TermC c) (TermC b) T u k e h f v i o = absurd (cc)
  small_output (TermF g) (TermP b) T u k e h f v i o = absurd k
  small_output (TermF g) (TermC b) T u k e h f v i o = absurd k
  small_output (TermP p) (TermF b) T u k e h f v i o = absurd k
  small_output (TermP p) (TermC b) T u k e h f v i o = absurd k
  small_output (TermC c) (TermF b) T u k e h f v i o = absurd k
  small_output (TermC c) (TermP b) T u k e h f v i o = absurd k

  fine_as : (t b : TermTree) (T u : TypeTree) → SameKind t b → kind_out S x t T ≡ kind_out S x b T → Fine S x t T u → Small S x b T → Fine S x b T u
  fine_as (TermF f) (TermF g) T u k e h s = (sym e ∙ h.0, s)
  fine_as (TermP p) (TermP q) T u k e h s = (sym (ok_same (is_typed S x p T) (is_typed S x q T) e) ∙ h.0, s)
  fine_as (TermC c) (TermC d) T u k e h s = sym e ∙ h
  fine_as (TermF f) (TermP q) T u k e h s = absurd k
  fine_as (TermF f) (TermC q) T u k e h s = absurd k
  fine_as (TermP f) (TermF q) T u k e h s = absurd k
  fine_as (TermP f) (TermC q) T u k e h s = absurd k
  fine_as (TermC f) (TermF q) T u k e h s = absurd k
  fine_as (TermC f) (TermP q) T u k e h s = absurd k

  pub whole_fine : (q : List ℕ) (t l r b : TermTree) (T u w v : TypeTree) → Fine S x t T u → sub_at t q ≡ Some l → place S x t T q ≡ Some w → put_in t q r ≡ Some b
      → Serves S x (Some w) l r → Fine S x r w v → Fine S x b T u
  whole_fine [] t l r b T u w v h i j k g f =
      let tl = some_same t l i in
      let Tw = some_same T w j in
      let rb = some_same r b k in
      let e : kind_out S x t T ≡ kind_out S x b T =
      ap₂ (kind_out S x) tl Tw ∙ (g.1 w refl ∙ ap₂ (kind_out S x) rb (sym Tw)) in
      fine_as t b T u (subst (λ z. SameKind z b) (sym tl) (subst (SameKind l) rb g.0)) e h
      (subst (λ z. Small S x z T) rb (subst (λ z. Small S x r z) (sym Tw) (fine_small S x r w v f)))
  whole_fine (n ∷ q) t l r b T u w v h i j k g f =
      let a = then_some (λ z. sub_at z q) (nth n (children t)) l i in
      let d = then_some (λ z. option_and_then (λ y. place S x z y q) (flatten (nth n (inputs S x t T)))) (nth n (children t)) w j in
      let m = then_some (λ y. place S x d.0 y q) (flatten (nth n (inputs S x t T))) w d.2 in
      let o = then_some (λ z. option_and_then (λ e. rebuild t (with_nth n e (children t))) (put_in z q r)) (nth n (children t)) b k in
      let p = then_some (λ e. rebuild t (with_nth n e (children t))) (put_in o.0 q r) b o.2 in
      let ad : a.0 ≡ d.0 = some_same a.0 d.0 (sym a.1 ∙ d.1) in
      let od : o.0 ≡ d.0 = some_same o.0 d.0 (sym o.1 ∙ d.1) in
      let sub : sub_at d.0 q ≡ Some l = subst (λ z. sub_at z q ≡ Some l) ad a.2 in
      let put : put_in d.0 q r ≡ Some p.0 = subst (λ z. put_in z q r ≡ Some p.0) od p.1 in
      let serves : Serves S x (Some m.0) d.0 p.0 = kept_at S x q d.0 m.0 l r p.0 w sub m.2 put g in
      let child = part_fine (n ∷ []) t d.0 T u h (ap (option_and_then (λ c. sub_at c [])) d.1) in
      let at_child : child.0 ≡ m.0 =
      some_same child.0 m.0 (sym child.2 ∙ bind (λ c. option_and_then (λ y. Some y) (flatten (nth n (inputs S x t T)))) (nth n (children t)) d.0 (Some m.0) d.1
      (ap (option_and_then (λ y. Some y)) m.1)) in
      let inner : Fine S x p.0 m.0 child.1 =
      whole_fine q d.0 l r p.0 m.0 child.1 w v (subst (λ z. Fine S x d.0 z child.1) at_child child.3) sub m.2 put g f in
      let all = with_nth_serves S x n (inputs S x t T) (children t) d.0 p.0 m.0 (lengths S x t T) d.1 m.1 serves in
      let kind : kind_out S x t T ≡ kind_out S x b T = kept_node S x t T (with_nth n p.0 (children t)) b all p.2 in
      let same : SameKind t b = same_kind_built t (with_nth n p.0 (children t)) b p.2 in
      let kids : children b ≡ with_nth n p.0 (children t) = children_built t (with_nth n p.0 (children t)) b p.2 in
      let ins : inputs S x b T ≡ inputs S x t T = inputs_kept t (with_nth n p.0 (children t)) b T all p.2 in
      let small_child : (y : ℕ) (c : TermTree) (z : TypeTree) → nth y (children b) ≡ Some c → flatten (nth y (inputs S x b T)) ≡ Some z → Small S x c z =
      λ y c z e s. elim (other_or_same n y (children t) p.0 c (subst (λ cs. nth y cs ≡ Some c) kids e)) [
        | inl i' ↦ subst (λ k'. Small S x k' z) (sym i'.1)
            (subst (λ k'. Small S x p.0 k') (some_same m.0 z (sym m.1 ∙ (ap (λ k'. flatten (nth k' (inputs S x t T))) (sym i'.0) ∙ (ap (λ os. flatten (nth y os)) (sym ins) ∙ s))))
            (fine_small S x p.0 m.0 child.1 inner))
        | inr i' ↦ small_part (y ∷ []) t c T z (fine_small S x t T u h) (ap (option_and_then (λ c'. sub_at c' [])) i')
            (bind (λ c'. option_and_then (λ y'. Some y') (flatten (nth y (inputs S x t T)))) (nth y (children t)) c (Some z) i'
            (ap (option_and_then (λ y'. Some y')) (ap (λ os. flatten (nth y os)) (sym ins) ∙ s)))
      ] in
      fine_as t b T u same kind h (small_node b T small_child (small_output t b T u same kind h))
