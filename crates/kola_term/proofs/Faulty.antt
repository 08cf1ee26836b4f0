-- The answer of the typing is the term's type or its first fault.
use Rattle.std.proofs.Common.{◌≡◌, ℕ, zero, suc, Bool, true, false, cond, ◌&&◌, Option, Some, None, refl, sym, ap, ap₂, ◌∙◌, subst, option_and_then, option_map, List, [], ◌∷◌, ◌++◌, ◌+◌, arith, Ok, Err}
use Rattle.kola_values.specs.Types.{TypeTree, TInt, TBool, TClass, TSet, TPair, same_type}
use Rattle.kola_values.specs.Databases.{Classes, attribute_type, extent_class, look_up}
use Rattle.kola_term.specs.Terms.{ConstTree, CInt, CBool, CStr, CSet, CExtent, CMeta, FunTree, FId, FFst, FSnd, FFlat, FUnion, FIsect, FMinus, FAttr, FComp, FPair, FTimes, FK, FC, FIf, FIterate, FIter, FJoin, FNest, FUnnest, FMeta, PredTree, PEq, PLt, PLe, PMember, PAt, PAnd, POr, PNot, PInv, PKP, PCP, PEx, PFa, PMeta, TermTree, TermF, TermP, TermC}
use Rattle.kola_core.specs.Integers.{in_64}
use Rattle.kola_term.specs.Literals.{set_type}
use Rattle.kola_term.specs.Typing.{MetaTree, MFun, MPred, Context, out, is_typed, const_type, first_type, second_type, member_type, twin_type, iter_type, one_of, const_of, fun_of, pred_of, is_some_type, the_if}
use Rattle.kola_term.specs.Places.{children, inputs, nth, flatten, sub_at, place}
use Rattle.kola_term.proofs.Inversions.{then_some, some_same, same_ty-equal}
use Rattle.kola_term.proofs.Introductions.{bind, then_if, pair_is, one_is, nest_is, when_is}
use Rattle.kola_term.specs.Faults.{TypeWhy, NotThisInput, OutputsDiffer, NoAttribute, NoExtent, WrongVariable, TypeTooLarge, small, lacks, attr_own, unless, fun_own, pred_own, const_own, own, numbers, order, outputs, Small, Fine, ChildFine, AllFine, f_own, f_child, f_outputs, f_large}
use Rattle.kola_term.specs.Judging.{Checked, under, and_then, kid, refused, sized, given, leaf, no_size, when_same, consting, typing, checking, set_out, Says}

-- ---- every child's number is in the order

pub data In : ℕ → List ℕ → Type 0 where
  first : {n : ℕ} {ns : List ℕ} → In n (n ∷ ns)
  later : {n m : ℕ} {ns : List ℕ} → In n ns → In n (m ∷ ns)

covers : (k : ℕ) (n : ℕ) (cs : List TermTree) (c : TermTree) → nth (suc n) cs ≡ Some c → In (k + n) (numbers k cs)
covers k n [] c e = absurd (cc)
covers k zero (b ∷ cs) c e = subst (λ z. In z (numbers k (b ∷ cs))) (sym (omega arith)) first
covers k (suc n) (b ∷ cs) c e = subst (λ z. In z (numbers k (b ∷ cs))) (omega arith) (later (covers (suc k) n cs c e))

no_zero : (cs : List TermTree) (c : TermTree) → nth zero cs ≡ Some c → ⊥
no_zero [] c e = absurd (cc)
no_zero (b ∷ cs) c e = absurd (cc)

covers_one : (n : ℕ) (cs : List TermTree) (c : TermTree) → nth n cs ≡ Some c → In n (numbers 1 cs)
covers_one zero cs c e = absurd (no_zero cs c e)
covers_one (suc n) cs c e = subst (λ z. In z (numbers 1 cs)) (omega arith) (covers 1 n cs c e)

covers_two : (n : ℕ) (a b c : TermTree) → nth n (a ∷ b ∷ []) ≡ Some c → In n (2 ∷ 1 ∷ [])
covers_two zero a b c e = absurd (cc)
covers_two (suc zero) a b c e = later first
covers_two (suc (suc zero)) a b c e = first
covers_two (suc (suc (suc n))) a b c e = absurd (cc)

pub in_order : (t : TermTree) (n : ℕ) (c : TermTree) → nth n (children t) ≡ Some c → In n (order t)
in_order (TermF (FComp f g)) n c e = covers_two n (TermF f) (TermF g) c e
in_order (TermF (FC f k)) n c e = covers_two n (TermF f) (TermC k) c e
in_order (TermP (PAt p f)) n c e = covers_two n (TermP p) (TermF f) c e
in_order (TermP (PCP p k)) n c e = covers_two n (TermP p) (TermC k) c e
in_order t n c e = covers_one n (children t) c e

module _ (S : Classes) (x : Context) where
  pub child_fine : (t : TermTree) (T : TypeTree) (n : ℕ) (ns : List ℕ) → In n ns → AllFine S x t T ns → ChildFine S x t T n
  child_fine t T n (m ∷ ns) first a = a.0
  child_fine t T n (m ∷ ns) (later i) a = child_fine t T n ns i a.1
  child_fine t T n [] i a = elim i [ ]

  pub fine_small : (c : TermTree) (w u : TypeTree) → Fine S x c w u → Small S x c w
  fine_small (TermF f) w u h = h.1
  fine_small (TermP p) w u h = h.1
  fine_small (TermC k) w u h = only
    where
      only : Small S x (TermC k) w
      only [] f w' u e = absurd (cc)
      only (n ∷ q) f w' u e = absurd (cc)

  -- small below, and at the node
  small_node : (t : TermTree) (T : TypeTree) → AllFine S x t T (order t) → ((f : FunTree) (u : TypeTree) → t ≡ TermF f → out S x f T ≡ Some u → small u ≡ true) → Small S x t T
  small_node t T a h [] f w u e p o = h f u (some_same t (TermF f) e) (ap (out S x f) (some_same T w p) ∙ o)
  small_node t T a h (n ∷ q) f w u e p o =
      let i = then_some (λ c. sub_at c q) (nth n (children t)) (TermF f) e in
      let j = then_some (λ c. option_and_then (λ z. place S x c z q) (flatten (nth n (inputs S x t T)))) (nth n (children t)) w p in
      let k = then_some (λ z. place S x j.0 z q) (flatten (nth n (inputs S x t T))) w j.2 in
      let g = child_fine t T n (order t) (in_order t n i.0 i.1) a in
      let c_is : g.c ≡ i.0 = some_same g.c i.0 (sym g.is ∙ i.1) in
      let c_at : g.c ≡ j.0 = some_same g.c j.0 (sym g.is ∙ j.1) in
      let w_is : g.w ≡ k.0 = some_same g.w k.0 (sym g.input ∙ k.1) in
      fine_small g.c g.w g.u g.fine q f w u (ap (λ z. sub_at z q) c_is ∙ i.2) (ap₂ (λ c z. place S x c z q) c_at w_is ∙ k.2) o

  -- ---- the parts of an answer

  step : (t : TermTree) (T : TypeTree) (before : List ℕ) (n : ℕ) (after : List ℕ) (c : TermTree) (w : TypeTree) (r : Checked) (k : TypeTree → Checked)
      → own S x t T ≡ None → order t ≡ before ++ (n ∷ after) → AllFine S x t T before → nth n (children t) ≡ Some c → flatten (nth n (inputs S x t T)) ≡ Some w → Says S x c w r
      → ((u : TypeTree) → Fine S x c w u → ChildFine S x t T n → Says S x t T (k u)) → Says S x t T (kid n r k)
  step t T before n after c w (Ok u) k o d a i p h g = g u h (record { c = c; w = w; u = u; is = i; input = p; fine = h })
  step t T before n after c w (Err e) k o d a i p h g = f_child before n after o d a i p h

  -- the last child, whose answer is the node's
  last : (t : TermTree) (T : TypeTree) (before : List ℕ) (n : ℕ) (after : List ℕ) (c : TermTree) (w : TypeTree) (r : Checked)
      → own S x t T ≡ None → order t ≡ before ++ (n ∷ after) → AllFine S x t T before → nth n (children t) ≡ Some c → flatten (nth n (inputs S x t T)) ≡ Some w → Says S x c w r
      → ((u : TypeTree) → Fine S x c w u → ChildFine S x t T n → Fine S x t T u) → Says S x t T (under n r)
  last t T before n after c w (Ok u) o d a i p h g = g u h (record { c = c; w = w; u = u; is = i; input = p; fine = h })
  last t T before n after c w (Err e) o d a i p h g = f_child before n after o d a i p h

  fine_fun : (f : FunTree) (T u : TypeTree) → AllFine S x (TermF f) T (order (TermF f)) → out S x f T ≡ Some u → small u ≡ true → Fine S x (TermF f) T u
  fine_fun f T u a e s = (e, small_node (TermF f) T a (λ g v q j. ap small (some_same v u (sym j ∙ (ap (λ z. out S x (one f z) T) (sym q) ∙ e))) ∙ s))
    where
      one : FunTree → TermTree → FunTree
      one g (TermF f) = f
      one g _ = g

  -- the output of a child
  same_output : (f : FunTree) (T u : TypeTree) (g : FunTree) (w : TypeTree) → AllFine S x (TermF f) T (order (TermF f)) → Fine S x (TermF g) w u → out S x f T ≡ Some u → Fine S x (TermF f) T u
  same_output f T u g w a h e = fine_fun f T u a e (h.1 [] g w u refl refl h.0)

  end : (f : FunTree) (T u : TypeTree) → own S x (TermF f) T ≡ None → AllFine S x (TermF f) T (order (TermF f)) → outputs S x (TermF f) T ≡ None → out S x f T ≡ Some u → Says S x (TermF f) T (sized true u)
  end f T u o a d e = at (small u) refl
    where
      at : (b : Bool) → small u ≡ b → Says S x (TermF f) T (cond b (Ok u) (refused TypeTooLarge))
      at true s = fine_fun f T u a e s
      at false s = f_large o a d e s

  given_says : (f : FunTree) (T : TypeTree) (o : Option TypeTree) → order (TermF f) ≡ [] → outputs S x (TermF f) T ≡ None → out S x f T ≡ o → (o ≡ None → own S x (TermF f) T ≡ Some NotThisInput) → ((u : TypeTree) → o ≡ Some u → own S x (TermF f) T ≡ None)
      → Says S x (TermF f) T (and_then (given o) (sized true))
  given_says f T None c d i h k = f_own (h refl)
  given_says f T (Some u) c d i h k = end f T u (k u refl) (subst (AllFine S x (TermF f) T) (sym c) tt) d i

  leaf_says : (f : FunTree) (T : TypeTree) (w : Option TypeWhy) (u : Option TypeTree) → order (TermF f) ≡ [] → outputs S x (TermF f) T ≡ None → own S x (TermF f) T ≡ w → out S x f T ≡ u → (w ≡ None → u ≡ None → ⊥) → Says S x (TermF f) T (leaf true w u)
  leaf_says f T (Some why) u c d e i h = f_own e
  leaf_says f T None (Some u) c d e i h = end f T u e (subst (AllFine S x (TermF f) T) (sym c) tt) d i
  leaf_says f T None None c d e i h = absurd (h refl refl)

  pred_end : (p : PredTree) (T u : TypeTree) → AllFine S x (TermP p) T (order (TermP p)) → is_typed S x p T ≡ true → Fine S x (TermP p) T u
  pred_end p T u a e = (e, small_node (TermP p) T a (λ g v q j. absurd (not_fun q)))
    where
      not_fun : {g : FunTree} → TermP p ≡ TermF g → ⊥
      not_fun q = absurd (cc)

  pred_says : (p : PredTree) (T : TypeTree) (w : Option TypeWhy) → order (TermP p) ≡ [] → own S x (TermP p) T ≡ w → (w ≡ None → is_typed S x p T ≡ true) → Says S x (TermP p) T (no_size w (Some TBool))
  pred_says p T (Some why) c e h = f_own e
  pred_says p T None c e h = pred_end p T TBool (subst (AllFine S x (TermP p) T) (sym c) tt) (h refl)

  -- ---- leaves

  lacks_none : (why : TypeWhy) (o : Option TypeTree) → lacks why o ≡ None → o ≡ None → ⊥
  lacks_none why (Some t) e h = absurd (cc)
  lacks_none why None e h = absurd (cc)

  lacks_it : (o : Option TypeTree) → o ≡ None → lacks NotThisInput o ≡ Some NotThisInput
  lacks_it o e = ap (lacks NotThisInput) e

  has_it : (o : Option TypeTree) (u : TypeTree) → o ≡ Some u → lacks NotThisInput o ≡ None
  has_it o u e = ap (lacks NotThisInput) e

  lacks_set : (o : Option TypeTree) → option_map TSet o ≡ None → lacks NotThisInput o ≡ Some NotThisInput
  lacks_set (Some t) e = absurd (cc)
  lacks_set None e = refl

  has_set : (o : Option TypeTree) (u : TypeTree) → option_map TSet o ≡ Some u → lacks NotThisInput o ≡ None
  has_set (Some t) u e = refl
  has_set None u e = absurd (cc)

  is_some_of : (why : TypeWhy) (o : Option TypeTree) → lacks why o ≡ None → is_some_type o ≡ true
  is_some_of why (Some t) e = refl
  is_some_of why None e = absurd (cc)

  attr_none : (a : List ℕ) (T : TypeTree) → attr_own S a T ≡ None → out S x (FAttr a) T ≡ None → ⊥
  attr_none a (TClass c) e h = lacks_none NoAttribute (attribute_type S c a) e h
  attr_none a _ e h = absurd (cc)

  fun_none : (o : Option MetaTree) (T : TypeTree) → fun_own o T ≡ None → fun_of o T ≡ None → ⊥
  fun_none (Some (MFun t u)) T e h = at (same_type t T) e h
    where
      at : (b : Bool) → unless b NotThisInput ≡ None → cond b (Some u) None ≡ None → ⊥
      at true e h = absurd (cc)
      at false e h = absurd (cc)
  fun_none _ T e h = absurd (cc)

  pred_none : (o : Option MetaTree) (T : TypeTree) → pred_own o T ≡ None → pred_of o T ≡ true
  pred_none (Some (MPred t)) T e = at (same_type t T) e
    where
      at : (b : Bool) → unless b NotThisInput ≡ None → b ≡ true
      at true e = refl
      at false e = absurd (cc)
  pred_none _ T e = absurd (cc)

  pub const_says : (c : ConstTree) (T : TypeTree) → Says S x (TermC c) T (consting S x c)
  const_says c T = at (const_own S x c) (const_type S x c) refl refl (none c)
    where
      num : (b : Bool) → unless b NotThisInput ≡ None → the_if b (Some TInt) ≡ None → ⊥
      num true e h = absurd (cc)
      num false e h = absurd (cc)

      ext : (o : Option (List ℕ)) → lacks NoExtent o ≡ None → option_map (λ c. TSet (TClass c)) o ≡ None → ⊥
      ext (Some c) e h = absurd (cc)
      ext None e h = absurd (cc)

      none : (c : ConstTree) → const_own S x c ≡ None → const_type S x c ≡ None → ⊥
      none (CInt z) e h = num (in_64 z) e h
      none (CBool b) e h = absurd (cc)
      none (CStr s) e h = absurd (cc)
      none (CSet vs) e h = lacks_none NotThisInput (set_type vs) e h
      none (CExtent n) e h = ext (extent_class S n) e h
      none (CMeta n) e h = lacks_none WrongVariable (const_of (look_up n x)) e h

      at : (w : Option TypeWhy) (u : Option TypeTree) → const_own S x c ≡ w → const_type S x c ≡ u → (const_own S x c ≡ None → const_type S x c ≡ None → ⊥) → Says S x (TermC c) T (no_size w u)
      at (Some why) u e i h = f_own e
      at None (Some u) e i h = i
      at None None e i h = absurd (h e i)

  -- ---- the parts that compare outputs

  same_says : (f : FunTree) (T : TypeTree) (r : Checked) (b : Bool) → own S x (TermF f) T ≡ None → AllFine S x (TermF f) T (order (TermF f)) → (b ≡ false → outputs S x (TermF f) T ≡ Some OutputsDiffer) → (b ≡ true → Says S x (TermF f) T r)
      → Says S x (TermF f) T (when_same b r)
  same_says f T r true o a h e = e refl
  same_says f T r false o a h e = f_outputs o a (h refl)

  differ : (t u : TypeTree) (o p : Option TypeTree) → o ≡ Some t → p ≡ Some u → same_type t u ≡ false → lacks OutputsDiffer (one_of o p) ≡ Some OutputsDiffer
  differ t u o p e h d = ap₂ (λ a b. lacks OutputsDiffer (one_of a b)) e h ∙ ap (λ b. lacks OutputsDiffer (cond b (Some t) None)) d

  agree : (t u : TypeTree) (o p : Option TypeTree) → o ≡ Some t → p ≡ Some u → same_type t u ≡ true → lacks OutputsDiffer (one_of o p) ≡ None
  agree t u o p e h d = ap₂ (λ a b. lacks OutputsDiffer (one_of a b)) e h ∙ ap (λ b. lacks OutputsDiffer (cond b (Some t) None)) d

  unnested : (f g : FunTree) (m u : TypeTree) → out S x f m ≡ Some u → (v : TypeTree) → out S x g m ≡ Some v → AllFine S x (TermF (FUnnest f g)) (TSet m) (1 ∷ 2 ∷ []) → Says S x (TermF (FUnnest f g)) (TSet m) (set_out v (λ z. sized true (TSet (TPair u z))))
  unnested f g m u h (TSet z) k a = end (FUnnest f g) (TSet m) (TSet (TPair u z)) refl a (ap (λ o. lacks OutputsDiffer (option_and_then member_type o)) k) (ap (option_map TSet) (pair_is _ _ u z h (ap (option_and_then member_type) k)))
  unnested f g m u h _ k a = f_outputs refl a (ap (λ o. lacks OutputsDiffer (option_and_then member_type o)) k)

  -- ---- the nodes

  mutual
    pub says : (f : FunTree) (T : TypeTree) → Says S x (TermF f) T (typing S x true f T)
    says (FComp f g) T =
        step (TermF (FComp f g)) T [] 2 (1 ∷ []) (TermF g) T (typing S x true g T) _ refl refl tt refl refl (says g T) (λ u h a.
        last (TermF (FComp f g)) T (2 ∷ []) 1 [] (TermF f) u (typing S x true f u) refl refl (a, tt) refl h.0 (says f u) (λ v k b.
        same_output (FComp f g) T v f u (a, (b, tt)) k (bind (λ w. out S x f w) (out S x g T) u (Some v) h.0 k.0)))
    says (FPair f g) T =
        step (TermF (FPair f g)) T [] 1 (2 ∷ []) (TermF f) T (typing S x true f T) _ refl refl tt refl refl (says f T) (λ u h a.
        step (TermF (FPair f g)) T (1 ∷ []) 2 [] (TermF g) T (typing S x true g T) _ refl refl (a, tt) refl refl (says g T) (λ v k b.
        end (FPair f g) T (TPair u v) refl (a, (b, tt)) refl (pair_is _ _ u v h.0 k.0)))
    says (FTimes f g) (TPair t w) =
        step (TermF (FTimes f g)) (TPair t w) [] 1 (2 ∷ []) (TermF f) t (typing S x true f t) _ refl refl tt refl refl (says f t) (λ u h a.
        step (TermF (FTimes f g)) (TPair t w) (1 ∷ []) 2 [] (TermF g) w (typing S x true g w) _ refl refl (a, tt) refl refl (says g w) (λ v k b.
        end (FTimes f g) (TPair t w) (TPair u v) refl (a, (b, tt)) refl (pair_is _ _ u v h.0 k.0)))
    says (FTimes f g) _ = f_own refl
    says (FK c) T = step (TermF (FK c)) T [] 1 [] (TermC c) T (consting S x c) _ refl refl tt refl refl (const_says c T) (λ u h a. end (FK c) T u refl (a, tt) refl h)
    says (FC f c) T =
        step (TermF (FC f c)) T [] 2 (1 ∷ []) (TermC c) T (consting S x c) _ refl refl tt refl refl (const_says c T) (λ u h a.
        last (TermF (FC f c)) T (2 ∷ []) 1 [] (TermF f) (TPair u T) (typing S x true f (TPair u T)) refl refl (a, tt) refl (ap (option_map (λ z. TPair z T)) h) (says f (TPair u T)) (λ v k b.
        same_output (FC f c) T v f (TPair u T) (a, (b, tt)) k (bind (λ w. out S x f (TPair w T)) (const_type S x c) u (Some v) h k.0)))
    says (FIf p f g) T =
        step (TermF (FIf p f g)) T [] 1 (2 ∷ 3 ∷ []) (TermP p) T (checking S x true p T) _ refl refl tt refl refl (pred_ok_says p T) (λ y l c.
        step (TermF (FIf p f g)) T (1 ∷ []) 2 (3 ∷ []) (TermF f) T (typing S x true f T) _ refl refl (c, tt) refl refl (says f T) (λ u h a.
        step (TermF (FIf p f g)) T (1 ∷ 2 ∷ []) 3 [] (TermF g) T (typing S x true g T) _ refl refl (c, (a, tt)) refl refl (says g T) (λ v k b.
        same_says (FIf p f g) T (Ok u) (same_type u v) refl (c, (a, (b, tt))) (λ d. differ u v _ _ h.0 k.0 d)
        (λ d. same_output (FIf p f g) T u f T (c, (a, (b, tt))) h (then_if _ _ u l.0 (one_is _ _ u h.0 (k.0 ∙ ap Some (sym (same_ty-equal u v d)))))))))
    says (FIterate p f) (TSet m) =
        step (TermF (FIterate p f)) (TSet m) [] 1 (2 ∷ []) (TermP p) m (checking S x true p m) _ refl refl tt refl refl (pred_ok_says p m) (λ y l c.
        step (TermF (FIterate p f)) (TSet m) (1 ∷ []) 2 [] (TermF f) m (typing S x true f m) _ refl refl (c, tt) refl refl (says f m) (λ u h a.
        end (FIterate p f) (TSet m) (TSet u) refl (c, (a, tt)) refl (then_if _ _ (TSet u) l.0 (ap (option_map TSet) h.0))))
    says (FIterate p f) _ = f_own refl
    says (FIter p f) (TPair t (TSet w)) =
        step (TermF (FIter p f)) (TPair t (TSet w)) [] 1 (2 ∷ []) (TermP p) (TPair t w) (checking S x true p (TPair t w)) _ refl refl tt refl refl (pred_ok_says p (TPair t w)) (λ y l c.
        step (TermF (FIter p f)) (TPair t (TSet w)) (1 ∷ []) 2 [] (TermF f) (TPair t w) (typing S x true f (TPair t w)) _ refl refl (c, tt) refl refl (says f (TPair t w)) (λ u h a.
        end (FIter p f) (TPair t (TSet w)) (TSet u) refl (c, (a, tt)) refl (then_if _ _ (TSet u) l.0 (ap (option_map TSet) h.0))))
    says (FIter p f) _ = f_own refl
    says (FJoin p f) (TPair (TSet t) (TSet w)) =
        step (TermF (FJoin p f)) (TPair (TSet t) (TSet w)) [] 1 (2 ∷ []) (TermP p) (TPair t w) (checking S x true p (TPair t w)) _ refl refl tt refl refl (pred_ok_says p (TPair t w)) (λ y l c.
        step (TermF (FJoin p f)) (TPair (TSet t) (TSet w)) (1 ∷ []) 2 [] (TermF f) (TPair t w) (typing S x true f (TPair t w)) _ refl refl (c, tt) refl refl (says f (TPair t w)) (λ u h a.
        end (FJoin p f) (TPair (TSet t) (TSet w)) (TSet u) refl (c, (a, tt)) refl (then_if _ _ (TSet u) l.0 (ap (option_map TSet) h.0))))
    says (FJoin p f) _ = f_own refl
    says (FNest f g) (TPair (TSet t) (TSet w)) =
        step (TermF (FNest f g)) (TPair (TSet t) (TSet w)) [] 1 (2 ∷ []) (TermF f) t (typing S x true f t) _ refl refl tt refl refl (says f t) (λ u h a.
        step (TermF (FNest f g)) (TPair (TSet t) (TSet w)) (1 ∷ []) 2 [] (TermF g) t (typing S x true g t) _ refl refl (a, tt) refl refl (says g t) (λ v k b.
        same_says (FNest f g) (TPair (TSet t) (TSet w)) (sized true (TSet (TPair u (TSet v)))) (same_type u w) refl (a, (b, tt)) (λ d. differ u w _ _ h.0 refl d)
        (λ d. end (FNest f g) (TPair (TSet t) (TSet w)) (TSet (TPair u (TSet v))) refl (a, (b, tt)) (agree u w _ _ h.0 refl d)
        (nest_is _ _ t w v (h.0 ∙ ap Some (same_ty-equal u w d)) k.0 ∙ ap (λ z. Some (TSet (TPair z (TSet v)))) (sym (same_ty-equal u w d))))))
    says (FNest f g) _ = f_own refl
    says (FUnnest f g) (TSet m) =
        step (TermF (FUnnest f g)) (TSet m) [] 1 (2 ∷ []) (TermF f) m (typing S x true f m) _ refl refl tt refl refl (says f m) (λ u h a.
        step (TermF (FUnnest f g)) (TSet m) (1 ∷ []) 2 [] (TermF g) m (typing S x true g m) _ refl refl (a, tt) refl refl (says g m) (λ v k b.
        unnested f g m u h.0 v k.0 (a, (b, tt))))
    says (FUnnest f g) _ = f_own refl
    says FId T = end FId T T refl tt refl refl
    says FFst T = given_says FFst T (first_type T) refl refl refl (lacks_it (first_type T)) (has_it (first_type T))
    says FSnd T = given_says FSnd T (second_type T) refl refl refl (lacks_it (second_type T)) (has_it (second_type T))
    says FFlat T = given_says FFlat T (option_map TSet (option_and_then member_type (member_type T))) refl refl refl (lacks_set (option_and_then member_type (member_type T))) (has_set (option_and_then member_type (member_type T)))
    says FUnion T = given_says FUnion T (option_map TSet (option_and_then member_type (twin_type T))) refl refl refl (lacks_set (option_and_then member_type (twin_type T))) (has_set (option_and_then member_type (twin_type T)))
    says FIsect T = given_says FIsect T (option_map TSet (option_and_then member_type (twin_type T))) refl refl refl (lacks_set (option_and_then member_type (twin_type T))) (has_set (option_and_then member_type (twin_type T)))
    says FMinus T = given_says FMinus T (option_map TSet (option_and_then member_type (twin_type T))) refl refl refl (lacks_set (option_and_then member_type (twin_type T))) (has_set (option_and_then member_type (twin_type T)))
    says (FAttr n) T = leaf_says (FAttr n) T (own S x (TermF (FAttr n)) T) (out S x (FAttr n) T) refl refl refl refl (attr_none n T)
    says (FMeta n) T = leaf_says (FMeta n) T (own S x (TermF (FMeta n)) T) (out S x (FMeta n) T) refl refl refl refl (fun_none (look_up n x) T)

    pub pred_ok_says : (p : PredTree) (T : TypeTree) → Says S x (TermP p) T (checking S x true p T)
    pred_ok_says (PAt p f) T =
        step (TermP (PAt p f)) T [] 2 (1 ∷ []) (TermF f) T (typing S x true f T) _ refl refl tt refl refl (says f T) (λ u h a.
        last (TermP (PAt p f)) T (2 ∷ []) 1 [] (TermP p) u (checking S x true p u) refl refl (a, tt) refl h.0 (pred_ok_says p u) (λ v k b.
        pred_end (PAt p f) T v (a, (b, tt)) (when_is (out S x f T) (λ w. is_typed S x p w) u h.0 k.0)))
    pred_ok_says (PAnd p q) T =
        step (TermP (PAnd p q)) T [] 1 (2 ∷ []) (TermP p) T (checking S x true p T) _ refl refl tt refl refl (pred_ok_says p T) (λ u h a.
        last (TermP (PAnd p q)) T (1 ∷ []) 2 [] (TermP q) T (checking S x true q T) refl refl (a, tt) refl refl (pred_ok_says q T) (λ v k b.
        pred_end (PAnd p q) T v (a, (b, tt)) (ap₂ (λ y z. y && z) h.0 k.0)))
    pred_ok_says (POr p q) T =
        step (TermP (POr p q)) T [] 1 (2 ∷ []) (TermP p) T (checking S x true p T) _ refl refl tt refl refl (pred_ok_says p T) (λ u h a.
        last (TermP (POr p q)) T (1 ∷ []) 2 [] (TermP q) T (checking S x true q T) refl refl (a, tt) refl refl (pred_ok_says q T) (λ v k b.
        pred_end (POr p q) T v (a, (b, tt)) (ap₂ (λ y z. y && z) h.0 k.0)))
    pred_ok_says (PNot p) T = last (TermP (PNot p)) T [] 1 [] (TermP p) T (checking S x true p T) refl refl tt refl refl (pred_ok_says p T) (λ u h a. pred_end (PNot p) T u (a, tt) h.0)
    pred_ok_says (PInv p) (TPair t w) = last (TermP (PInv p)) (TPair t w) [] 1 [] (TermP p) (TPair w t) (checking S x true p (TPair w t)) refl refl tt refl refl (pred_ok_says p (TPair w t)) (λ u h a. pred_end (PInv p) (TPair t w) u (a, tt) h.0)
    pred_ok_says (PInv p) _ = f_own refl
    pred_ok_says (PCP p c) T =
        step (TermP (PCP p c)) T [] 2 (1 ∷ []) (TermC c) T (consting S x c) _ refl refl tt refl refl (const_says c T) (λ u h a.
        last (TermP (PCP p c)) T (2 ∷ []) 1 [] (TermP p) (TPair u T) (checking S x true p (TPair u T)) refl refl (a, tt) refl (ap (option_map (λ z. TPair z T)) h) (pred_ok_says p (TPair u T)) (λ v k b.
        pred_end (PCP p c) T v (a, (b, tt)) (when_is (const_type S x c) (λ w. is_typed S x p (TPair w T)) u h k.0)))
    pred_ok_says (PEx p) (TPair t (TSet w)) = last (TermP (PEx p)) (TPair t (TSet w)) [] 1 [] (TermP p) (TPair t w) (checking S x true p (TPair t w)) refl refl tt refl refl (pred_ok_says p (TPair t w)) (λ u h a. pred_end (PEx p) (TPair t (TSet w)) u (a, tt) h.0)
    pred_ok_says (PEx p) _ = f_own refl
    pred_ok_says (PFa p) (TPair t (TSet w)) = last (TermP (PFa p)) (TPair t (TSet w)) [] 1 [] (TermP p) (TPair t w) (checking S x true p (TPair t w)) refl refl tt refl refl (pred_ok_says p (TPair t w)) (λ u h a. pred_end (PFa p) (TPair t (TSet w)) u (a, tt) h.0)
    pred_ok_says (PFa p) _ = f_own refl
    pred_ok_says PEq T = pred_says PEq T (own S x (TermP PEq) T) refl refl (is_some_of NotThisInput (twin_type T))
    pred_ok_says PLt T = pred_says PLt T (own S x (TermP PLt) T) refl refl (is_some_of NotThisInput (twin_type T))
    pred_ok_says PLe T = pred_says PLe T (own S x (TermP PLe) T) refl refl (is_some_of NotThisInput (twin_type T))
    pred_ok_says PMember T = pred_says PMember T (own S x (TermP PMember) T) refl refl (is_some_of NotThisInput (option_and_then twin_type (iter_type T)))
    pred_ok_says (PKP b) T = pred_end (PKP b) T TBool tt refl
    pred_ok_says (PMeta n) T = pred_says (PMeta n) T (own S x (TermP (PMeta n)) T) refl refl (pred_none (look_up n x) T)
