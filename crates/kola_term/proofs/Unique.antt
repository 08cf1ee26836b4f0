-- A term is fine or has one first fault, and not both.
use Rattle.std.proofs.Common.{◌≡◌, ℕ, true, false, ◌⊎◌, inl, inr, Option, Some, None, refl, sym, ap, ap₂, ◌∙◌, subst, option_and_then, option_map, List, [], ◌∷◌, ◌++◌, Ok, Err}
use Rattle.kola_values.specs.Types.{TypeTree, TInt, TClass, TSet}
use Rattle.kola_values.specs.Databases.{Classes, extent_class, look_up}
use Rattle.kola_term.specs.Terms.{ConstTree, CInt, CBool, CStr, CSet, CExtent, CMeta, FunTree, FFst, FSnd, FFlat, FUnion, FIsect, FMinus, FAttr, FTimes, FIf, FIterate, FIter, FJoin, FNest, FUnnest, FMeta, PEq, PLt, PLe, PMember, PInv, PEx, PFa, PMeta, TermTree, TermF, TermP, TermC}
use Rattle.kola_core.specs.Integers.{in_64}
use Rattle.kola_term.specs.Typing.{Context, out, is_typed, const_type, first_type, second_type, member_type, twin_type, iter_type, join_type, pair_of, one_of, nest_of, is_some_type, the_if}
use Rattle.kola_term.specs.Places.{children, inputs, nth, flatten, sub_at, place, Typed}
use Rattle.kola_term.proofs.Inversions.{then_some, some_same, map_some, if_some, pair_some, join_some, nest_some, when_true}
use Rattle.kola_term.proofs.Paths.{parts_typed}
use Rattle.kola_term.proofs.Introductions.{bind, pair_is, one_is, some_ty, fun_some, pred_some, same_ty_itself}
use Rattle.kola_term.specs.Faults.{TypeWhy, NotThisInput, OutputsDiffer, NoAttribute, NoExtent, WrongVariable, lacks, attr_own, unless, fun_own, pred_own, const_own, own, order, outputs, Small, Fine, ChildFine, FaultAt, f_own, f_child, f_outputs, f_large}
use Rattle.kola_term.specs.Judging.{Checked, typing, judged, Says}
use Rattle.kola_term.proofs.Paths.{nth_both}
use Rattle.kola_term.proofs.Faulty.{In, first, later, child_fine, says, pred_ok_says, const_says}

splits : (ms ks a b : List ℕ) (n m : ℕ) → ms ++ (n ∷ a) ≡ ks ++ (m ∷ b) → (n ≡ m) ⊎ (In n ks ⊎ In m ms)
splits [] [] a b n m e = inl (cc)
splits [] (k ∷ ks) a b n m e = inr (inl (let p : k ≡ n = cc in subst (λ z. In z (k ∷ ks)) p first))
splits (k ∷ ms) [] a b n m e = inr (inr (let p : k ≡ m = cc in subst (λ z. In z (k ∷ ms)) p first))
splits (k ∷ ms) (l ∷ ks) a b n m e = elim (splits ms ks a b n m (cc)) [ inl p ↦ inl p | inr q ↦ elim q [ inl i ↦ inr (inl (later i)) | inr i ↦ inr (inr (later i)) ] ]

in_split : (ms a : List ℕ) (n : ℕ) → In n (ms ++ (n ∷ a))
in_split [] a n = first
in_split (m ∷ ms) a n = later (in_split ms a n)

module _ (S : Classes) (x : Context) where
  own_const : (c : ConstTree) (u : TypeTree) → const_type S x c ≡ Some u → const_own S x c ≡ None
  own_const (CInt z) u e = let p = if_some (in_64 z) (Some TInt) u e in ap (λ b. unless b NotThisInput) p.0
  own_const (CBool b) u e = refl
  own_const (CStr s) u e = refl
  own_const (CSet vs) u e = ap (lacks NotThisInput) e
  own_const (CExtent n) u e = let p = map_some (λ c. TSet (TClass c)) (extent_class S n) u e in ap (lacks NoExtent) p.1
  own_const (CMeta n) u e = ap (lacks WrongVariable) e

  own_attr : (a : List ℕ) (T u : TypeTree) → out S x (FAttr a) T ≡ Some u → attr_own S a T ≡ None
  own_attr a (TClass c) u e = ap (lacks NoAttribute) e
  own_attr a _ u e = absurd (cc)

  own_sets : (o : Option TypeTree) (u : TypeTree) → option_map TSet o ≡ Some u → lacks NotThisInput o ≡ None
  own_sets o u e = let p = map_some TSet o u e in ap (lacks NotThisInput) p.1

  own_tests : (o : Option TypeTree) → is_some_type o ≡ true → lacks NotThisInput o ≡ None
  own_tests o e = let p = some_ty o e in ap (lacks NotThisInput) p.1

  own_none : (t : TermTree) (T : TypeTree) → Typed S x t T → own S x t T ≡ None
  own_none (TermF FFst) T h = ap (lacks NotThisInput) h.1
  own_none (TermF FSnd) T h = ap (lacks NotThisInput) h.1
  own_none (TermF FFlat) T h = own_sets (option_and_then member_type (member_type T)) h.0 h.1
  own_none (TermF FUnion) T h = own_sets (option_and_then member_type (twin_type T)) h.0 h.1
  own_none (TermF FIsect) T h = own_sets (option_and_then member_type (twin_type T)) h.0 h.1
  own_none (TermF FMinus) T h = own_sets (option_and_then member_type (twin_type T)) h.0 h.1
  own_none (TermF (FAttr a)) T h = own_attr a T h.0 h.1
  own_none (TermF (FTimes f g)) T h =
      let p = pair_some (option_and_then (λ u. out S x f u) (first_type T)) (option_and_then (λ u. out S x g u) (second_type T)) h.0 h.1 in
      let q = then_some (λ u. out S x f u) (first_type T) p.0 p.2 in
      let r = then_some (λ u. out S x g u) (second_type T) p.1 p.3 in
      ap (lacks NotThisInput) (pair_is (first_type T) (second_type T) q.0 r.0 q.1 r.1)
  own_none (TermF (FIterate p f)) T h = let q = then_some (λ u. the_if (is_typed S x p u) (option_map TSet (out S x f u))) (member_type T) h.0 h.1 in ap (lacks NotThisInput) q.1
  own_none (TermF (FIter p f)) T h = let q = then_some (λ u. the_if (is_typed S x p u) (option_map TSet (out S x f u))) (iter_type T) h.0 h.1 in ap (lacks NotThisInput) q.1
  own_none (TermF (FJoin p f)) T h = let q = then_some (λ u. the_if (is_typed S x p u) (option_map TSet (out S x f u))) (join_type T) h.0 h.1 in ap (lacks NotThisInput) q.1
  own_none (TermF (FNest f g)) T h = let q = then_some (λ w. option_and_then (λ u. nest_of (out S x f u) (out S x g u) w) (first_type w)) (join_type T) h.0 h.1 in ap (lacks NotThisInput) q.1
  own_none (TermF (FUnnest f g)) T h = let q = then_some (λ u. option_map TSet (pair_of (out S x f u) (option_and_then member_type (out S x g u)))) (member_type T) h.0 h.1 in ap (lacks NotThisInput) q.1
  own_none (TermF (FMeta n)) T h = let q = fun_some (look_up n x) T h.0 h.1 in ap (λ o. fun_own o T) q ∙ ap (λ b. unless b NotThisInput) (same_ty_itself T)
  own_none (TermP PEq) T h = own_tests (twin_type T) h
  own_none (TermP PLt) T h = own_tests (twin_type T) h
  own_none (TermP PLe) T h = own_tests (twin_type T) h
  own_none (TermP PMember) T h = own_tests (option_and_then twin_type (iter_type T)) h
  own_none (TermP (PInv p)) T h =
      let q = when_true (pair_of (second_type T) (first_type T)) (λ u. is_typed S x p u) h in
      let r = pair_some (second_type T) (first_type T) q.0 q.1 in
      ap (lacks NotThisInput) (pair_is (first_type T) (second_type T) r.1 r.0 r.3 r.2)
  own_none (TermP (PEx p)) T h = let q = when_true (iter_type T) (λ u. is_typed S x p u) h in ap (lacks NotThisInput) q.1
  own_none (TermP (PFa p)) T h = let q = when_true (iter_type T) (λ u. is_typed S x p u) h in ap (lacks NotThisInput) q.1
  own_none (TermP (PMeta n)) T h = let q = pred_some (look_up n x) T h in ap (λ o. pred_own o T) q ∙ ap (λ b. unless b NotThisInput) (same_ty_itself T)
  own_none (TermC c) T h = own_const c h.0 h.1
  own_none _ T h = refl

  outputs_none : (t : TermTree) (T : TypeTree) → Typed S x t T → outputs S x t T ≡ None
  outputs_none (TermF (FIf p f g)) T h =
      let q = if_some (is_typed S x p T) (one_of (out S x f T) (out S x g T)) h.0 h.1 in ap (lacks OutputsDiffer) q.1
  outputs_none (TermF (FNest f g)) T h =
      let q = then_some (λ w. option_and_then (λ u. nest_of (out S x f u) (out S x g u) w) (first_type w)) (join_type T) h.0 h.1 in
      let r = join_some T q.0 q.1 in
      let j = then_some (λ u. nest_of (out S x f u) (out S x g u) q.0) (first_type q.0) h.0 q.2 in
      let n = nest_some (out S x f j.0) (out S x g j.0) r.0 r.1 h.0 (subst (λ w. nest_of (out S x f j.0) (out S x g j.0) w ≡ Some h.0) r.3 j.2) in
      ap (lacks OutputsDiffer) (bind (λ w. option_and_then (λ u. one_of (out S x f u) (second_type w)) (first_type w)) (join_type T) q.0 (Some r.1) q.1
      (bind (λ u. one_of (out S x f u) (second_type q.0)) (first_type q.0) j.0 (Some r.1) j.1 (one_is _ _ r.1 n.1 (ap second_type r.3))))
  outputs_none (TermF (FUnnest f g)) T h =
      let q = then_some (λ u. option_map TSet (pair_of (out S x f u) (option_and_then member_type (out S x g u)))) (member_type T) h.0 h.1 in
      let k = map_some TSet (pair_of (out S x f q.0) (option_and_then member_type (out S x g q.0))) h.0 q.2 in
      let r = pair_some (out S x f q.0) (option_and_then member_type (out S x g q.0)) k.0 k.1 in
      ap (lacks OutputsDiffer) (bind (λ u. option_and_then member_type (out S x g u)) (member_type T) q.0 (Some r.1) q.1 r.3)
  outputs_none _ T h = refl

  fine_typed : (t : TermTree) (T u : TypeTree) → Fine S x t T u → Typed S x t T
  fine_typed (TermF f) T u h = (u, h.0)
  fine_typed (TermP p) T u h = h.0
  fine_typed (TermC c) T u h = (u, h)

  small_of : (t : TermTree) (T u : TypeTree) → Fine S x t T u → Small S x t T
  small_of (TermF f) T u h = h.1
  small_of (TermP p) T u h = h.1
  small_of (TermC c) T u h = only
    where
      only : Small S x (TermC c) T
      only [] f w v e = absurd (cc)
      only (n ∷ q) f w v e = absurd (cc)

  make_fine : (c : TermTree) (w : TypeTree) → Typed S x c w → Small S x c w → (u : TypeTree) × Fine S x c w u
  make_fine (TermF f) w h s = (h.0, (h.1, s))
  make_fine (TermP p) w h s = (w, (h, s))
  make_fine (TermC c) w h s = (h.0, h.1)

  -- a child of a fine node is fine
  child_of_fine : (t : TermTree) (T u : TypeTree) (n : ℕ) (c : TermTree) (w : TypeTree) → Fine S x t T u → nth n (children t) ≡ Some c → flatten (nth n (inputs S x t T)) ≡ Some w → (v : TypeTree) × Fine S x c w v
  child_of_fine t T u n c w h e p =
      let o = nth_both S x n (inputs S x t T) (children t) c (parts_typed S x t T (fine_typed t T u h)) e in
      let w_is : o.0 ≡ w = some_same o.0 w (sym o.1 ∙ p) in
      make_fine c w (subst (λ z. Typed S x c z) w_is o.2) (λ q f y v s l k.
      small_of t T u h (n ∷ q) f y v (bind (λ z. sub_at z q) (nth n (children t)) c (Some (TermF f)) e s)
      (bind (λ z. option_and_then (λ y. place S x z y q) (flatten (nth n (inputs S x t T)))) (nth n (children t)) c (Some y) e (bind (λ y. place S x c y q) (flatten (nth n (inputs S x t T))) w (Some y) p l)) k)

  clash : {A : Type 0} (o : Option A) (a : A) → o ≡ Some a → o ≡ None → ⊥
  clash o a e h = let p : None ≡ Some a = sym h ∙ e in absurd (cc)

  pub no_fault : (t : TermTree) (T u : TypeTree) (q : List ℕ) (why : TypeWhy) → FaultAt S x t T q why → Fine S x t T u → ⊥
  no_fault t T u q why (f_own e) h = clash (own S x t T) why e (own_none t T (fine_typed t T u h))
  no_fault t T u q why (f_child {c = c} {w = w} {q = p} before n after o d a i j f) h = let g = child_of_fine t T u n c w h i j in no_fault c w g.0 p why f g.1
  no_fault t T u q why (f_outputs o a d) h = clash (outputs S x t T) why d (outputs_none t T (fine_typed t T u h))
  no_fault t T u q why (f_large {f = f} {u = v} o a d e s) h = let p : true ≡ false = sym (h.1 [] f T v refl refl e) ∙ s in absurd (cc)

  child_fault : (t c : TermTree) (T w : TypeTree) (n : ℕ) (q : List ℕ) (why : TypeWhy) → nth n (children t) ≡ Some c → flatten (nth n (inputs S x t T)) ≡ Some w → FaultAt S x c w q why → ChildFine S x t T n → ⊥
  child_fault t c T w n q why i j f g =
      let c_is : g.c ≡ c = some_same g.c c (sym g.is ∙ i) in
      let w_is : g.w ≡ w = some_same g.w w (sym g.input ∙ j) in
      no_fault c w g.u q why f (subst (λ z. Fine S x z w g.u) c_is (subst (λ z. Fine S x g.c z g.u) w_is g.fine))

  pub one_fault : (t : TermTree) (T : TypeTree) (q p : List ℕ) (why how : TypeWhy) → FaultAt S x t T q why → FaultAt S x t T p how → (q ≡ p) × (why ≡ how)
  one_fault t T q p why how (f_own e) (f_own h) = (refl, some_same why how (sym e ∙ h))
  one_fault t T q p why how (f_own e) (f_child before n after o d a i j f) = absurd (clash (own S x t T) why e o)
  one_fault t T q p why how (f_own e) (f_outputs o a d) = absurd (clash (own S x t T) why e o)
  one_fault t T q p why how (f_own e) (f_large {f = f} o a d k s) = absurd (clash (own S x (TermF f) T) why e o)
  one_fault t T q p why how (f_child before n after o d a i j f) (f_own h) = absurd (clash (own S x t T) how h o)
  one_fault t T q p why how (f_child {c = c} {w = w} {q = q'} before n after o d a i j f) (f_child {c = c'} {w = w'} {q = p'} before' m after' o' d' a' i' j' f') =
      elim (splits before before' after after' n m (sym d ∙ d')) [
        | inl e ↦
            let c_is : c ≡ c' = some_same c c' (sym i ∙ (ap (λ z. nth z (children t)) e ∙ i')) in
            let w_is : w ≡ w' = some_same w w' (sym j ∙ (ap (λ z. flatten (nth z (inputs S x t T))) e ∙ j')) in
            let r = one_fault c' w' q' p' why how (subst (λ z. FaultAt S x z w' q' why) c_is (subst (λ z. FaultAt S x c z q' why) w_is f)) f' in
            (ap₂ (λ a b. a ∷ b) e r.0, r.1)
        | inr e ↦ elim e [
          | inl k ↦ absurd (child_fault t c T w n q' why i j f (child_fine S x t T n before' k a'))
          | inr k ↦ absurd (child_fault t c' T w' m p' how i' j' f' (child_fine S x t T m before k a))
        ]
      ]
  one_fault t T q p why how (f_child {c = c} {w = w} {q = q'} before n after o d a i j f) (f_outputs o' a' d') =
      absurd (child_fault t c T w n q' why i j f (child_fine S x t T n (order t) (subst (λ z. In n z) (sym d) (in_split before after n)) a'))
  one_fault t T q p why how (f_child {c = c} {w = w} {q = q'} before n after o d a i j f) (f_large {f = g} o' a' d' k s) =
      absurd (child_fault (TermF g) c T w n q' why i j f (child_fine S x (TermF g) T n (order (TermF g)) (subst (λ z. In n z) (sym d) (in_split before after n)) a'))
  one_fault t T q p why how (f_outputs o a d) (f_own h) = absurd (clash (own S x t T) how h o)
  one_fault t T q p why how (f_outputs o a d) (f_child {c = c} {w = w} {q = q'} before n after o' d' a' i j f) =
      absurd (child_fault t c T w n q' how i j f (child_fine S x t T n (order t) (subst (λ z. In n z) (sym d') (in_split before after n)) a))
  one_fault t T q p why how (f_outputs o a d) (f_outputs o' a' d') = (refl, some_same why how (sym d ∙ d'))
  one_fault t T q p why how (f_outputs o a d) (f_large {f = g} o' a' d' k s) = absurd (clash (outputs S x (TermF g) T) why d d')
  one_fault t T q p why how (f_large {f = g} o a d k s) (f_own h) = absurd (clash (own S x (TermF g) T) how h o)
  one_fault t T q p why how (f_large {f = g} o a d k s) (f_child {c = c} {w = w} {q = q'} before n after o' d' a' i j f) =
      absurd (child_fault (TermF g) c T w n q' how i j f (child_fine S x (TermF g) T n (order (TermF g)) (subst (λ z. In n z) (sym d') (in_split before after n)) a))
  one_fault t T q p why how (f_large {f = g} o a d k s) (f_outputs o' a' d') = absurd (clash (outputs S x (TermF g) T) how d' d)
  one_fault t T q p why how (f_large {f = g} o a d k s) (f_large o' a' d' k' s') = (refl, refl)

  pub judged_says : (t : TermTree) (T : TypeTree) → Says S x t T (judged S x t T)
  judged_says (TermF f) T = says S x f T
  judged_says (TermP p) T = pred_ok_says S x p T
  judged_says (TermC c) T = const_says S x c T

  -- the fault is the one that the typing answers
  pub answers_fault : (t : TermTree) (T : TypeTree) (q : List ℕ) (why : TypeWhy) → FaultAt S x t T q why → judged S x t T ≡ Err (q, why)
  answers_fault t T q why f = at (judged S x t T) (judged_says t T)
    where
      at : (r : Checked) → Says S x t T r → r ≡ Err (q, why)
      at (Ok u) h = absurd (no_fault t T u q why f h)
      at (Err e) h = let p = one_fault t T e.0 q e.1 why h f in λ i. Err (p.0 i, p.1 i)

  -- and a fine function has the type that it answers
  pub answers_type : (f : FunTree) (T u : TypeTree) → Fine S x (TermF f) T u → typing S x true f T ≡ Ok u
  answers_type f T u h = at (typing S x true f T) (says S x f T)
    where
      at : (r : Checked) → Says S x (TermF f) T r → r ≡ Ok u
      at (Ok v) g = ap Ok (some_same v u (sym g.0 ∙ h.0))
      at (Err e) g = absurd (no_fault (TermF f) T u e.0 e.1 g h)

-- a term is fine or has a first fault
pub fine_or_fault : (S : Classes) (x : Context) (t : TermTree) (T : TypeTree) → ((u : TypeTree) × Fine S x t T u) ⊎ ((q : List ℕ) × (why : TypeWhy) × FaultAt S x t T q why)
fine_or_fault S x t T = at (judged S x t T) (judged_says S x t T)
  where
    at : (r : Checked) → Says S x t T r → ((u : TypeTree) × Fine S x t T u) ⊎ ((q : List ℕ) × (why : TypeWhy) × FaultAt S x t T q why)
    at (Ok u) h = inl (u, h)
    at (Err e) h = inr (e.0, e.1, h)
