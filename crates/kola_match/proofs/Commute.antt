-- Instances and places.
use Rattle.std.proofs.Common.{◌≡◌, ℕ, zero, suc, ◌⊎◌, inl, inr, Option, Some, None, refl, sym, ap, ap₂, ◌∙◌, option_and_then, option_map, List, [], ◌∷◌, map}
use Rattle.kola_values.specs.Types.{TypeTree, TSet, TPair, TStruct, FieldTypes, TEnd, TField}
use Rattle.kola_values.specs.Databases.{Classes}
use Rattle.kola_term.specs.Terms.{ConstTree, CMeta, FunTree, FComp, FPair, FTimes, FK, FC, FIf, FIterate, FIter, FJoin, FNest, FUnnest, FMeta, PredTree, PAt, PAnd, POr, PNot, PInv, PCP, PEx, PFa, PMeta, TermTree, TermF, TermP, TermC}
use Rattle.kola_term.specs.Typing.{Context, MetaTree, MFun, MPred, MConst, out, is_typed, const_type, first_type, second_type, join_type, pair_of}
use Rattle.kola_match.specs.Substitutions.{Substitution, sub_type, sub_types, inst_fun, inst_pred, inst_const, inst, IsTyped, HasMetaType}
use Rattle.kola_term.specs.Places.{children, rebuild, inputs, Typed, nth, with_nth, flatten, sub_at, put_in, place}
use Rattle.kola_term.proofs.Inversions.{then_some, map_some, pair_some, some_same}
use Rattle.kola_match.proofs.Closed.{AttributesClosed}
use Rattle.kola_match.proofs.Instances.{out_inst, ok_inst, const_inst, fst_sub, snd_sub, member_sub, iter_sub, join_sub}
use Rattle.kola_term.proofs.Introductions.{bind, pair_is}

kids : (s : Substitution) (t : TermTree) → (children t ≡ []) ⊎ (children (inst s t) ≡ map (inst s) (children t))
kids s (TermF (FMeta n)) = inl refl
kids s (TermP (PMeta n)) = inl refl
kids s (TermC c) = inl refl
kids s _ = inr refl

nth-map : (s : Substitution) (n : ℕ) (cs : List TermTree) (c : TermTree) → nth n cs ≡ Some c → nth n (map (inst s) cs) ≡ Some (inst s c)
nth-map s n [] c e = absurd (cc)
nth-map s zero (b ∷ cs) c e = absurd (cc)
nth-map s (suc zero) (b ∷ cs) c e = ap (λ z. Some (inst s z)) (some_same b c e)
nth-map s (suc (suc n)) (b ∷ cs) c e = nth-map s (suc n) cs c e

child_inst : (s : Substitution) (n : ℕ) (t c : TermTree) → nth n (children t) ≡ Some c → nth n (children (inst s t)) ≡ Some (inst s c)
child_inst s n t c e = elim (kids s t) [ inl k ↦ absurd (no_child k) | inr k ↦ ap (nth n) k ∙ nth-map s n (children t) c e ]
  where
    no_child : children t ≡ [] → ⊥
    no_child k = let p : None ≡ Some c = sym (ap (nth n) k) ∙ e in cc

with_nth-map : (s : Substitution) (n : ℕ) (b : TermTree) (cs : List TermTree) → map (inst s) (with_nth n b cs) ≡ with_nth n (inst s b) (map (inst s) cs)
with_nth-map s n b [] = refl
with_nth-map s zero b (c ∷ cs) = refl
with_nth-map s (suc zero) b (c ∷ cs) = refl
with_nth-map s (suc (suc n)) b (c ∷ cs) = ap (λ l. inst s c ∷ l) (with_nth-map s (suc n) b cs)

rebuild_inst : (s : Substitution) (t : TermTree) (cs : List TermTree) (b : TermTree) → rebuild t cs ≡ Some b → rebuild (inst s t) (map (inst s) cs) ≡ Some (inst s b)
rebuild_inst s (TermF (FComp _ _)) (TermF f ∷ TermF g ∷ []) b e = ap (λ z. Some (inst s z)) (some_same (TermF (FComp f g)) b e)
rebuild_inst s (TermF (FPair _ _)) (TermF f ∷ TermF g ∷ []) b e = ap (λ z. Some (inst s z)) (some_same (TermF (FPair f g)) b e)
rebuild_inst s (TermF (FTimes _ _)) (TermF f ∷ TermF g ∷ []) b e = ap (λ z. Some (inst s z)) (some_same (TermF (FTimes f g)) b e)
rebuild_inst s (TermF (FK _)) (TermC c ∷ []) b e = ap (λ z. Some (inst s z)) (some_same (TermF (FK c)) b e)
rebuild_inst s (TermF (FC _ _)) (TermF f ∷ TermC c ∷ []) b e = ap (λ z. Some (inst s z)) (some_same (TermF (FC f c)) b e)
rebuild_inst s (TermF (FIf _ _ _)) (TermP p ∷ TermF f ∷ TermF g ∷ []) b e = ap (λ z. Some (inst s z)) (some_same (TermF (FIf p f g)) b e)
rebuild_inst s (TermF (FIterate _ _)) (TermP p ∷ TermF f ∷ []) b e = ap (λ z. Some (inst s z)) (some_same (TermF (FIterate p f)) b e)
rebuild_inst s (TermF (FIter _ _)) (TermP p ∷ TermF f ∷ []) b e = ap (λ z. Some (inst s z)) (some_same (TermF (FIter p f)) b e)
rebuild_inst s (TermF (FJoin _ _)) (TermP p ∷ TermF f ∷ []) b e = ap (λ z. Some (inst s z)) (some_same (TermF (FJoin p f)) b e)
rebuild_inst s (TermF (FNest _ _)) (TermF f ∷ TermF g ∷ []) b e = ap (λ z. Some (inst s z)) (some_same (TermF (FNest f g)) b e)
rebuild_inst s (TermF (FUnnest _ _)) (TermF f ∷ TermF g ∷ []) b e = ap (λ z. Some (inst s z)) (some_same (TermF (FUnnest f g)) b e)
rebuild_inst s (TermP (PAt _ _)) (TermP p ∷ TermF f ∷ []) b e = ap (λ z. Some (inst s z)) (some_same (TermP (PAt p f)) b e)
rebuild_inst s (TermP (PAnd _ _)) (TermP p ∷ TermP q ∷ []) b e = ap (λ z. Some (inst s z)) (some_same (TermP (PAnd p q)) b e)
rebuild_inst s (TermP (POr _ _)) (TermP p ∷ TermP q ∷ []) b e = ap (λ z. Some (inst s z)) (some_same (TermP (POr p q)) b e)
rebuild_inst s (TermP (PNot _)) (TermP p ∷ []) b e = ap (λ z. Some (inst s z)) (some_same (TermP (PNot p)) b e)
rebuild_inst s (TermP (PInv _)) (TermP p ∷ []) b e = ap (λ z. Some (inst s z)) (some_same (TermP (PInv p)) b e)
rebuild_inst s (TermP (PCP _ _)) (TermP p ∷ TermC c ∷ []) b e = ap (λ z. Some (inst s z)) (some_same (TermP (PCP p c)) b e)
rebuild_inst s (TermP (PEx _)) (TermP p ∷ []) b e = ap (λ z. Some (inst s z)) (some_same (TermP (PEx p)) b e)
rebuild_inst s (TermP (PFa _)) (TermP p ∷ []) b e = ap (λ z. Some (inst s z)) (some_same (TermP (PFa p)) b e)
rebuild_inst s _ _ b e = absurd (cc)

-- each known input type goes with the substitution
abbrev SubAll : (List ℕ → TypeTree) → List (Option TypeTree) → List (Option TypeTree) → Type 0
SubAll s [] ps = Unit {0}
SubAll s (o ∷ os) (p ∷ ps) = ((w : TypeTree) → o ≡ Some w → p ≡ Some (sub_type s w)) × SubAll s os ps
SubAll s (o ∷ os) [] = ⊥

module _ (S : Classes) (c : AttributesClosed S) (x y : Context) (s : Substitution) (i : IsTyped S y s x) where
  same_in : (t w : TypeTree) → Some t ≡ Some w → Some (sub_type s.types t) ≡ Some (sub_type s.types w)
  same_in t w e = ap (λ z. Some (sub_type s.types z)) (some_same t w e)

  const_in : (k : ConstTree) (t w : TypeTree) → option_map (λ u. TPair u t) (const_type S x k) ≡ Some w → option_map (λ u. TPair u (sub_type s.types t)) (const_type S y (inst_const s k)) ≡ Some (sub_type s.types w)
  const_in k t w e = let p = map_some (λ u. TPair u t) (const_type S x k) w e in ap (option_map (λ u. TPair u (sub_type s.types t))) (const_inst S x y s i k p.0 p.1) ∙ ap (λ z. Some (sub_type s.types z)) (sym p.2)

  inv_in : (t w : TypeTree) → pair_of (second_type t) (first_type t) ≡ Some w → pair_of (second_type (sub_type s.types t)) (first_type (sub_type s.types t)) ≡ Some (sub_type s.types w)
  inv_in t w e = let r = pair_some (second_type t) (first_type t) w e in pair_is _ _ (sub_type s.types r.0) (sub_type s.types r.1) (snd_sub s.types t r.0 r.2) (fst_sub s.types t r.1 r.3) ∙ ap (λ z. Some (sub_type s.types z)) (sym r.4)

  nest_in : (t w : TypeTree) → option_and_then first_type (join_type t) ≡ Some w → option_and_then first_type (join_type (sub_type s.types t)) ≡ Some (sub_type s.types w)
  nest_in t w e = let r = then_some first_type (join_type t) w e in bind first_type (join_type (sub_type s.types t)) (sub_type s.types r.0) (Some (sub_type s.types w)) (join_sub s.types t r.0 r.1) (fst_sub s.types r.0 w r.2)

  inputs_sub : (b : TermTree) (t : TypeTree) → SubAll s.types (inputs S x b t) (inputs S y (inst s b) (sub_type s.types t))
  inputs_sub (TermF (FComp f g)) t = (λ w e. out_inst S c x y s i g t w e, (same_in t, tt))
  inputs_sub (TermF (FPair f g)) t = (same_in t, (same_in t, tt))
  inputs_sub (TermF (FTimes f g)) t = (fst_sub s.types t, (snd_sub s.types t, tt))
  inputs_sub (TermF (FK k)) t = (same_in t, tt)
  inputs_sub (TermF (FC f k)) t = (const_in k t, (same_in t, tt))
  inputs_sub (TermF (FIf p f g)) t = (same_in t, (same_in t, (same_in t, tt)))
  inputs_sub (TermF (FIterate p f)) t = (member_sub s.types t, (member_sub s.types t, tt))
  inputs_sub (TermF (FIter p f)) t = (iter_sub s.types t, (iter_sub s.types t, tt))
  inputs_sub (TermF (FJoin p f)) t = (join_sub s.types t, (join_sub s.types t, tt))
  inputs_sub (TermF (FNest f g)) t = (nest_in t, (nest_in t, tt))
  inputs_sub (TermF (FUnnest f g)) t = (member_sub s.types t, (member_sub s.types t, tt))
  inputs_sub (TermP (PAt p f)) t = (λ w e. out_inst S c x y s i f t w e, (same_in t, tt))
  inputs_sub (TermP (PAnd p q)) t = (same_in t, (same_in t, tt))
  inputs_sub (TermP (POr p q)) t = (same_in t, (same_in t, tt))
  inputs_sub (TermP (PNot p)) t = (same_in t, tt)
  inputs_sub (TermP (PInv p)) t = (inv_in t, tt)
  inputs_sub (TermP (PCP p k)) t = (const_in k t, (same_in t, tt))
  inputs_sub (TermP (PEx p)) t = (iter_sub s.types t, tt)
  inputs_sub (TermP (PFa p)) t = (iter_sub s.types t, tt)
  inputs_sub _ t = tt

nth_sub : (s : List ℕ → TypeTree) (n : ℕ) (os ps : List (Option TypeTree)) (w : TypeTree) → SubAll s os ps → flatten (nth n os) ≡ Some w → flatten (nth n ps) ≡ Some (sub_type s w)
nth_sub s n [] ps w h e = absurd (cc)
nth_sub s zero (o ∷ os) ps w h e = absurd (cc)
nth_sub s (suc zero) (o ∷ os) (p ∷ ps) w h e = h.0 w e
nth_sub s (suc (suc n)) (o ∷ os) (p ∷ ps) w h e = nth_sub s (suc n) os ps w h.1 e
nth_sub s n (o ∷ os) [] w h e = absurd h

-- ---- paths

pub sub_inst : (s : Substitution) (q : List ℕ) (t l : TermTree) → sub_at t q ≡ Some l → sub_at (inst s t) q ≡ Some (inst s l)
sub_inst s [] t l e = ap (λ z. Some (inst s z)) (some_same t l e)
sub_inst s (n ∷ q) t l e =
    let p = then_some (λ z. sub_at z q) (nth n (children t)) l e in
    bind (λ z. sub_at z q) (nth n (children (inst s t))) (inst s p.0) (Some (inst s l)) (child_inst s n t p.0 p.1) (sub_inst s q p.0 l p.2)

pub put_inst : (s : Substitution) (q : List ℕ) (t r b : TermTree) → put_in t q r ≡ Some b → put_in (inst s t) q (inst s r) ≡ Some (inst s b)
put_inst s [] t r b e = ap (λ z. Some (inst s z)) (some_same r b e)
put_inst s (n ∷ q) t r b e =
    let o = then_some (λ z. option_and_then (λ k. rebuild t (with_nth n k (children t))) (put_in z q r)) (nth n (children t)) b e in
    let p = then_some (λ k. rebuild t (with_nth n k (children t))) (put_in o.0 q r) b o.2 in
    bind (λ z. option_and_then (λ k. rebuild (inst s t) (with_nth n k (children (inst s t)))) (put_in z q (inst s r))) (nth n (children (inst s t))) (inst s o.0) (Some (inst s b)) (child_inst s n t o.0 o.1)
    (bind (λ k. rebuild (inst s t) (with_nth n k (children (inst s t)))) (put_in (inst s o.0) q (inst s r)) (inst s p.0) (Some (inst s b)) (put_inst s q o.0 r p.0 p.1)
    (elim (kids s t) [ inl k ↦ absurd (no_child k o.0 o.1) | inr k ↦ ap (λ z. rebuild (inst s t) (with_nth n (inst s p.0) z)) k ∙ (ap (rebuild (inst s t)) (sym (with_nth-map s n p.0 (children t))) ∙ rebuild_inst s t (with_nth n p.0 (children t)) b p.2) ]))
  where
    no_child : children t ≡ [] → (z : TermTree) → nth n (children t) ≡ Some z → ⊥
    no_child k z e = let p : None ≡ Some z = sym (ap (nth n) k) ∙ e in cc

pub place_inst : (S : Classes) → AttributesClosed S → (x y : Context) (s : Substitution) → IsTyped S y s x → (q : List ℕ) (t : TermTree) (u w : TypeTree) → place S x t u q ≡ Some w → place S y (inst s t) (sub_type s.types u) q ≡ Some (sub_type s.types w)
place_inst S c x y s i [] t u w e = ap (λ z. Some (sub_type s.types z)) (some_same u w e)
place_inst S c x y s i (n ∷ q) t u w e =
    let j = then_some (λ z. option_and_then (λ k. place S x z k q) (flatten (nth n (inputs S x t u)))) (nth n (children t)) w e in
    let g = then_some (λ k. place S x j.0 k q) (flatten (nth n (inputs S x t u))) w j.2 in
    bind (λ z. option_and_then (λ k. place S y z k q) (flatten (nth n (inputs S y (inst s t) (sub_type s.types u))))) (nth n (children (inst s t))) (inst s j.0) (Some (sub_type s.types w)) (child_inst s n t j.0 j.1)
    (bind (λ k. place S y (inst s j.0) k q) (flatten (nth n (inputs S y (inst s t) (sub_type s.types u)))) (sub_type s.types g.0) (Some (sub_type s.types w)) (nth_sub s.types n (inputs S x t u) (inputs S y (inst s t) (sub_type s.types u)) g.0 (inputs_sub S c x y s i t u) g.1) (place_inst S c x y s i q j.0 g.0 w g.2))

pub typed_inst : (S : Classes) → AttributesClosed S → (x y : Context) (s : Substitution) → IsTyped S y s x → (t : TermTree) (u : TypeTree) → Typed S x t u → Typed S y (inst s t) (sub_type s.types u)
typed_inst S c x y s i (TermF f) u h = (sub_type s.types h.0, out_inst S c x y s i f u h.0 h.1)
typed_inst S c x y s i (TermP p) u h = ok_inst S c x y s i p u h
typed_inst S c x y s i (TermC k) u h = (sub_type s.types h.0, const_inst S x y s i k h.0 h.1)

-- ---- one substitution after another

abbrev pub followed : Substitution → Substitution → Substitution
followed s o = record { types = λ n. sub_type o.types (s.types n); funs = λ n. inst_fun o (s.funs n); preds = λ n. inst_pred o (s.preds n); consts = λ n. inst_const o (s.consts n) }

mutual
  pub sub_sub : (s o : List ℕ → TypeTree) (t : TypeTree) → sub_type o (sub_type s t) ≡ sub_type (λ n. sub_type o (s n)) t
  sub_sub s o (TSet t) = ap TSet (sub_sub s o t)
  sub_sub s o (TPair t u) = ap₂ TPair (sub_sub s o t) (sub_sub s o u)
  sub_sub s o (TStruct ts) = ap TStruct (subs_sub s o ts)
  sub_sub s o _ = refl

  subs_sub : (s o : List ℕ → TypeTree) (t : FieldTypes) → sub_types o (sub_types s t) ≡ sub_types (λ n. sub_type o (s n)) t
  subs_sub s o TEnd = refl
  subs_sub s o (TField l t ts) = ap₂ (TField l) (sub_sub s o t) (subs_sub s o ts)

con_con : (s o : Substitution) (c : ConstTree) → inst_const o (inst_const s c) ≡ inst_const (followed s o) c
con_con s o (CMeta n) = refl
con_con s o _ = refl

mutual
  pub fun_fun : (s o : Substitution) (f : FunTree) → inst_fun o (inst_fun s f) ≡ inst_fun (followed s o) f
  fun_fun s o (FComp f g) = ap₂ FComp (fun_fun s o f) (fun_fun s o g)
  fun_fun s o (FPair f g) = ap₂ FPair (fun_fun s o f) (fun_fun s o g)
  fun_fun s o (FTimes f g) = ap₂ FTimes (fun_fun s o f) (fun_fun s o g)
  fun_fun s o (FK c) = ap FK (con_con s o c)
  fun_fun s o (FC f c) = ap₂ FC (fun_fun s o f) (con_con s o c)
  fun_fun s o (FIf p f g) = λ i. FIf (pred_pred s o p i) (fun_fun s o f i) (fun_fun s o g i)
  fun_fun s o (FIterate p f) = ap₂ FIterate (pred_pred s o p) (fun_fun s o f)
  fun_fun s o (FIter p f) = ap₂ FIter (pred_pred s o p) (fun_fun s o f)
  fun_fun s o (FJoin p f) = ap₂ FJoin (pred_pred s o p) (fun_fun s o f)
  fun_fun s o (FNest f g) = ap₂ FNest (fun_fun s o f) (fun_fun s o g)
  fun_fun s o (FUnnest f g) = ap₂ FUnnest (fun_fun s o f) (fun_fun s o g)
  fun_fun s o _ = refl

  pub pred_pred : (s o : Substitution) (p : PredTree) → inst_pred o (inst_pred s p) ≡ inst_pred (followed s o) p
  pred_pred s o (PAt p f) = ap₂ PAt (pred_pred s o p) (fun_fun s o f)
  pred_pred s o (PAnd p q) = ap₂ PAnd (pred_pred s o p) (pred_pred s o q)
  pred_pred s o (POr p q) = ap₂ POr (pred_pred s o p) (pred_pred s o q)
  pred_pred s o (PNot p) = ap PNot (pred_pred s o p)
  pred_pred s o (PInv p) = ap PInv (pred_pred s o p)
  pred_pred s o (PCP p c) = ap₂ PCP (pred_pred s o p) (con_con s o c)
  pred_pred s o (PEx p) = ap PEx (pred_pred s o p)
  pred_pred s o (PFa p) = ap PFa (pred_pred s o p)
  pred_pred s o _ = refl

pub term_term : (s o : Substitution) (t : TermTree) → inst o (inst s t) ≡ inst (followed s o) t
term_term s o (TermF f) = ap TermF (fun_fun s o f)
term_term s o (TermP p) = ap TermP (pred_pred s o p)
term_term s o (TermC c) = ap TermC (con_con s o c)

pub followed_typed : (S : Classes) → AttributesClosed S → (x y : Context) (s o : Substitution) → IsTyped S y o x → (vars : Context) → IsTyped S x s vars → IsTyped S y (followed s o) vars
followed_typed S c x y s o i [] h = tt
followed_typed S c x y s o i (v ∷ vs) h = (at v.1 h.0, followed_typed S c x y s o i vs h.1)
  where
    at : (m : MetaTree) → HasMetaType S x s v.0 m → HasMetaType S y (followed s o) v.0 m
    at (MFun t u) k = ap (out S y (inst_fun o (s.funs v.0))) (sym (sub_sub s.types o.types t)) ∙ (out_inst S c x y o i (s.funs v.0) (sub_type s.types t) (sub_type s.types u) k ∙ ap Some (sub_sub s.types o.types u))
    at (MPred t) k = ap (is_typed S y (inst_pred o (s.preds v.0))) (sym (sub_sub s.types o.types t)) ∙ ok_inst S c x y o i (s.preds v.0) (sub_type s.types t) k
    at (MConst t) k = const_inst S x y o i (s.consts v.0) (sub_type s.types t) k ∙ ap Some (sub_sub s.types o.types t)
