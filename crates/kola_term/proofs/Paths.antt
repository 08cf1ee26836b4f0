-- A change at a place that keeps the values there keeps the value of the whole.
use Rattle.std.proofs.Common.{◌≡◌, ℕ, zero, suc, Option, Some, None, refl, sym, ap, ◌∙◌, subst, option_and_then, option_map, List, [], ◌∷◌}
use Rattle.kola_values.specs.Types.{TypeTree, TSet, TPair}
use Rattle.kola_values.specs.Databases.{Classes, Objects}
use Rattle.kola_schema.specs.Meets.{Meets}
use Rattle.kola_term.specs.Terms.{FComp, FPair, FTimes, FK, FC, FIf, FIterate, FIter, FJoin, FNest, FUnnest, PAt, PAnd, POr, PNot, PInv, PCP, PEx, PFa, TermTree, TermF, TermP, TermC}
use Rattle.kola_term.specs.Typing.{Context, out, is_typed, const_type, first_type, second_type, member_type, iter_type, join_type, the_if, pair_of, one_of, nest_of}
use Rattle.kola_term.specs.Agreement.{Agree}
use Rattle.kola_term.specs.Places.{children, rebuild, inputs, Typed, nth, with_nth, flatten, sub_at, put_in, place}
use Rattle.kola_term.proofs.Introductions.{bind}
use Rattle.kola_term.proofs.Inversions.{then_some, map_some, if_some, join_some, pair_some, one_some, nest_some, some_same, and_true, when_true}
use Rattle.kola_term.proofs.Congruent.{AgreeAt, AgreeAll, node_agree}

abbrev pub TypedAt : Classes → Context → Option TypeTree → TermTree → Type 0
TypedAt S x (Some u) c = Typed S x c u
TypedAt S x None c = ⊥

abbrev pub TypedAll : Classes → Context → List (Option TypeTree) → List TermTree → Type 0
TypedAll S x [] [] = Unit {0}
TypedAll S x (o ∷ os) (c ∷ cs) = TypedAt S x o c × TypedAll S x os cs
TypedAll S x _ _ = ⊥

there : (S : Classes) (x : Context) (o : Option TypeTree) (u : TypeTree) (c : TermTree) → o ≡ Some u → Typed S x c u → TypedAt S x o c
there S x o u c e h = subst (λ p. TypedAt S x p c) (sym e) h

-- the children of a typed node are typed at their places
pub parts_typed : (S : Classes) (x : Context) (c : TermTree) (t : TypeTree) → Typed S x c t → TypedAll S x (inputs S x c t) (children c)
parts_typed S x (TermF (FComp f g)) t h =
    let p = then_some (λ w. out S x f w) (out S x g t) h.0 h.1 in
    (there S x (out S x g t) p.0 (TermF f) p.1 (h.0, p.2), ((p.0, p.1), tt))
parts_typed S x (TermF (FPair f g)) t h =
    let p = pair_some (out S x f t) (out S x g t) h.0 h.1 in
    ((p.0, p.2), ((p.1, p.3), tt))
parts_typed S x (TermF (FTimes f g)) t h =
    let p = pair_some (option_and_then (λ w. out S x f w) (first_type t)) (option_and_then (λ w. out S x g w) (second_type t)) h.0 h.1 in
    let q = then_some (λ w. out S x f w) (first_type t) p.0 p.2 in
    let r = then_some (λ w. out S x g w) (second_type t) p.1 p.3 in
    (there S x (first_type t) q.0 (TermF f) q.1 (p.0, q.2), (there S x (second_type t) r.0 (TermF g) r.1 (p.1, r.2), tt))
parts_typed S x (TermF (FK c)) t h = ((h.0, h.1), tt)
parts_typed S x (TermF (FC f c)) t h =
    let p = then_some (λ w. out S x f (TPair w t)) (const_type S x c) h.0 h.1 in
    (there S x (option_map (λ u. TPair u t) (const_type S x c)) (TPair p.0 t) (TermF f) (ap (option_map (λ u. TPair u t)) p.1) (h.0, p.2), ((p.0, p.1), tt))
parts_typed S x (TermF (FIf p f g)) t h =
    let q = if_some (is_typed S x p t) (one_of (out S x f t) (out S x g t)) h.0 h.1 in
    let r = one_some (out S x f t) (out S x g t) h.0 q.1 in
    (q.0, ((h.0, r.0), ((h.0, r.1), tt)))
parts_typed S x (TermF (FIterate p f)) t h =
    let q = then_some (λ w. the_if (is_typed S x p w) (option_map TSet (out S x f w))) (member_type t) h.0 h.1 in
    let r = if_some (is_typed S x p q.0) (option_map TSet (out S x f q.0)) h.0 q.2 in
    let s = map_some TSet (out S x f q.0) h.0 r.1 in
    (there S x (member_type t) q.0 (TermP p) q.1 r.0, (there S x (member_type t) q.0 (TermF f) q.1 (s.0, s.1), tt))
parts_typed S x (TermF (FIter p f)) t h =
    let q = then_some (λ w. the_if (is_typed S x p w) (option_map TSet (out S x f w))) (iter_type t) h.0 h.1 in
    let r = if_some (is_typed S x p q.0) (option_map TSet (out S x f q.0)) h.0 q.2 in
    let s = map_some TSet (out S x f q.0) h.0 r.1 in
    (there S x (iter_type t) q.0 (TermP p) q.1 r.0, (there S x (iter_type t) q.0 (TermF f) q.1 (s.0, s.1), tt))
parts_typed S x (TermF (FJoin p f)) t h =
    let q = then_some (λ w. the_if (is_typed S x p w) (option_map TSet (out S x f w))) (join_type t) h.0 h.1 in
    let r = if_some (is_typed S x p q.0) (option_map TSet (out S x f q.0)) h.0 q.2 in
    let s = map_some TSet (out S x f q.0) h.0 r.1 in
    (there S x (join_type t) q.0 (TermP p) q.1 r.0, (there S x (join_type t) q.0 (TermF f) q.1 (s.0, s.1), tt))
parts_typed S x (TermF (FNest f g)) t h =
    let q = then_some (λ w. option_and_then (λ z. nest_of (out S x f z) (out S x g z) w) (first_type w)) (join_type t) h.0 h.1 in
    let r = join_some t q.0 q.1 in
    let k : option_and_then first_type (join_type t) ≡ Some r.0 = ap (option_and_then first_type) (q.1 ∙ ap Some r.3) in
    let j = then_some (λ z. nest_of (out S x f z) (out S x g z) q.0) (first_type q.0) h.0 q.2 in
    let l : j.0 ≡ r.0 = some_same j.0 r.0 (sym j.1 ∙ ap first_type r.3) in
    let n = nest_some (out S x f j.0) (out S x g j.0) r.0 r.1 h.0 (subst (λ w. nest_of (out S x f j.0) (out S x g j.0) w ≡ Some h.0) r.3 j.2) in
    (there S x (option_and_then first_type (join_type t)) r.0 (TermF f) k (r.1, subst (λ w. out S x f w ≡ Some r.1) l n.1), (there S x (option_and_then first_type (join_type t)) r.0 (TermF g) k (n.0, subst (λ w. out S x g w ≡ Some n.0) l n.2), tt))
parts_typed S x (TermF (FUnnest f g)) t h =
    let p = then_some (λ w. option_map TSet (pair_of (out S x f w) (option_and_then member_type (out S x g w)))) (member_type t) h.0 h.1 in
    let q = map_some TSet (pair_of (out S x f p.0) (option_and_then member_type (out S x g p.0))) h.0 p.2 in
    let r = pair_some (out S x f p.0) (option_and_then member_type (out S x g p.0)) q.0 q.1 in
    let i = then_some member_type (out S x g p.0) r.1 r.3 in
    (there S x (member_type t) p.0 (TermF f) p.1 (r.0, r.2), (there S x (member_type t) p.0 (TermF g) p.1 (i.0, i.1), tt))
parts_typed S x (TermP (PAt p f)) t h =
    let q = when_true (out S x f t) (λ u. is_typed S x p u) h in
    (there S x (out S x f t) q.0 (TermP p) q.1 q.2, ((q.0, q.1), tt))
parts_typed S x (TermP (PAnd p q)) t h = let r = and_true (is_typed S x p t) (is_typed S x q t) h in (r.0, (r.1, tt))
parts_typed S x (TermP (POr p q)) t h = let r = and_true (is_typed S x p t) (is_typed S x q t) h in (r.0, (r.1, tt))
parts_typed S x (TermP (PNot p)) t h = (h, tt)
parts_typed S x (TermP (PInv p)) t h =
    let q = when_true (pair_of (second_type t) (first_type t)) (λ u. is_typed S x p u) h in
    (there S x (pair_of (second_type t) (first_type t)) q.0 (TermP p) q.1 q.2, tt)
parts_typed S x (TermP (PCP p c)) t h =
    let q = when_true (const_type S x c) (λ u. is_typed S x p (TPair u t)) h in
    (there S x (option_map (λ u. TPair u t) (const_type S x c)) (TPair q.0 t) (TermP p) (ap (option_map (λ u. TPair u t)) q.1) q.2, ((q.0, q.1), tt))
parts_typed S x (TermP (PEx p)) t h = let q = when_true (iter_type t) (λ u. is_typed S x p u) h in (there S x (iter_type t) q.0 (TermP p) q.1 q.2, tt)
parts_typed S x (TermP (PFa p)) t h = let q = when_true (iter_type t) (λ u. is_typed S x p u) h in (there S x (iter_type t) q.0 (TermP p) q.1 q.2, tt)
parts_typed S x _ t h = tt

-- ---- the child at a number

flatten_some : {A : Type 0} (o : Option (Option A)) (a : A) → flatten o ≡ Some a → o ≡ Some (Some a)
flatten_some (Some o) a e = ap Some e
flatten_some None a e = absurd (cc)

pub nth_typed : (S : Classes) (x : Context) (n : ℕ) (os : List (Option TypeTree)) (cs : List TermTree) (c : TermTree) (u : TypeTree) → TypedAll S x os cs → nth n cs ≡ Some c → nth n os ≡ Some (Some u) → Typed S x c u
nth_typed S x n [] [] c u h e k = absurd (cc)
nth_typed S x zero (o ∷ os) (b ∷ cs) c u h e k = absurd (cc)
nth_typed S x (suc zero) (o ∷ os) (b ∷ cs) c u h e k = subst (λ z. Typed S x z u) (some_same b c e) (subst (λ p. TypedAt S x p b) (some_same o (Some u) k) h.0)
nth_typed S x (suc (suc n)) (o ∷ os) (b ∷ cs) c u h e k = nth_typed S x (suc n) os cs c u h.1 e k
nth_typed S x n [] (b ∷ cs) c u h e k = absurd h
nth_typed S x n (o ∷ os) [] c u h e k = absurd h

same_agree : (S : Classes) (d : Objects) (o : Option TypeTree) (c : TermTree) → AgreeAt S d o c c
same_agree S d (Some u) (TermF f) = λ v h. refl
same_agree S d (Some u) (TermP p) = λ v h. refl
same_agree S d (Some u) (TermC b) = refl
same_agree S d None c = refl

all_same_agree : (S : Classes) (d : Objects) (x : Context) (os : List (Option TypeTree)) (cs : List TermTree) → TypedAll S x os cs → AgreeAll S d os cs cs
all_same_agree S d x [] [] h = tt
all_same_agree S d x (o ∷ os) (c ∷ cs) h = (same_agree S d o c, all_same_agree S d x os cs h.1)
all_same_agree S d x [] (c ∷ cs) h = absurd h
all_same_agree S d x (o ∷ os) [] h = absurd h

with_nth_agree : (S : Classes) (d : Objects) (x : Context) (n : ℕ) (os : List (Option TypeTree)) (cs : List TermTree) (c e : TermTree) (u : TypeTree) → TypedAll S x os cs → nth n cs ≡ Some c → nth n os ≡ Some (Some u) → Agree S d u c e → AgreeAll S d os cs (with_nth n e cs)
with_nth_agree S d x n [] [] c e u h i j k = absurd (cc)
with_nth_agree S d x zero (o ∷ os) (b ∷ cs) c e u h i j k = absurd (cc)
with_nth_agree S d x (suc zero) (o ∷ os) (b ∷ cs) c e u h i j k = (subst (λ p. AgreeAt S d p b e) (sym (some_same o (Some u) j)) (subst (λ z. Agree S d u z e) (sym (some_same b c i)) k), all_same_agree S d x os cs h.1)
with_nth_agree S d x (suc (suc n)) (o ∷ os) (b ∷ cs) c e u h i j k = (same_agree S d o b, with_nth_agree S d x (suc n) os cs c e u h.1 i j k)
with_nth_agree S d x n [] (b ∷ cs) c e u h i j k = absurd h
with_nth_agree S d x n (o ∷ os) [] c e u h i j k = absurd h

pub at_place : (S : Classes) (d : Objects) → Meets S d → (q : List ℕ) (t : TermTree) (u : TypeTree) (l r t' : TermTree) (w : TypeTree) → Typed S [] t u → sub_at t q ≡ Some l → place S [] t u q ≡ Some w → put_in t q r ≡ Some t' → Agree S d w l r → Agree S d u t t'
at_place S d m [] t u l r t' w ty a b c k =
    subst (λ z. Agree S d u t z) (some_same r t' c) (subst (λ z. Agree S d z t r) (sym (some_same u w b)) (subst (λ z. Agree S d w z r) (sym (some_same t l a)) k))
at_place S d m (n ∷ q) t u l r t' w ty a b c k =
    let i = then_some (λ z. sub_at z q) (nth n (children t)) l a in
    let j = then_some (λ z. option_and_then (λ y. place S [] z y q) (flatten (nth n (inputs S [] t u)))) (nth n (children t)) w b in
    let g = then_some (λ y. place S [] j.0 y q) (flatten (nth n (inputs S [] t u))) w j.2 in
    let o = then_some (λ z. option_and_then (λ e. rebuild t (with_nth n e (children t))) (put_in z q r)) (nth n (children t)) t' c in
    let p = then_some (λ e. rebuild t (with_nth n e (children t))) (put_in o.0 q r) t' o.2 in
    let ij : i.0 ≡ j.0 = some_same i.0 j.0 (sym i.1 ∙ j.1) in
    let oj : o.0 ≡ j.0 = some_same o.0 j.0 (sym o.1 ∙ j.1) in
    let input = flatten_some (nth n (inputs S [] t u)) g.0 g.1 in
    let child = nth_typed S [] n (inputs S [] t u) (children t) j.0 g.0 (parts_typed S [] t u ty) j.1 input in
    let inner = at_place S d m q j.0 g.0 l r p.0 w child (subst (λ z. sub_at z q ≡ Some l) ij i.2) g.2 (subst (λ z. put_in z q r ≡ Some p.0) oj p.1) k in
    node_agree S d m t u (with_nth n p.0 (children t)) t' ty (with_nth_agree S d [] n (inputs S [] t u) (children t) j.0 p.0 g.0 (parts_typed S [] t u ty) j.1 input inner) p.2

-- ---- typed at places

pub nth_both : (S : Classes) (x : Context) (n : ℕ) (os : List (Option TypeTree)) (cs : List TermTree) (c : TermTree) → TypedAll S x os cs → nth n cs ≡ Some c → (u : TypeTree) × (flatten (nth n os) ≡ Some u) × Typed S x c u
nth_both S x n [] [] c h e = absurd (cc)
nth_both S x zero (o ∷ os) (b ∷ cs) c h e = absurd (cc)
nth_both S x (suc zero) (o ∷ os) (b ∷ cs) c h e = at o h.0
  where
    at : (p : Option TypeTree) → TypedAt S x p b → (u : TypeTree) × (p ≡ Some u) × Typed S x c u
    at (Some u) k = (u, refl, subst (λ z. Typed S x z u) (some_same b c e) k)
    at None k = absurd k
nth_both S x (suc (suc n)) (o ∷ os) (b ∷ cs) c h e = nth_both S x (suc n) os cs c h.1 e
nth_both S x n [] (b ∷ cs) c h e = absurd h
nth_both S x n (o ∷ os) [] c h e = absurd h

pub typed_at : (S : Classes) (x : Context) (q : List ℕ) (t l : TermTree) (u : TypeTree) → Typed S x t u → sub_at t q ≡ Some l → (w : TypeTree) × (place S x t u q ≡ Some w) × Typed S x l w
typed_at S x [] t l u h e = (u, refl, subst (λ z. Typed S x z u) (some_same t l e) h)
typed_at S x (n ∷ q) t l u h e =
    let p = then_some (λ c. sub_at c q) (nth n (children t)) l e in
    let o = nth_both S x n (inputs S x t u) (children t) p.0 (parts_typed S x t u h) p.1 in
    let r = typed_at S x q p.0 l o.0 o.2 p.2 in
    (r.0, bind (λ c. option_and_then (λ w. place S x c w q) (flatten (nth n (inputs S x t u)))) (nth n (children t)) p.0 (Some r.0) p.1 (bind (λ w. place S x p.0 w q) (flatten (nth n (inputs S x t u))) o.0 (Some r.0) o.1 r.1), r.2)
