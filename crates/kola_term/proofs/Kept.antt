-- A child of the same output type in a child's place keeps the output type of the node.
use Rattle.std.proofs.Common.{◌≡◌, ℕ, zero, suc, Bool, true, false, cond, ◌&&◌, Option, Some, None, refl, sym, ap, ap₂, ◌∙◌, subst, option_and_then, option_map, List, [], ◌∷◌}
use Rattle.kola_values.specs.Types.{TypeTree, TBool, TSet, TPair}
use Rattle.kola_values.specs.Databases.{Classes}
use Rattle.kola_term.specs.Terms.{ConstTree, FunTree, FComp, FPair, FTimes, FK, FC, FIf, FIterate, FIter, FJoin, FNest, FUnnest, PredTree, PAt, PAnd, POr, PNot, PInv, PCP, PEx, PFa, TermTree, TermF, TermP, TermC}
use Rattle.kola_term.specs.Typing.{Context, out, is_typed, const_type, first_type, second_type, member_type, iter_type, join_type, the_if, pair_of, one_of, nest_of, when}
use Rattle.kola_term.specs.Places.{children, rebuild, inputs, nth, with_nth, flatten, sub_at, put_in, place}
use Rattle.kola_term.specs.Agreement.{kind_out, SameKind, Serves}
use Rattle.kola_term.proofs.Inversions.{then_some, some_same}

abbrev pub ServeAll : Classes → Context → List (Option TypeTree) → List TermTree → List TermTree → Type 0
ServeAll S x [] [] [] = Unit {0}
ServeAll S x (o ∷ os) (b ∷ bs) (c ∷ cs) = Serves S x o b c × ServeAll S x os bs cs
ServeAll S x _ _ _ = ⊥

kind_f : (f : FunTree) (c : TermTree) → SameKind (TermF f) c → (g : FunTree) × (c ≡ TermF g)
kind_f f (TermF g) h = (g, refl)
kind_f f (TermP g) h = absurd h
kind_f f (TermC g) h = absurd h

kind_p : (f : PredTree) (c : TermTree) → SameKind (TermP f) c → (g : PredTree) × (c ≡ TermP g)
kind_p f (TermP g) h = (g, refl)
kind_p f (TermF g) h = absurd h
kind_p f (TermC g) h = absurd h

kind_c : (f : ConstTree) (c : TermTree) → SameKind (TermC f) c → (g : ConstTree) × (c ≡ TermC g)
kind_c f (TermC g) h = (g, refl)
kind_c f (TermF g) h = absurd h
kind_c f (TermP g) h = absurd h

pub ok_same : (a b : Bool) → cond a (Some TBool) None ≡ cond b (Some TBool) None → a ≡ b
ok_same true true e = refl
ok_same false false e = refl
ok_same true false e = absurd (cc)
ok_same false true e = absurd (cc)

record TwoF (S : Classes) (x : Context) (o p : Option TypeTree) (f : FunTree) (g : FunTree) (cs : List TermTree) : Type 0 where
  a : FunTree
  b : FunTree
  is : cs ≡ TermF a ∷ TermF b ∷ []
  at_a : (w : TypeTree) → o ≡ Some w → out S x f w ≡ out S x a w
  at_b : (w : TypeTree) → p ≡ Some w → out S x g w ≡ out S x b w

two_f : (S : Classes) (x : Context) (o p : Option TypeTree) (f : FunTree) (g : FunTree) (cs : List TermTree) → ServeAll S x (o ∷ p ∷ []) (TermF f ∷ TermF g ∷ []) cs → TwoF S x o p f g cs
two_f S x o p f g (u ∷ v ∷ []) r =
    let i0 = kind_f f u r.0.0 in
    let i1 = kind_f g v r.1.0.0 in
    record { a = i0.0; b = i1.0; is = ap₂ (λ s t. s ∷ t ∷ []) i0.1 i1.1; at_a = subst (λ z. (w : TypeTree) → o ≡ Some w → kind_out S x (TermF f) w ≡ kind_out S x z w) i0.1 r.0.1; at_b = subst (λ z. (w : TypeTree) → p ≡ Some w → kind_out S x (TermF g) w ≡ kind_out S x z w) i1.1 r.1.0.1 }
two_f S x o p f g ([]) r = absurd r
two_f S x o p f g (u ∷ []) r = absurd r.1
two_f S x o p f g (u ∷ v ∷ y ∷ ys) r = absurd r.1.1

record PAndF (S : Classes) (x : Context) (o p : Option TypeTree) (f : PredTree) (g : FunTree) (cs : List TermTree) : Type 0 where
  a : PredTree
  b : FunTree
  is : cs ≡ TermP a ∷ TermF b ∷ []
  at_a : (w : TypeTree) → o ≡ Some w → is_typed S x f w ≡ is_typed S x a w
  at_b : (w : TypeTree) → p ≡ Some w → out S x g w ≡ out S x b w

p_and_f : (S : Classes) (x : Context) (o p : Option TypeTree) (f : PredTree) (g : FunTree) (cs : List TermTree) → ServeAll S x (o ∷ p ∷ []) (TermP f ∷ TermF g ∷ []) cs → PAndF S x o p f g cs
p_and_f S x o p f g (u ∷ v ∷ []) r =
    let i0 = kind_p f u r.0.0 in
    let i1 = kind_f g v r.1.0.0 in
    record { a = i0.0; b = i1.0; is = ap₂ (λ s t. s ∷ t ∷ []) i0.1 i1.1; at_a = λ w e. ok_same (is_typed S x f w) (is_typed S x i0.0 w) ((subst (λ z. (w : TypeTree) → o ≡ Some w → kind_out S x (TermP f) w ≡ kind_out S x z w) i0.1 r.0.1) w e); at_b = subst (λ z. (w : TypeTree) → p ≡ Some w → kind_out S x (TermF g) w ≡ kind_out S x z w) i1.1 r.1.0.1 }
p_and_f S x o p f g ([]) r = absurd r
p_and_f S x o p f g (u ∷ []) r = absurd r.1
p_and_f S x o p f g (u ∷ v ∷ y ∷ ys) r = absurd r.1.1

record OneP (S : Classes) (x : Context) (o : Option TypeTree) (f : PredTree) (cs : List TermTree) : Type 0 where
  a : PredTree
  is : cs ≡ TermP a ∷ []
  at_a : (w : TypeTree) → o ≡ Some w → is_typed S x f w ≡ is_typed S x a w

one_p : (S : Classes) (x : Context) (o : Option TypeTree) (f : PredTree) (cs : List TermTree) → ServeAll S x (o ∷ []) (TermP f ∷ []) cs → OneP S x o f cs
one_p S x o f (u ∷ []) r =
    let i0 = kind_p f u r.0.0 in
    record { a = i0.0; is = ap (λ s. s ∷ []) i0.1; at_a = λ w e. ok_same (is_typed S x f w) (is_typed S x i0.0 w) ((subst (λ z. (w : TypeTree) → o ≡ Some w → kind_out S x (TermP f) w ≡ kind_out S x z w) i0.1 r.0.1) w e) }
one_p S x o f ([]) r = absurd r
one_p S x o f (u ∷ y ∷ ys) r = absurd r.1

record TwoP (S : Classes) (x : Context) (o p : Option TypeTree) (f : PredTree) (g : PredTree) (cs : List TermTree) : Type 0 where
  a : PredTree
  b : PredTree
  is : cs ≡ TermP a ∷ TermP b ∷ []
  at_a : (w : TypeTree) → o ≡ Some w → is_typed S x f w ≡ is_typed S x a w
  at_b : (w : TypeTree) → p ≡ Some w → is_typed S x g w ≡ is_typed S x b w

two_p : (S : Classes) (x : Context) (o p : Option TypeTree) (f : PredTree) (g : PredTree) (cs : List TermTree) → ServeAll S x (o ∷ p ∷ []) (TermP f ∷ TermP g ∷ []) cs → TwoP S x o p f g cs
two_p S x o p f g (u ∷ v ∷ []) r =
    let i0 = kind_p f u r.0.0 in
    let i1 = kind_p g v r.1.0.0 in
    record { a = i0.0; b = i1.0; is = ap₂ (λ s t. s ∷ t ∷ []) i0.1 i1.1; at_a = λ w e. ok_same (is_typed S x f w) (is_typed S x i0.0 w) ((subst (λ z. (w : TypeTree) → o ≡ Some w → kind_out S x (TermP f) w ≡ kind_out S x z w) i0.1 r.0.1) w e); at_b = λ w e. ok_same (is_typed S x g w) (is_typed S x i1.0 w) ((subst (λ z. (w : TypeTree) → p ≡ Some w → kind_out S x (TermP g) w ≡ kind_out S x z w) i1.1 r.1.0.1) w e) }
two_p S x o p f g ([]) r = absurd r
two_p S x o p f g (u ∷ []) r = absurd r.1
two_p S x o p f g (u ∷ v ∷ y ∷ ys) r = absurd r.1.1

record FAndC (S : Classes) (x : Context) (o p : Option TypeTree) (f : FunTree) (g : ConstTree) (cs : List TermTree) : Type 0 where
  a : FunTree
  b : ConstTree
  is : cs ≡ TermF a ∷ TermC b ∷ []
  at_a : (w : TypeTree) → o ≡ Some w → out S x f w ≡ out S x a w
  at_b : (w : TypeTree) → p ≡ Some w → const_type S x g ≡ const_type S x b

f_and_c : (S : Classes) (x : Context) (o p : Option TypeTree) (f : FunTree) (g : ConstTree) (cs : List TermTree) → ServeAll S x (o ∷ p ∷ []) (TermF f ∷ TermC g ∷ []) cs → FAndC S x o p f g cs
f_and_c S x o p f g (u ∷ v ∷ []) r =
    let i0 = kind_f f u r.0.0 in
    let i1 = kind_c g v r.1.0.0 in
    record { a = i0.0; b = i1.0; is = ap₂ (λ s t. s ∷ t ∷ []) i0.1 i1.1; at_a = subst (λ z. (w : TypeTree) → o ≡ Some w → kind_out S x (TermF f) w ≡ kind_out S x z w) i0.1 r.0.1; at_b = subst (λ z. (w : TypeTree) → p ≡ Some w → kind_out S x (TermC g) w ≡ kind_out S x z w) i1.1 r.1.0.1 }
f_and_c S x o p f g ([]) r = absurd r
f_and_c S x o p f g (u ∷ []) r = absurd r.1
f_and_c S x o p f g (u ∷ v ∷ y ∷ ys) r = absurd r.1.1

record PAndC (S : Classes) (x : Context) (o p : Option TypeTree) (f : PredTree) (g : ConstTree) (cs : List TermTree) : Type 0 where
  a : PredTree
  b : ConstTree
  is : cs ≡ TermP a ∷ TermC b ∷ []
  at_a : (w : TypeTree) → o ≡ Some w → is_typed S x f w ≡ is_typed S x a w
  at_b : (w : TypeTree) → p ≡ Some w → const_type S x g ≡ const_type S x b

p_and_c : (S : Classes) (x : Context) (o p : Option TypeTree) (f : PredTree) (g : ConstTree) (cs : List TermTree) → ServeAll S x (o ∷ p ∷ []) (TermP f ∷ TermC g ∷ []) cs → PAndC S x o p f g cs
p_and_c S x o p f g (u ∷ v ∷ []) r =
    let i0 = kind_p f u r.0.0 in
    let i1 = kind_c g v r.1.0.0 in
    record { a = i0.0; b = i1.0; is = ap₂ (λ s t. s ∷ t ∷ []) i0.1 i1.1; at_a = λ w e. ok_same (is_typed S x f w) (is_typed S x i0.0 w) ((subst (λ z. (w : TypeTree) → o ≡ Some w → kind_out S x (TermP f) w ≡ kind_out S x z w) i0.1 r.0.1) w e); at_b = subst (λ z. (w : TypeTree) → p ≡ Some w → kind_out S x (TermC g) w ≡ kind_out S x z w) i1.1 r.1.0.1 }
p_and_c S x o p f g ([]) r = absurd r
p_and_c S x o p f g (u ∷ []) r = absurd r.1
p_and_c S x o p f g (u ∷ v ∷ y ∷ ys) r = absurd r.1.1

record OneC (S : Classes) (x : Context) (o : Option TypeTree) (f : ConstTree) (cs : List TermTree) : Type 0 where
  a : ConstTree
  is : cs ≡ TermC a ∷ []
  at_a : (w : TypeTree) → o ≡ Some w → const_type S x f ≡ const_type S x a

one_c : (S : Classes) (x : Context) (o : Option TypeTree) (f : ConstTree) (cs : List TermTree) → ServeAll S x (o ∷ []) (TermC f ∷ []) cs → OneC S x o f cs
one_c S x o f (u ∷ []) r =
    let i0 = kind_c f u r.0.0 in
    record { a = i0.0; is = ap (λ s. s ∷ []) i0.1; at_a = subst (λ z. (w : TypeTree) → o ≡ Some w → kind_out S x (TermC f) w ≡ kind_out S x z w) i0.1 r.0.1 }
one_c S x o f ([]) r = absurd r
one_c S x o f (u ∷ y ∷ ys) r = absurd r.1

record PAndTwoF (S : Classes) (x : Context) (o p q : Option TypeTree) (f : PredTree) (g : FunTree) (h : FunTree) (cs : List TermTree) : Type 0 where
  a : PredTree
  b : FunTree
  c : FunTree
  is : cs ≡ TermP a ∷ TermF b ∷ TermF c ∷ []
  at_a : (w : TypeTree) → o ≡ Some w → is_typed S x f w ≡ is_typed S x a w
  at_b : (w : TypeTree) → p ≡ Some w → out S x g w ≡ out S x b w
  at_c : (w : TypeTree) → q ≡ Some w → out S x h w ≡ out S x c w

p_and_two_f : (S : Classes) (x : Context) (o p q : Option TypeTree) (f : PredTree) (g : FunTree) (h : FunTree) (cs : List TermTree) → ServeAll S x (o ∷ p ∷ q ∷ []) (TermP f ∷ TermF g ∷ TermF h ∷ []) cs → PAndTwoF S x o p q f g h cs
p_and_two_f S x o p q f g h (u ∷ v ∷ w ∷ []) r =
    let i0 = kind_p f u r.0.0 in
    let i1 = kind_f g v r.1.0.0 in
    let i2 = kind_f h w r.1.1.0.0 in
    record { a = i0.0; b = i1.0; c = i2.0; is = ap₂ (λ s t. s ∷ t) i0.1 (ap₂ (λ s t. s ∷ t ∷ []) i1.1 i2.1); at_a = λ w e. ok_same (is_typed S x f w) (is_typed S x i0.0 w) ((subst (λ z. (w : TypeTree) → o ≡ Some w → kind_out S x (TermP f) w ≡ kind_out S x z w) i0.1 r.0.1) w e); at_b = subst (λ z. (w : TypeTree) → p ≡ Some w → kind_out S x (TermF g) w ≡ kind_out S x z w) i1.1 r.1.0.1; at_c = subst (λ z. (w : TypeTree) → q ≡ Some w → kind_out S x (TermF h) w ≡ kind_out S x z w) i2.1 r.1.1.0.1 }
p_and_two_f S x o p q f g h ([]) r = absurd r
p_and_two_f S x o p q f g h (u ∷ []) r = absurd r.1
p_and_two_f S x o p q f g h (u ∷ v ∷ []) r = absurd r.1.1
p_and_two_f S x o p q f g h (u ∷ v ∷ w ∷ y ∷ ys) r = absurd r.1.1.1

bind_agree : {A B : Type 0} (k l : A → Option B) (o p : Option A) → o ≡ p → ((a : A) → o ≡ Some a → k a ≡ l a) → option_and_then k o ≡ option_and_then l p
bind_agree k l (Some a) p e h = h a refl ∙ ap (option_and_then l) e
bind_agree k l None p e h = ap (option_and_then l) e

when_agree : (k l : TypeTree → Bool) (o p : Option TypeTree) → o ≡ p → ((a : TypeTree) → o ≡ Some a → k a ≡ l a) → when o k ≡ when p l
when_agree k l (Some a) p e h = h a refl ∙ ap (λ z. when z l) e
when_agree k l None p e h = ap (λ z. when z l) e

built_out : (S : Classes) (x : Context) (t b z : TermTree) (u : TypeTree) (cs ds : List TermTree) → cs ≡ ds → rebuild t ds ≡ Some z → rebuild t cs ≡ Some b → kind_out S x t u ≡ kind_out S x z u → kind_out S x t u ≡ kind_out S x b u
built_out S x t b z u cs ds e f g h = h ∙ ap (λ y. kind_out S x y u) (some_same z b (sym f ∙ (ap (rebuild t) (sym e) ∙ g)))

pub kept_node : (S : Classes) (x : Context) (t : TermTree) (u : TypeTree) (cs : List TermTree) (b : TermTree) → ServeAll S x (inputs S x t u) (children t) cs → rebuild t cs ≡ Some b → kind_out S x t u ≡ kind_out S x b u
kept_node S x (TermF (FComp f g)) u cs b h e =
    let i = two_f S x (out S x g u) (Some u) f g cs h in
    built_out S x (TermF (FComp f g)) b (TermF (FComp i.a i.b)) u cs (TermF i.a ∷ TermF i.b ∷ []) i.is refl e (bind_agree (λ w. out S x f w) (λ w. out S x i.a w) (out S x g u) (out S x i.b u) (i.at_b u refl) i.at_a)
kept_node S x (TermF (FPair f g)) u cs b h e =
    let i = two_f S x (Some u) (Some u) f g cs h in
    built_out S x (TermF (FPair f g)) b (TermF (FPair i.a i.b)) u cs (TermF i.a ∷ TermF i.b ∷ []) i.is refl e (ap₂ pair_of (i.at_a u refl) (i.at_b u refl))
kept_node S x (TermF (FTimes f g)) u cs b h e =
    let i = two_f S x (first_type u) (second_type u) f g cs h in
    built_out S x (TermF (FTimes f g)) b (TermF (FTimes i.a i.b)) u cs (TermF i.a ∷ TermF i.b ∷ []) i.is refl e (ap₂ pair_of (bind_agree (λ w. out S x f w) (λ w. out S x i.a w) (first_type u) (first_type u) refl i.at_a) (bind_agree (λ w. out S x g w) (λ w. out S x i.b w) (second_type u) (second_type u) refl i.at_b))
kept_node S x (TermF (FK c)) u cs b h e =
    let i = one_c S x (Some u) c cs h in
    built_out S x (TermF (FK c)) b (TermF (FK i.a)) u cs (TermC i.a ∷ []) i.is refl e (i.at_a u refl)
kept_node S x (TermF (FC f c)) u cs b h e =
    let i = f_and_c S x (option_map (λ w. TPair w u) (const_type S x c)) (Some u) f c cs h in
    built_out S x (TermF (FC f c)) b (TermF (FC i.a i.b)) u cs (TermF i.a ∷ TermC i.b ∷ []) i.is refl e (bind_agree (λ w. out S x f (TPair w u)) (λ w. out S x i.a (TPair w u)) (const_type S x c) (const_type S x i.b) (i.at_b u refl) (λ w k. i.at_a (TPair w u) (ap (option_map (λ z. TPair z u)) k)))
kept_node S x (TermF (FIf p f g)) u cs b h e =
    let i = p_and_two_f S x (Some u) (Some u) (Some u) p f g cs h in
    built_out S x (TermF (FIf p f g)) b (TermF (FIf i.a i.b i.c)) u cs (TermP i.a ∷ TermF i.b ∷ TermF i.c ∷ []) i.is refl e (ap₂ the_if (i.at_a u refl) (ap₂ one_of (i.at_b u refl) (i.at_c u refl)))
kept_node S x (TermF (FIterate p f)) u cs b h e =
    let i = p_and_f S x (member_type u) (member_type u) p f cs h in
    built_out S x (TermF (FIterate p f)) b (TermF (FIterate i.a i.b)) u cs (TermP i.a ∷ TermF i.b ∷ []) i.is refl e (bind_agree (λ w. the_if (is_typed S x p w) (option_map TSet (out S x f w))) (λ w. the_if (is_typed S x i.a w) (option_map TSet (out S x i.b w))) (member_type u) (member_type u) refl (λ w k. ap₂ the_if (i.at_a w k) (ap (option_map TSet) (i.at_b w k))))
kept_node S x (TermF (FIter p f)) u cs b h e =
    let i = p_and_f S x (iter_type u) (iter_type u) p f cs h in
    built_out S x (TermF (FIter p f)) b (TermF (FIter i.a i.b)) u cs (TermP i.a ∷ TermF i.b ∷ []) i.is refl e (bind_agree (λ w. the_if (is_typed S x p w) (option_map TSet (out S x f w))) (λ w. the_if (is_typed S x i.a w) (option_map TSet (out S x i.b w))) (iter_type u) (iter_type u) refl (λ w k. ap₂ the_if (i.at_a w k) (ap (option_map TSet) (i.at_b w k))))
kept_node S x (TermF (FJoin p f)) u cs b h e =
    let i = p_and_f S x (join_type u) (join_type u) p f cs h in
    built_out S x (TermF (FJoin p f)) b (TermF (FJoin i.a i.b)) u cs (TermP i.a ∷ TermF i.b ∷ []) i.is refl e (bind_agree (λ w. the_if (is_typed S x p w) (option_map TSet (out S x f w))) (λ w. the_if (is_typed S x i.a w) (option_map TSet (out S x i.b w))) (join_type u) (join_type u) refl (λ w k. ap₂ the_if (i.at_a w k) (ap (option_map TSet) (i.at_b w k))))
kept_node S x (TermF (FNest f g)) u cs b h e =
    let i = two_f S x (option_and_then first_type (join_type u)) (option_and_then first_type (join_type u)) f g cs h in
    built_out S x (TermF (FNest f g)) b (TermF (FNest i.a i.b)) u cs (TermF i.a ∷ TermF i.b ∷ []) i.is refl e (bind_agree (λ w. option_and_then (λ z. nest_of (out S x f z) (out S x g z) w) (first_type w)) (λ w. option_and_then (λ z. nest_of (out S x i.a z) (out S x i.b z) w) (first_type w)) (join_type u) (join_type u) refl (λ w k. bind_agree (λ z. nest_of (out S x f z) (out S x g z) w) (λ z. nest_of (out S x i.a z) (out S x i.b z) w) (first_type w) (first_type w) refl (λ z l. ap₂ (λ a d. nest_of a d w) (i.at_a z (ap (option_and_then first_type) k ∙ l)) (i.at_b z (ap (option_and_then first_type) k ∙ l)))))
kept_node S x (TermF (FUnnest f g)) u cs b h e =
    let i = two_f S x (member_type u) (member_type u) f g cs h in
    built_out S x (TermF (FUnnest f g)) b (TermF (FUnnest i.a i.b)) u cs (TermF i.a ∷ TermF i.b ∷ []) i.is refl e (bind_agree (λ w. option_map TSet (pair_of (out S x f w) (option_and_then member_type (out S x g w)))) (λ w. option_map TSet (pair_of (out S x i.a w) (option_and_then member_type (out S x i.b w)))) (member_type u) (member_type u) refl (λ w k. ap₂ (λ a d. option_map TSet (pair_of a (option_and_then member_type d))) (i.at_a w k) (i.at_b w k)))
kept_node S x (TermP (PAt p f)) u cs b h e =
    let i = p_and_f S x (out S x f u) (Some u) p f cs h in
    built_out S x (TermP (PAt p f)) b (TermP (PAt i.a i.b)) u cs (TermP i.a ∷ TermF i.b ∷ []) i.is refl e (ap (λ b. cond b (Some TBool) None) (when_agree (λ w. is_typed S x p w) (λ w. is_typed S x i.a w) (out S x f u) (out S x i.b u) (i.at_b u refl) i.at_a))
kept_node S x (TermP (PAnd p q)) u cs b h e =
    let i = two_p S x (Some u) (Some u) p q cs h in
    built_out S x (TermP (PAnd p q)) b (TermP (PAnd i.a i.b)) u cs (TermP i.a ∷ TermP i.b ∷ []) i.is refl e (ap (λ b. cond b (Some TBool) None) (ap₂ (λ a d. a && d) (i.at_a u refl) (i.at_b u refl)))
kept_node S x (TermP (POr p q)) u cs b h e =
    let i = two_p S x (Some u) (Some u) p q cs h in
    built_out S x (TermP (POr p q)) b (TermP (POr i.a i.b)) u cs (TermP i.a ∷ TermP i.b ∷ []) i.is refl e (ap (λ b. cond b (Some TBool) None) (ap₂ (λ a d. a && d) (i.at_a u refl) (i.at_b u refl)))
kept_node S x (TermP (PNot p)) u cs b h e =
    let i = one_p S x (Some u) p cs h in
    built_out S x (TermP (PNot p)) b (TermP (PNot i.a)) u cs (TermP i.a ∷ []) i.is refl e (ap (λ b. cond b (Some TBool) None) (i.at_a u refl))
kept_node S x (TermP (PInv p)) u cs b h e =
    let i = one_p S x (pair_of (second_type u) (first_type u)) p cs h in
    built_out S x (TermP (PInv p)) b (TermP (PInv i.a)) u cs (TermP i.a ∷ []) i.is refl e (ap (λ b. cond b (Some TBool) None) (when_agree (λ w. is_typed S x p w) (λ w. is_typed S x i.a w) (pair_of (second_type u) (first_type u)) (pair_of (second_type u) (first_type u)) refl i.at_a))
kept_node S x (TermP (PCP p c)) u cs b h e =
    let i = p_and_c S x (option_map (λ w. TPair w u) (const_type S x c)) (Some u) p c cs h in
    built_out S x (TermP (PCP p c)) b (TermP (PCP i.a i.b)) u cs (TermP i.a ∷ TermC i.b ∷ []) i.is refl e (ap (λ b. cond b (Some TBool) None) (when_agree (λ w. is_typed S x p (TPair w u)) (λ w. is_typed S x i.a (TPair w u)) (const_type S x c) (const_type S x i.b) (i.at_b u refl) (λ w k. i.at_a (TPair w u) (ap (option_map (λ z. TPair z u)) k))))
kept_node S x (TermP (PEx p)) u cs b h e =
    let i = one_p S x (iter_type u) p cs h in
    built_out S x (TermP (PEx p)) b (TermP (PEx i.a)) u cs (TermP i.a ∷ []) i.is refl e (ap (λ b. cond b (Some TBool) None) (when_agree (λ w. is_typed S x p w) (λ w. is_typed S x i.a w) (iter_type u) (iter_type u) refl i.at_a))
kept_node S x (TermP (PFa p)) u cs b h e =
    let i = one_p S x (iter_type u) p cs h in
    built_out S x (TermP (PFa p)) b (TermP (PFa i.a)) u cs (TermP i.a ∷ []) i.is refl e (ap (λ b. cond b (Some TBool) None) (when_agree (λ w. is_typed S x p w) (λ w. is_typed S x i.a w) (iter_type u) (iter_type u) refl i.at_a))
kept_node S x _ u cs b h e = absurd (cc)

-- ---- along a path

serves_itself : (S : Classes) (x : Context) (o : Option TypeTree) (c : TermTree) → Serves S x o c c
serves_itself S x o (TermF f) = (tt, λ w e. refl)
serves_itself S x o (TermP f) = (tt, λ w e. refl)
serves_itself S x o (TermC f) = (tt, λ w e. refl)

pub lengths : (S : Classes) (x : Context) (t : TermTree) (u : TypeTree) → ServeAll S x (inputs S x t u) (children t) (children t)
lengths S x (TermF (FComp f g)) u = (serves_itself S x _ (TermF f), (serves_itself S x _ (TermF g), tt))
lengths S x (TermF (FPair f g)) u = (serves_itself S x _ (TermF f), (serves_itself S x _ (TermF g), tt))
lengths S x (TermF (FTimes f g)) u = (serves_itself S x _ (TermF f), (serves_itself S x _ (TermF g), tt))
lengths S x (TermF (FK c)) u = (serves_itself S x _ (TermC c), tt)
lengths S x (TermF (FC f c)) u = (serves_itself S x _ (TermF f), (serves_itself S x _ (TermC c), tt))
lengths S x (TermF (FIf p f g)) u = (serves_itself S x _ (TermP p), (serves_itself S x _ (TermF f), (serves_itself S x _ (TermF g), tt)))
lengths S x (TermF (FIterate p f)) u = (serves_itself S x _ (TermP p), (serves_itself S x _ (TermF f), tt))
lengths S x (TermF (FIter p f)) u = (serves_itself S x _ (TermP p), (serves_itself S x _ (TermF f), tt))
lengths S x (TermF (FJoin p f)) u = (serves_itself S x _ (TermP p), (serves_itself S x _ (TermF f), tt))
lengths S x (TermF (FNest f g)) u = (serves_itself S x _ (TermF f), (serves_itself S x _ (TermF g), tt))
lengths S x (TermF (FUnnest f g)) u = (serves_itself S x _ (TermF f), (serves_itself S x _ (TermF g), tt))
lengths S x (TermP (PAt p f)) u = (serves_itself S x _ (TermP p), (serves_itself S x _ (TermF f), tt))
lengths S x (TermP (PAnd p q)) u = (serves_itself S x _ (TermP p), (serves_itself S x _ (TermP q), tt))
lengths S x (TermP (POr p q)) u = (serves_itself S x _ (TermP p), (serves_itself S x _ (TermP q), tt))
lengths S x (TermP (PNot p)) u = (serves_itself S x _ (TermP p), tt)
lengths S x (TermP (PInv p)) u = (serves_itself S x _ (TermP p), tt)
lengths S x (TermP (PCP p c)) u = (serves_itself S x _ (TermP p), (serves_itself S x _ (TermC c), tt))
lengths S x (TermP (PEx p)) u = (serves_itself S x _ (TermP p), tt)
lengths S x (TermP (PFa p)) u = (serves_itself S x _ (TermP p), tt)
lengths S x _ u = tt

pub with_nth_serves : (S : Classes) (x : Context) (n : ℕ) (os : List (Option TypeTree)) (cs : List TermTree) (c e : TermTree) (w : TypeTree) → ServeAll S x os cs cs → nth n cs ≡ Some c → flatten (nth n os) ≡ Some w → Serves S x (Some w) c e → ServeAll S x os cs (with_nth n e cs)
with_nth_serves S x n [] [] c e w h i j k = absurd (cc)
with_nth_serves S x zero (o ∷ os) (b ∷ cs) c e w h i j k = absurd (cc)
with_nth_serves S x (suc zero) (o ∷ os) (b ∷ cs) c e w h i j k = (subst (λ z. Serves S x z b e) (sym j) (subst (λ z. Serves S x (Some w) z e) (sym (some_same b c i)) k), h.1)
with_nth_serves S x (suc (suc n)) (o ∷ os) (b ∷ cs) c e w h i j k = (h.0, with_nth_serves S x (suc n) os cs c e w h.1 i j k)
with_nth_serves S x n [] (b ∷ cs) c e w h i j k = absurd h
with_nth_serves S x n (o ∷ os) [] c e w h i j k = absurd h

some_kind : (t z b : TermTree) → SameKind t z → Some z ≡ Some b → SameKind t b
some_kind t z b h e = subst (SameKind t) (some_same z b e) h

pub same_kind_built : (t : TermTree) (cs : List TermTree) (b : TermTree) → rebuild t cs ≡ Some b → SameKind t b
same_kind_built (TermF (FComp y1 y2)) (TermF f ∷ TermF g ∷ []) b e = some_kind (TermF (FComp y1 y2)) (TermF (FComp f g)) b tt e
same_kind_built (TermF (FPair y1 y2)) (TermF f ∷ TermF g ∷ []) b e = some_kind (TermF (FPair y1 y2)) (TermF (FPair f g)) b tt e
same_kind_built (TermF (FTimes y1 y2)) (TermF f ∷ TermF g ∷ []) b e = some_kind (TermF (FTimes y1 y2)) (TermF (FTimes f g)) b tt e
same_kind_built (TermF (FK y1)) (TermC c ∷ []) b e = some_kind (TermF (FK y1)) (TermF (FK c)) b tt e
same_kind_built (TermF (FC y1 y2)) (TermF f ∷ TermC c ∷ []) b e = some_kind (TermF (FC y1 y2)) (TermF (FC f c)) b tt e
same_kind_built (TermF (FIf y1 y2 y3)) (TermP p ∷ TermF f ∷ TermF g ∷ []) b e = some_kind (TermF (FIf y1 y2 y3)) (TermF (FIf p f g)) b tt e
same_kind_built (TermF (FIterate y1 y2)) (TermP p ∷ TermF f ∷ []) b e = some_kind (TermF (FIterate y1 y2)) (TermF (FIterate p f)) b tt e
same_kind_built (TermF (FIter y1 y2)) (TermP p ∷ TermF f ∷ []) b e = some_kind (TermF (FIter y1 y2)) (TermF (FIter p f)) b tt e
same_kind_built (TermF (FJoin y1 y2)) (TermP p ∷ TermF f ∷ []) b e = some_kind (TermF (FJoin y1 y2)) (TermF (FJoin p f)) b tt e
same_kind_built (TermF (FNest y1 y2)) (TermF f ∷ TermF g ∷ []) b e = some_kind (TermF (FNest y1 y2)) (TermF (FNest f g)) b tt e
same_kind_built (TermF (FUnnest y1 y2)) (TermF f ∷ TermF g ∷ []) b e = some_kind (TermF (FUnnest y1 y2)) (TermF (FUnnest f g)) b tt e
same_kind_built (TermP (PAt y1 y2)) (TermP p ∷ TermF f ∷ []) b e = some_kind (TermP (PAt y1 y2)) (TermP (PAt p f)) b tt e
same_kind_built (TermP (PAnd y1 y2)) (TermP p ∷ TermP q ∷ []) b e = some_kind (TermP (PAnd y1 y2)) (TermP (PAnd p q)) b tt e
same_kind_built (TermP (POr y1 y2)) (TermP p ∷ TermP q ∷ []) b e = some_kind (TermP (POr y1 y2)) (TermP (POr p q)) b tt e
same_kind_built (TermP (PNot y1)) (TermP p ∷ []) b e = some_kind (TermP (PNot y1)) (TermP (PNot p)) b tt e
same_kind_built (TermP (PInv y1)) (TermP p ∷ []) b e = some_kind (TermP (PInv y1)) (TermP (PInv p)) b tt e
same_kind_built (TermP (PCP y1 y2)) (TermP p ∷ TermC c ∷ []) b e = some_kind (TermP (PCP y1 y2)) (TermP (PCP p c)) b tt e
same_kind_built (TermP (PEx y1)) (TermP p ∷ []) b e = some_kind (TermP (PEx y1)) (TermP (PEx p)) b tt e
same_kind_built (TermP (PFa y1)) (TermP p ∷ []) b e = some_kind (TermP (PFa y1)) (TermP (PFa p)) b tt e
same_kind_built _ _ b e = absurd (cc)

pub kept_at : (S : Classes) (x : Context) (q : List ℕ) (t : TermTree) (u : TypeTree) (l r b : TermTree) (w : TypeTree) → sub_at t q ≡ Some l → place S x t u q ≡ Some w → put_in t q r ≡ Some b → Serves S x (Some w) l r → Serves S x (Some u) t b
kept_at S x [] t u l r b w i j k h = subst (λ z. Serves S x (Some z) t b) (sym (some_same u w j)) (subst (λ z. Serves S x (Some w) z b) (sym (some_same t l i)) (subst (λ z. Serves S x (Some w) l z) (some_same r b k) h))
kept_at S x (n ∷ q) t u l r b w i j k h =
    let a = then_some (λ z. sub_at z q) (nth n (children t)) l i in
    let d = then_some (λ z. option_and_then (λ y. place S x z y q) (flatten (nth n (inputs S x t u)))) (nth n (children t)) w j in
    let g = then_some (λ y. place S x d.0 y q) (flatten (nth n (inputs S x t u))) w d.2 in
    let o = then_some (λ z. option_and_then (λ e. rebuild t (with_nth n e (children t))) (put_in z q r)) (nth n (children t)) b k in
    let p = then_some (λ e. rebuild t (with_nth n e (children t))) (put_in o.0 q r) b o.2 in
    let ad : a.0 ≡ d.0 = some_same a.0 d.0 (sym a.1 ∙ d.1) in
    let od : o.0 ≡ d.0 = some_same o.0 d.0 (sym o.1 ∙ d.1) in
    let inner = kept_at S x q d.0 g.0 l r p.0 w (subst (λ z. sub_at z q ≡ Some l) ad a.2) g.2 (subst (λ z. put_in z q r ≡ Some p.0) od p.1) h in
    (same_kind_built t (with_nth n p.0 (children t)) b p.2, λ z e. subst (λ y. kind_out S x t y ≡ kind_out S x b y) (some_same u z e) (kept_node S x t u (with_nth n p.0 (children t)) b (with_nth_serves S x n (inputs S x t u) (children t) d.0 p.0 g.0 (lengths S x t u) d.1 g.1 inner) p.2))
