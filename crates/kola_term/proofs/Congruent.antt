-- Children of equal value give nodes of equal value.
use Rattle.std.proofs.Common.{◌≡◌, Bool, true, false, not, cond, ◌&&◌, ◌||◌, Option, Some, None, refl, sym, ap, ap₂, ◌∙◌, subst, option_and_then, option_map, List, [], ◌∷◌, map}
use Rattle.kola_values.specs.Values.{ValueTree, VPair}
use Rattle.kola_values.specs.Types.{TypeTree, TSet, TPair}
use Rattle.kola_values.specs.Order.{same}
use Rattle.kola_values.specs.Sets.{members, set_of}
use Rattle.kola_values.specs.Databases.{Classes, Objects, HasType}
use Rattle.kola_schema.specs.Meets.{Meets}
use Rattle.kola_values.proofs.Anys.{any_agree}
use Rattle.kola_values.proofs.Each.{kept_agree, map_agree, flat_map_agree, all_agree}
use Rattle.kola_values.proofs.Typed.{members_typed}
use Rattle.kola_term.specs.Terms.{ConstTree, FunTree, FComp, FPair, FTimes, FK, FC, FIf, FIterate, FIter, FJoin, FNest, FUnnest, PredTree, PAt, PAnd, POr, PNot, PInv, PCP, PEx, PFa, TermTree, TermF, TermP, TermC}
use Rattle.kola_term.specs.Meaning.{left, right, constant, den, holds_at}
use Rattle.kola_term.specs.Typing.{out, is_typed, const_type, first_type, second_type, member_type, iter_type, join_type, the_if, pair_of, nest_of}
use Rattle.kola_term.specs.Agreement.{Agree}
use Rattle.kola_term.specs.Places.{children, rebuild, inputs, Typed}
use Rattle.kola_term.proofs.Inversions.{then_some, fst_some, member_some, iter_some, join_some, pair_some, some_same, when_true}
use Rattle.kola_term.proofs.Attributes.{constant_typed}
use Rattle.kola_term.proofs.Sound.{sound, left_typed, right_typed}

abbrev pub AgreeAt : Classes → Objects → Option TypeTree → TermTree → TermTree → Type 0
AgreeAt S d (Some u) b c = Agree S d u b c
AgreeAt S d None b c = b ≡ c

abbrev pub AgreeAll : Classes → Objects → List (Option TypeTree) → List TermTree → List TermTree → Type 0
AgreeAll S d [] [] [] = Unit {0}
AgreeAll S d (o ∷ os) (b ∷ bs) (c ∷ cs) = AgreeAt S d o b c × AgreeAll S d os bs cs
AgreeAll S d _ _ _ = ⊥

-- ---- the kinds of children

module _ (S : Classes) (d : Objects) where
  is_f : (o : Option TypeTree) (f : FunTree) (c : TermTree) → AgreeAt S d o (TermF f) c → (g : FunTree) × (c ≡ TermF g)
  is_f (Some u) f (TermF g) h = (g, refl)
  is_f (Some u) f (TermP g) h = absurd h
  is_f (Some u) f (TermC g) h = absurd h
  is_f None f c h = (f, sym h)

  is_p : (o : Option TypeTree) (f : PredTree) (c : TermTree) → AgreeAt S d o (TermP f) c → (g : PredTree) × (c ≡ TermP g)
  is_p (Some u) f (TermP g) h = (g, refl)
  is_p (Some u) f (TermF g) h = absurd h
  is_p (Some u) f (TermC g) h = absurd h
  is_p None f c h = (f, sym h)

  is_c : (o : Option TypeTree) (f : ConstTree) (c : TermTree) → AgreeAt S d o (TermC f) c → c ≡ TermC f
  is_c (Some u) f (TermC g) h = sym (ap TermC h)
  is_c (Some u) f (TermF g) h = absurd h
  is_c (Some u) f (TermP g) h = absurd h
  is_c None f c h = sym h

  -- what agreement at a known type says
  f_at : (o : Option TypeTree) (u : TypeTree) (f g : FunTree) → o ≡ Some u → AgreeAt S d o (TermF f) (TermF g) → (v : ValueTree) → HasType d v u → den S d f v ≡ den S d g v
  f_at o u f g e h = subst (λ x. AgreeAt S d x (TermF f) (TermF g)) e h

  p_at : (o : Option TypeTree) (u : TypeTree) (f g : PredTree) → o ≡ Some u → AgreeAt S d o (TermP f) (TermP g) → (v : ValueTree) → HasType d v u → holds_at S d f v ≡ holds_at S d g v
  p_at o u f g e h = subst (λ x. AgreeAt S d x (TermP f) (TermP g)) e h

record TwoF (S : Classes) (d : Objects) (o p : Option TypeTree) (f : FunTree) (g : FunTree) (cs : List TermTree) : Type 0 where
  a : FunTree
  b : FunTree
  is : cs ≡ TermF a ∷ TermF b ∷ []
  at_a : AgreeAt S d o (TermF f) (TermF a)
  at_b : AgreeAt S d p (TermF g) (TermF b)

two_f : (S : Classes) (d : Objects) (o p : Option TypeTree) (f : FunTree) (g : FunTree) (cs : List TermTree) → AgreeAll S d (o ∷ p ∷ []) (TermF f ∷ TermF g ∷ []) cs → TwoF S d o p f g cs
two_f S d o p f g (x ∷ y ∷ []) r =
    let i0 = is_f S d o f x r.0 in
    let i1 = is_f S d p g y r.1.0 in
    record { a = i0.0; b = i1.0; is = ap₂ (λ s t. s ∷ t ∷ []) i0.1 i1.1; at_a = subst (AgreeAt S d o (TermF f)) i0.1 r.0; at_b = subst (AgreeAt S d p (TermF g)) i1.1 r.1.0 }
two_f S d o p f g ([]) r = absurd r
two_f S d o p f g (x ∷ []) r = absurd r.1
two_f S d o p f g (x ∷ y ∷ u ∷ us) r = absurd r.1.1

record PAndF (S : Classes) (d : Objects) (o p : Option TypeTree) (f : PredTree) (g : FunTree) (cs : List TermTree) : Type 0 where
  a : PredTree
  b : FunTree
  is : cs ≡ TermP a ∷ TermF b ∷ []
  at_a : AgreeAt S d o (TermP f) (TermP a)
  at_b : AgreeAt S d p (TermF g) (TermF b)

p_and_f : (S : Classes) (d : Objects) (o p : Option TypeTree) (f : PredTree) (g : FunTree) (cs : List TermTree) → AgreeAll S d (o ∷ p ∷ []) (TermP f ∷ TermF g ∷ []) cs → PAndF S d o p f g cs
p_and_f S d o p f g (x ∷ y ∷ []) r =
    let i0 = is_p S d o f x r.0 in
    let i1 = is_f S d p g y r.1.0 in
    record { a = i0.0; b = i1.0; is = ap₂ (λ s t. s ∷ t ∷ []) i0.1 i1.1; at_a = subst (AgreeAt S d o (TermP f)) i0.1 r.0; at_b = subst (AgreeAt S d p (TermF g)) i1.1 r.1.0 }
p_and_f S d o p f g ([]) r = absurd r
p_and_f S d o p f g (x ∷ []) r = absurd r.1
p_and_f S d o p f g (x ∷ y ∷ u ∷ us) r = absurd r.1.1

record OneP (S : Classes) (d : Objects) (o : Option TypeTree) (f : PredTree) (cs : List TermTree) : Type 0 where
  a : PredTree
  is : cs ≡ TermP a ∷ []
  at_a : AgreeAt S d o (TermP f) (TermP a)

one_p : (S : Classes) (d : Objects) (o : Option TypeTree) (f : PredTree) (cs : List TermTree) → AgreeAll S d (o ∷ []) (TermP f ∷ []) cs → OneP S d o f cs
one_p S d o f (x ∷ []) r =
    let i0 = is_p S d o f x r.0 in
    record { a = i0.0; is = ap (λ s. s ∷ []) i0.1; at_a = subst (AgreeAt S d o (TermP f)) i0.1 r.0 }
one_p S d o f ([]) r = absurd r
one_p S d o f (x ∷ u ∷ us) r = absurd r.1

record TwoP (S : Classes) (d : Objects) (o p : Option TypeTree) (f : PredTree) (g : PredTree) (cs : List TermTree) : Type 0 where
  a : PredTree
  b : PredTree
  is : cs ≡ TermP a ∷ TermP b ∷ []
  at_a : AgreeAt S d o (TermP f) (TermP a)
  at_b : AgreeAt S d p (TermP g) (TermP b)

two_p : (S : Classes) (d : Objects) (o p : Option TypeTree) (f : PredTree) (g : PredTree) (cs : List TermTree) → AgreeAll S d (o ∷ p ∷ []) (TermP f ∷ TermP g ∷ []) cs → TwoP S d o p f g cs
two_p S d o p f g (x ∷ y ∷ []) r =
    let i0 = is_p S d o f x r.0 in
    let i1 = is_p S d p g y r.1.0 in
    record { a = i0.0; b = i1.0; is = ap₂ (λ s t. s ∷ t ∷ []) i0.1 i1.1; at_a = subst (AgreeAt S d o (TermP f)) i0.1 r.0; at_b = subst (AgreeAt S d p (TermP g)) i1.1 r.1.0 }
two_p S d o p f g ([]) r = absurd r
two_p S d o p f g (x ∷ []) r = absurd r.1
two_p S d o p f g (x ∷ y ∷ u ∷ us) r = absurd r.1.1

record FAndC (S : Classes) (d : Objects) (o p : Option TypeTree) (f : FunTree) (g : ConstTree) (cs : List TermTree) : Type 0 where
  a : FunTree
  b : ConstTree
  is : cs ≡ TermF a ∷ TermC b ∷ []
  at_a : AgreeAt S d o (TermF f) (TermF a)
  at_b : AgreeAt S d p (TermC g) (TermC b)

f_and_c : (S : Classes) (d : Objects) (o p : Option TypeTree) (f : FunTree) (g : ConstTree) (cs : List TermTree) → AgreeAll S d (o ∷ p ∷ []) (TermF f ∷ TermC g ∷ []) cs → FAndC S d o p f g cs
f_and_c S d o p f g (x ∷ y ∷ []) r =
    let i0 = is_f S d o f x r.0 in
    let i1 = is_c S d p g y r.1.0 in
    record { a = i0.0; b = g; is = ap₂ (λ s t. s ∷ t ∷ []) i0.1 i1; at_a = subst (AgreeAt S d o (TermF f)) i0.1 r.0; at_b = subst (AgreeAt S d p (TermC g)) i1 r.1.0 }
f_and_c S d o p f g ([]) r = absurd r
f_and_c S d o p f g (x ∷ []) r = absurd r.1
f_and_c S d o p f g (x ∷ y ∷ u ∷ us) r = absurd r.1.1

record PAndC (S : Classes) (d : Objects) (o p : Option TypeTree) (f : PredTree) (g : ConstTree) (cs : List TermTree) : Type 0 where
  a : PredTree
  b : ConstTree
  is : cs ≡ TermP a ∷ TermC b ∷ []
  at_a : AgreeAt S d o (TermP f) (TermP a)
  at_b : AgreeAt S d p (TermC g) (TermC b)

p_and_c : (S : Classes) (d : Objects) (o p : Option TypeTree) (f : PredTree) (g : ConstTree) (cs : List TermTree) → AgreeAll S d (o ∷ p ∷ []) (TermP f ∷ TermC g ∷ []) cs → PAndC S d o p f g cs
p_and_c S d o p f g (x ∷ y ∷ []) r =
    let i0 = is_p S d o f x r.0 in
    let i1 = is_c S d p g y r.1.0 in
    record { a = i0.0; b = g; is = ap₂ (λ s t. s ∷ t ∷ []) i0.1 i1; at_a = subst (AgreeAt S d o (TermP f)) i0.1 r.0; at_b = subst (AgreeAt S d p (TermC g)) i1 r.1.0 }
p_and_c S d o p f g ([]) r = absurd r
p_and_c S d o p f g (x ∷ []) r = absurd r.1
p_and_c S d o p f g (x ∷ y ∷ u ∷ us) r = absurd r.1.1

record OneC (S : Classes) (d : Objects) (o : Option TypeTree) (f : ConstTree) (cs : List TermTree) : Type 0 where
  a : ConstTree
  is : cs ≡ TermC a ∷ []
  at_a : AgreeAt S d o (TermC f) (TermC a)

one_c : (S : Classes) (d : Objects) (o : Option TypeTree) (f : ConstTree) (cs : List TermTree) → AgreeAll S d (o ∷ []) (TermC f ∷ []) cs → OneC S d o f cs
one_c S d o f (x ∷ []) r =
    let i0 = is_c S d o f x r.0 in
    record { a = f; is = ap (λ s. s ∷ []) i0; at_a = subst (AgreeAt S d o (TermC f)) i0 r.0 }
one_c S d o f ([]) r = absurd r
one_c S d o f (x ∷ u ∷ us) r = absurd r.1

record PAndTwoF (S : Classes) (d : Objects) (o p q : Option TypeTree) (f : PredTree) (g : FunTree) (h : FunTree) (cs : List TermTree) : Type 0 where
  a : PredTree
  b : FunTree
  c : FunTree
  is : cs ≡ TermP a ∷ TermF b ∷ TermF c ∷ []
  at_a : AgreeAt S d o (TermP f) (TermP a)
  at_b : AgreeAt S d p (TermF g) (TermF b)
  at_c : AgreeAt S d q (TermF h) (TermF c)

p_and_two_f : (S : Classes) (d : Objects) (o p q : Option TypeTree) (f : PredTree) (g : FunTree) (h : FunTree) (cs : List TermTree) → AgreeAll S d (o ∷ p ∷ q ∷ []) (TermP f ∷ TermF g ∷ TermF h ∷ []) cs → PAndTwoF S d o p q f g h cs
p_and_two_f S d o p q f g h (x ∷ y ∷ z ∷ []) r =
    let i0 = is_p S d o f x r.0 in
    let i1 = is_f S d p g y r.1.0 in
    let i2 = is_f S d q h z r.1.1.0 in
    record { a = i0.0; b = i1.0; c = i2.0; is = ap₂ (λ s t. s ∷ t) i0.1 (ap₂ (λ s t. s ∷ t ∷ []) i1.1 i2.1); at_a = subst (AgreeAt S d o (TermP f)) i0.1 r.0; at_b = subst (AgreeAt S d p (TermF g)) i1.1 r.1.0; at_c = subst (AgreeAt S d q (TermF h)) i2.1 r.1.1.0 }
p_and_two_f S d o p q f g h ([]) r = absurd r
p_and_two_f S d o p q f g h (x ∷ []) r = absurd r.1
p_and_two_f S d o p q f g h (x ∷ y ∷ []) r = absurd r.1.1
p_and_two_f S d o p q f g h (x ∷ y ∷ z ∷ u ∷ us) r = absurd r.1.1.1

abbrev FunAgree : Classes → Objects → TypeTree → FunTree → FunTree → Type 0
FunAgree S d t f g = (v : ValueTree) → HasType d v t → den S d f v ≡ den S d g v

abbrev PredAgree : Classes → Objects → TypeTree → PredTree → PredTree → Type 0
PredAgree S d t f g = (v : ValueTree) → HasType d v t → holds_at S d f v ≡ holds_at S d g v

cond_agree : {A : Type 0} (a b : Bool) (x y z w : A) → a ≡ b → x ≡ z → y ≡ w → cond a x y ≡ cond b z w
cond_agree true true x y z w e h k = h
cond_agree false false x y z w e h k = k
cond_agree _ _ x y z w e h k = absurd (cc)

-- ---- one lemma for each node

module _ (S : Classes) (d : Objects) where
  times_agree : (f g a b : FunTree) (t u w : TypeTree) → FunAgree S d u f a → FunAgree S d w g b → (v : ValueTree) → HasType d v (TPair u w) → VPair (den S d f (left v)) (den S d g (right v)) ≡ VPair (den S d a (left v)) (den S d b (right v))
  times_agree f g a b t u w h k v i = ap₂ VPair (h (left v) (left_typed d u w v i)) (k (right v) (right_typed d u w v i))

  iterate_agree : (p a : PredTree) (f b : FunTree) (u : TypeTree) → PredAgree S d u p a → FunAgree S d u f b → (v : ValueTree) → HasType d v (TSet u) → den S d (FIterate p f) v ≡ den S d (FIterate a b) v
  iterate_agree p a f b u h k v i = ap set_of (kept_agree (λ x. HasType d x u) (holds_at S d p) (holds_at S d a) (den S d f) (den S d b) (members v) (members_typed d u v i) h k)

  iter_agree : (p a : PredTree) (f b : FunTree) (t u : TypeTree) → PredAgree S d (TPair t u) p a → FunAgree S d (TPair t u) f b → (v : ValueTree) → HasType d v (TPair t (TSet u)) → den S d (FIter p f) v ≡ den S d (FIter a b) v
  iter_agree p a f b t u h k v i =
      let l : HasType d (left v) t = left_typed d t (TSet u) v i in
      ap set_of (kept_agree (λ x. HasType d x u) (λ y. holds_at S d p (VPair (left v) y)) (λ y. holds_at S d a (VPair (left v) y)) (λ y. den S d f (VPair (left v) y)) (λ y. den S d b (VPair (left v) y)) (members (right v)) (members_typed d u (right v) (right_typed d t (TSet u) v i))
      (λ y j. h (VPair (left v) y) (l, j)) (λ y j. k (VPair (left v) y) (l, j)))

  join_agree : (p a : PredTree) (f b : FunTree) (t u : TypeTree) → PredAgree S d (TPair t u) p a → FunAgree S d (TPair t u) f b → (v : ValueTree) → HasType d v (TPair (TSet t) (TSet u)) → den S d (FJoin p f) v ≡ den S d (FJoin a b) v
  join_agree p a f b t u h k v i =
      ap set_of (flat_map_agree (λ x. HasType d x t) _ _ (members (left v)) (members_typed d t (left v) (left_typed d (TSet t) (TSet u) v i))
      (λ x l. kept_agree (λ y. HasType d y u) (λ y. holds_at S d p (VPair x y)) (λ y. holds_at S d a (VPair x y)) (λ y. den S d f (VPair x y)) (λ y. den S d b (VPair x y)) (members (right v)) (members_typed d u (right v) (right_typed d (TSet t) (TSet u) v i))
      (λ y j. h (VPair x y) (l, j)) (λ y j. k (VPair x y) (l, j))))

  nest_agree : (f g a b : FunTree) (t u : TypeTree) → FunAgree S d t f a → FunAgree S d t g b → (v : ValueTree) → HasType d v (TPair (TSet t) (TSet u)) → den S d (FNest f g) v ≡ den S d (FNest a b) v
  nest_agree f g a b t u h k v i =
      ap set_of (map_agree (λ y. HasType d y u) _ _ (members (right v)) (members_typed d u (right v) (right_typed d (TSet t) (TSet u) v i))
      (λ y j. ap (λ s. VPair y (set_of s)) (kept_agree (λ x. HasType d x t) (λ x. same (den S d f x) y) (λ x. same (den S d a x) y) (den S d g) (den S d b) (members (left v)) (members_typed d t (left v) (left_typed d (TSet t) (TSet u) v i))
      (λ x l. ap (λ z. same z y) (h x l)) k)))

  unnest_agree : (f g a b : FunTree) (t : TypeTree) → FunAgree S d t f a → FunAgree S d t g b → (v : ValueTree) → HasType d v (TSet t) → den S d (FUnnest f g) v ≡ den S d (FUnnest a b) v
  unnest_agree f g a b t h k v i =
      ap set_of (flat_map_agree (λ x. HasType d x t) _ _ (members v) (members_typed d t v i) (λ x l. ap₂ (λ y z. map (VPair y) (members z)) (h x l) (k x l)))

  ex_agree : (p a : PredTree) (t u : TypeTree) → PredAgree S d (TPair t u) p a → (v : ValueTree) → HasType d v (TPair t (TSet u)) → holds_at S d (PEx p) v ≡ holds_at S d (PEx a) v
  ex_agree p a t u h v i = any_agree (λ y. HasType d y u) _ _ (members (right v)) (members_typed d u (right v) (right_typed d t (TSet u) v i)) (λ y j. h (VPair (left v) y) (left_typed d t (TSet u) v i, j))

  fa_agree : (p a : PredTree) (t u : TypeTree) → PredAgree S d (TPair t u) p a → (v : ValueTree) → HasType d v (TPair t (TSet u)) → holds_at S d (PFa p) v ≡ holds_at S d (PFa a) v
  fa_agree p a t u h v i = all_agree (λ y. HasType d y u) _ _ (members (right v)) (members_typed d u (right v) (right_typed d t (TSet u) v i)) (λ y j. h (VPair (left v) y) (left_typed d t (TSet u) v i, j))

-- the rebuilt node, from its children
built : (t t' : TermTree) (cs bs : List TermTree) → cs ≡ bs → rebuild t cs ≡ Some t' → rebuild t bs ≡ Some t'
built t t' cs bs e h = rw e at h

-- ---- all nodes

pub node_agree : (S : Classes) (d : Objects) → Meets S d → (x : TermTree) (t : TypeTree) (cs : List TermTree) (y : TermTree) → Typed S [] x t → AgreeAll S d (inputs S [] x t) (children x) cs → rebuild x cs ≡ Some y → Agree S d t x y
node_agree S d m (TermF (FComp f g)) t cs y ty h e =
    let i = two_f S d (out S [] g t) (Some t) f g cs h in
    let p = then_some (λ w. out S [] f w) (out S [] g t) ty.0 ty.1 in
    let k = f_at S d (out S [] g t) p.0 f i.a p.1 i.at_a in
    subst (Agree S d t (TermF (FComp f g))) (some_same (TermF (FComp i.a i.b)) y (built (TermF (FComp f g)) y cs (TermF i.a ∷ TermF i.b ∷ []) i.is e))
    (λ v j. k (den S d g v) (sound S d m g t p.0 v p.1 j) ∙ ap (den S d i.a) (i.at_b v j))
node_agree S d m (TermF (FPair f g)) t cs y ty h e =
    let i = two_f S d (Some t) (Some t) f g cs h in
    subst (Agree S d t (TermF (FPair f g))) (some_same (TermF (FPair i.a i.b)) y (built (TermF (FPair f g)) y cs (TermF i.a ∷ TermF i.b ∷ []) i.is e))
    (λ v j. ap₂ VPair (i.at_a v j) (i.at_b v j))
node_agree S d m (TermF (FTimes f g)) t cs y ty h e =
    let i = two_f S d (first_type t) (second_type t) f g cs h in
    let p = pair_some (option_and_then (λ w. out S [] f w) (first_type t)) (option_and_then (λ w. out S [] g w) (second_type t)) ty.0 ty.1 in
    let q = then_some (λ w. out S [] f w) (first_type t) p.0 p.2 in
    let r = then_some (λ w. out S [] g w) (second_type t) p.1 p.3 in
    let a = fst_some t q.0 q.1 in
    let b : t ≡ TPair q.0 r.0 = a.1 ∙ ap (TPair q.0) (some_same a.0 r.0 (sym (ap second_type a.1) ∙ r.1)) in
    subst (Agree S d t (TermF (FTimes f g))) (some_same (TermF (FTimes i.a i.b)) y (built (TermF (FTimes f g)) y cs (TermF i.a ∷ TermF i.b ∷ []) i.is e))
    (λ v j. times_agree S d f g i.a i.b t q.0 r.0 (f_at S d (first_type t) q.0 f i.a q.1 i.at_a) (f_at S d (second_type t) r.0 g i.b r.1 i.at_b) v (subst (HasType d v) b j))
node_agree S d m (TermF (FK c)) t cs y ty h e =
    let i = one_c S d (Some t) c cs h in
    subst (Agree S d t (TermF (FK c))) (some_same (TermF (FK i.a)) y (built (TermF (FK c)) y cs (TermC i.a ∷ []) i.is e))
    (λ v j. ap (constant S d) i.at_a)
node_agree S d m (TermF (FC f c)) t cs y ty h e =
    let i = f_and_c S d (option_map (λ u. TPair u t) (const_type S [] c)) (Some t) f c cs h in
    let p = then_some (λ w. out S [] f (TPair w t)) (const_type S [] c) ty.0 ty.1 in
    let k = f_at S d (option_map (λ u. TPair u t) (const_type S [] c)) (TPair p.0 t) f i.a (ap (option_map (λ u. TPair u t)) p.1) i.at_a in
    subst (Agree S d t (TermF (FC f c))) (some_same (TermF (FC i.a i.b)) y (built (TermF (FC f c)) y cs (TermF i.a ∷ TermC i.b ∷ []) i.is e))
    (λ v j. k (VPair (constant S d c) v) (constant_typed S d c p.0 p.1, j) ∙ ap (λ z. den S d i.a (VPair (constant S d z) v)) i.at_b)
node_agree S d m (TermF (FIf p f g)) t cs y ty h e =
    let i = p_and_two_f S d (Some t) (Some t) (Some t) p f g cs h in
    subst (Agree S d t (TermF (FIf p f g))) (some_same (TermF (FIf i.a i.b i.c)) y (built (TermF (FIf p f g)) y cs (TermP i.a ∷ TermF i.b ∷ TermF i.c ∷ []) i.is e))
    (λ v j. cond_agree _ _ _ _ _ _ (i.at_a v j) (i.at_b v j) (i.at_c v j))
node_agree S d m (TermF (FIterate p f)) t cs y ty h e =
    let i = p_and_f S d (member_type t) (member_type t) p f cs h in
    let q = then_some (λ w. the_if (is_typed S [] p w) (option_map TSet (out S [] f w))) (member_type t) ty.0 ty.1 in
    subst (Agree S d t (TermF (FIterate p f))) (some_same (TermF (FIterate i.a i.b)) y (built (TermF (FIterate p f)) y cs (TermP i.a ∷ TermF i.b ∷ []) i.is e))
    (λ v j. iterate_agree S d p i.a f i.b q.0 (p_at S d (member_type t) q.0 p i.a q.1 i.at_a) (f_at S d (member_type t) q.0 f i.b q.1 i.at_b) v (subst (HasType d v) (member_some t q.0 q.1) j))
node_agree S d m (TermF (FIter p f)) t cs y ty h e =
    let i = p_and_f S d (iter_type t) (iter_type t) p f cs h in
    let q = then_some (λ w. the_if (is_typed S [] p w) (option_map TSet (out S [] f w))) (iter_type t) ty.0 ty.1 in
    let r = iter_some t q.0 q.1 in
    subst (Agree S d t (TermF (FIter p f))) (some_same (TermF (FIter i.a i.b)) y (built (TermF (FIter p f)) y cs (TermP i.a ∷ TermF i.b ∷ []) i.is e))
    (λ v j. iter_agree S d p i.a f i.b r.0 r.1 (p_at S d (iter_type t) (TPair r.0 r.1) p i.a (q.1 ∙ ap Some r.3) i.at_a) (f_at S d (iter_type t) (TPair r.0 r.1) f i.b (q.1 ∙ ap Some r.3) i.at_b) v (subst (HasType d v) r.2 j))
node_agree S d m (TermF (FJoin p f)) t cs y ty h e =
    let i = p_and_f S d (join_type t) (join_type t) p f cs h in
    let q = then_some (λ w. the_if (is_typed S [] p w) (option_map TSet (out S [] f w))) (join_type t) ty.0 ty.1 in
    let r = join_some t q.0 q.1 in
    subst (Agree S d t (TermF (FJoin p f))) (some_same (TermF (FJoin i.a i.b)) y (built (TermF (FJoin p f)) y cs (TermP i.a ∷ TermF i.b ∷ []) i.is e))
    (λ v j. join_agree S d p i.a f i.b r.0 r.1 (p_at S d (join_type t) (TPair r.0 r.1) p i.a (q.1 ∙ ap Some r.3) i.at_a) (f_at S d (join_type t) (TPair r.0 r.1) f i.b (q.1 ∙ ap Some r.3) i.at_b) v (subst (HasType d v) r.2 j))
node_agree S d m (TermF (FNest f g)) t cs y ty h e =
    let i = two_f S d (option_and_then first_type (join_type t)) (option_and_then first_type (join_type t)) f g cs h in
    let q = then_some (λ w. option_and_then (λ z. nest_of (out S [] f z) (out S [] g z) w) (first_type w)) (join_type t) ty.0 ty.1 in
    let r = join_some t q.0 q.1 in
    let k : option_and_then first_type (join_type t) ≡ Some r.0 = ap (option_and_then first_type) (q.1 ∙ ap Some r.3) in
    subst (Agree S d t (TermF (FNest f g))) (some_same (TermF (FNest i.a i.b)) y (built (TermF (FNest f g)) y cs (TermF i.a ∷ TermF i.b ∷ []) i.is e))
    (λ v j. nest_agree S d f g i.a i.b r.0 r.1 (f_at S d (option_and_then first_type (join_type t)) r.0 f i.a k i.at_a) (f_at S d (option_and_then first_type (join_type t)) r.0 g i.b k i.at_b) v (subst (HasType d v) r.2 j))
node_agree S d m (TermF (FUnnest f g)) t cs y ty h e =
    let i = two_f S d (member_type t) (member_type t) f g cs h in
    let q = then_some (λ w. option_map TSet (pair_of (out S [] f w) (option_and_then member_type (out S [] g w)))) (member_type t) ty.0 ty.1 in
    subst (Agree S d t (TermF (FUnnest f g))) (some_same (TermF (FUnnest i.a i.b)) y (built (TermF (FUnnest f g)) y cs (TermF i.a ∷ TermF i.b ∷ []) i.is e))
    (λ v j. unnest_agree S d f g i.a i.b q.0 (f_at S d (member_type t) q.0 f i.a q.1 i.at_a) (f_at S d (member_type t) q.0 g i.b q.1 i.at_b) v (subst (HasType d v) (member_some t q.0 q.1) j))
node_agree S d m (TermP (PAt p f)) t cs y ty h e =
    let i = p_and_f S d (out S [] f t) (Some t) p f cs h in
    let q = when_true (out S [] f t) (λ u. is_typed S [] p u) ty in
    subst (Agree S d t (TermP (PAt p f))) (some_same (TermP (PAt i.a i.b)) y (built (TermP (PAt p f)) y cs (TermP i.a ∷ TermF i.b ∷ []) i.is e))
    (λ v j. p_at S d (out S [] f t) q.0 p i.a q.1 i.at_a (den S d f v) (sound S d m f t q.0 v q.1 j) ∙ ap (holds_at S d i.a) (i.at_b v j))
node_agree S d m (TermP (PAnd p q)) t cs y ty h e =
    let i = two_p S d (Some t) (Some t) p q cs h in
    subst (Agree S d t (TermP (PAnd p q))) (some_same (TermP (PAnd i.a i.b)) y (built (TermP (PAnd p q)) y cs (TermP i.a ∷ TermP i.b ∷ []) i.is e))
    (λ v j. ap₂ (λ a b. a && b) (i.at_a v j) (i.at_b v j))
node_agree S d m (TermP (POr p q)) t cs y ty h e =
    let i = two_p S d (Some t) (Some t) p q cs h in
    subst (Agree S d t (TermP (POr p q))) (some_same (TermP (POr i.a i.b)) y (built (TermP (POr p q)) y cs (TermP i.a ∷ TermP i.b ∷ []) i.is e))
    (λ v j. ap₂ (λ a b. a || b) (i.at_a v j) (i.at_b v j))
node_agree S d m (TermP (PNot p)) t cs y ty h e =
    let i = one_p S d (Some t) p cs h in
    subst (Agree S d t (TermP (PNot p))) (some_same (TermP (PNot i.a)) y (built (TermP (PNot p)) y cs (TermP i.a ∷ []) i.is e))
    (λ v j. ap not (i.at_a v j))
node_agree S d m (TermP (PInv p)) t cs y ty h e =
    let i = one_p S d (pair_of (second_type t) (first_type t)) p cs h in
    let q = when_true (pair_of (second_type t) (first_type t)) (λ u. is_typed S [] p u) ty in
    let r = pair_some (second_type t) (first_type t) q.0 q.1 in
    let b = fst_some t r.1 r.3 in
    let k : t ≡ TPair r.1 r.0 = b.1 ∙ ap (TPair r.1) (some_same b.0 r.0 (sym (ap second_type b.1) ∙ r.2)) in
    subst (Agree S d t (TermP (PInv p))) (some_same (TermP (PInv i.a)) y (built (TermP (PInv p)) y cs (TermP i.a ∷ []) i.is e))
    (λ v j. let l : HasType d v (TPair r.1 r.0) = subst (HasType d v) k j in p_at S d (pair_of (second_type t) (first_type t)) (TPair r.0 r.1) p i.a (q.1 ∙ ap Some r.4) i.at_a (VPair (right v) (left v)) (right_typed d r.1 r.0 v l, left_typed d r.1 r.0 v l))
node_agree S d m (TermP (PCP p c)) t cs y ty h e =
    let i = p_and_c S d (option_map (λ u. TPair u t) (const_type S [] c)) (Some t) p c cs h in
    let q = when_true (const_type S [] c) (λ u. is_typed S [] p (TPair u t)) ty in
    let k = p_at S d (option_map (λ u. TPair u t) (const_type S [] c)) (TPair q.0 t) p i.a (ap (option_map (λ u. TPair u t)) q.1) i.at_a in
    subst (Agree S d t (TermP (PCP p c))) (some_same (TermP (PCP i.a i.b)) y (built (TermP (PCP p c)) y cs (TermP i.a ∷ TermC i.b ∷ []) i.is e))
    (λ v j. k (VPair (constant S d c) v) (constant_typed S d c q.0 q.1, j) ∙ ap (λ z. holds_at S d i.a (VPair (constant S d z) v)) i.at_b)
node_agree S d m (TermP (PEx p)) t cs y ty h e =
    let i = one_p S d (iter_type t) p cs h in
    let q = when_true (iter_type t) (λ u. is_typed S [] p u) ty in
    let r = iter_some t q.0 q.1 in
    subst (Agree S d t (TermP (PEx p))) (some_same (TermP (PEx i.a)) y (built (TermP (PEx p)) y cs (TermP i.a ∷ []) i.is e))
    (λ v j. ex_agree S d p i.a r.0 r.1 (p_at S d (iter_type t) (TPair r.0 r.1) p i.a (q.1 ∙ ap Some r.3) i.at_a) v (subst (HasType d v) r.2 j))
node_agree S d m (TermP (PFa p)) t cs y ty h e =
    let i = one_p S d (iter_type t) p cs h in
    let q = when_true (iter_type t) (λ u. is_typed S [] p u) ty in
    let r = iter_some t q.0 q.1 in
    subst (Agree S d t (TermP (PFa p))) (some_same (TermP (PFa i.a)) y (built (TermP (PFa p)) y cs (TermP i.a ∷ []) i.is e))
    (λ v j. fa_agree S d p i.a r.0 r.1 (p_at S d (iter_type t) (TPair r.0 r.1) p i.a (q.1 ∙ ap Some r.3) i.at_a) v (subst (HasType d v) r.2 j))
node_agree S d m _ t cs y ty h e = absurd (cc)
