-- The encoding among the values of one type: it keeps tests, members and sets.
use Rattle.std.proofs.Common.{◌≡◌, Bool, true, false, cond, ◌&&◌, List, [], ◌∷◌, map, filter, refl, sym, ap, ◌∙◌, is_eq}
use Rattle.kola_values.specs.Values.{ValueTree, VBool, VSet}
use Rattle.kola_values.specs.Types.{TypeTree, TBool, TSet}
use Rattle.kola_values.specs.Order.{cmp, same}
use Rattle.kola_values.specs.Sets.{all, has, Each, members, set_of}
use Rattle.kola_values.specs.Databases.{Objects, HasType}
use Rattle.kola_values.proofs.Anys.{any_agree, any_map, each_from}
use Rattle.kola_values.proofs.Each.{each_filter, kept_agree}
use Rattle.kola_canon.specs.Encoding.{enc}
use Rattle.kola_canon.proofs.EncodingOrder.{enc_cmp, items-enc, enc-set_of}
use Rattle.kola_canon.proofs.EncodingInverse.{typed_shaped}
use Rattle.oql_check.specs.QueryMeaning.{truth}

-- ---- lists made in two steps

pub map-map : {A B C : Type 0} (f : B → C) (g : A → B) (vs : List A) → map f (map g vs) ≡ map (λ v. f (g v)) vs
map-map f g [] = refl
map-map f g (v ∷ vs) = ap (λ l. f (g v) ∷ l) (map-map f g vs)

cond_map : {A B : Type 0} (f : A → B) (b : Bool) (v : A) (vs : List A) → cond b (f v ∷ map f vs) (map f vs) ≡ map f (cond b (v ∷ vs) vs)
cond_map f true v vs = refl
cond_map f false v vs = refl

filter-map : {A B : Type 0} (p : B → Bool) (f : A → B) (vs : List A) → filter p (map f vs) ≡ map f (filter (λ v. p (f v)) vs)
filter-map p f [] = refl
filter-map p f (v ∷ vs) = ap (λ l. cond (p (f v)) (f v ∷ l) l) (filter-map p f vs) ∙ cond_map f (p (f v)) v (filter (λ w. p (f w)) vs)

-- what is kept of a mapped list
pub kept_map : {A B C : Type 0} (f : B → C) (p : B → Bool) (g : A → B) (vs : List A) → map f (filter p (map g vs)) ≡ map (λ v. f (g v)) (filter (λ v. p (g v)) vs)
kept_map f p g vs = ap (map f) (filter-map p g vs) ∙ map-map f g (filter (λ v. p (g v)) vs)

pub all_map : (q : ValueTree → Bool) (vs : List ValueTree) → all q (map enc vs) ≡ all (λ v. q (enc v)) vs
unfolding all
all_map q [] = refl
all_map q (v ∷ vs) = ap (λ b. q (enc v) && b) (all_map q vs)

-- ---- values of one type

module _ (d : Objects) where
  pub cmp_enc : (t : TypeTree) (v w : ValueTree) → HasType d v t → HasType d w t → cmp (enc v) (enc w) ≡ cmp v w
  cmp_enc t v w h k = enc_cmp t v w (typed_shaped d t v h) (typed_shaped d t w k)

  pub same_enc : (t : TypeTree) (v w : ValueTree) → HasType d v t → HasType d w t → same (enc v) (enc w) ≡ same v w
  unfolding same
  same_enc t v w h k = ap is_eq (cmp_enc t v w h k)

  pub has_enc : (t : TypeTree) (v : ValueTree) (ws : List ValueTree) → HasType d v t → Each (λ w. HasType d w t) ws → has (enc v) (map enc ws) ≡ has v ws
  has_enc t v ws h k = any_map (same (enc v)) enc ws ∙ any_agree (λ w. HasType d w t) (λ w. same (enc v) (enc w)) (same v) ws k (λ w g. same_enc t v w h g)

  pub members-enc : (t : TypeTree) (v : ValueTree) → HasType d v (TSet t) → members (enc v) ≡ map enc (members v)
  members-enc t (VSet vs) h = items-enc vs
  members-enc t _ h = absurd h

  pub set_enc : (t : TypeTree) (vs : List ValueTree) → Each (λ v. HasType d v t) vs → enc (set_of vs) ≡ set_of (map enc vs)
  set_enc t vs h = enc-set_of t vs (each_from (λ v. HasType d v t) _ vs (λ v k. typed_shaped d t v k) h)

  -- a filter by a test that the encoding keeps
  pub kept_enc : (t : TypeTree) (p q : ValueTree → Bool) (vs : List ValueTree) → Each (λ v. HasType d v t) vs → ((v : ValueTree) → HasType d v t → p (enc v) ≡ q v) → set_of (filter p (map enc vs)) ≡ enc (set_of (filter q vs))
  kept_enc t p q vs h f =
      ap set_of (filter-map p enc vs ∙ kept_agree (λ v. HasType d v t) (λ v. p (enc v)) q enc enc vs h f (λ v k. refl))
      ∙ sym (set_enc t (filter q vs) (each_filter _ q vs h))

  -- a truth value, as the test that it is `true`
  pub truth_test : (v : ValueTree) → HasType d v TBool → same (enc v) (VBool true) ≡ truth v
  unfolding same
  truth_test (VBool true) h = refl
  truth_test (VBool false) h = refl
  truth_test _ h = absurd h

  pub truth_is : (v : ValueTree) → HasType d v TBool → v ≡ VBool (truth v)
  truth_is (VBool b) h = refl
  truth_is _ h = absurd h
