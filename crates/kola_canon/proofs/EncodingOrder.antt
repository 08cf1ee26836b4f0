-- The encoding keeps order and equality among the values of one shape, and commutes with making a set.
use Rattle.std.proofs.Common.{◌≡◌, ℕ, List, [], ◌∷◌, map, refl, sym, ap, ap₂, ◌∙◌, subst}
use Rattle.std.specs.declared.cmp.Ordering.{Ordering}
use Rattle.std.specs.declared.cmp.Ordering.TheVariants.{Less, Equal, Greater}
use Rattle.std.specs.Ordering.{ordering_then}
use Rattle.std.proofs.lemmas.Cmp.{tied_itself, nat_list_cmp_total}
use Rattle.kola_values.specs.Values.{ValueTree, VUnit, VInt, VBool, VStr, VObj, VPair, VStruct, VSet, MemberValues, VNone, VMore, FieldValues, VEnd, VField, items, of_items}
use Rattle.kola_values.specs.Types.{TypeTree, TInt, TStr, TBool, TUnit, TClass, TVar, TSet, TPair, TStruct, FieldTypes, TEnd, TField}
use Rattle.kola_values.specs.Order.{cmp, cmp_members, cmp_fields, name_cmp}
use Rattle.kola_values.specs.Sets.{Rising, canon, Each, set_of}
use Rattle.kola_values.specs.Shapes.{Shaped, ShapedFields}
use Rattle.kola_canon.specs.Encoding.{enc, enc_fields, enc_members}
use Rattle.kola_values.specs.Models.Exact.{exact}
use Rattle.kola_values.proofs.Anys.{any_canon, any_map, one_list, rising, itself}
use Rattle.kola_values.proofs.Each.{each_canon}

then_equal : (o : Ordering) → ordering_then o Equal ≡ o
then_equal Less = refl
then_equal Equal = refl
then_equal Greater = refl

same_label : (l : List ℕ) → name_cmp l l ≡ Equal
same_label l = tied_itself nat_list_cmp_total l

labels : (l m n : List ℕ) → m ≡ l → n ≡ l → name_cmp m n ≡ Equal
labels l m n e f = subst (λ x. name_cmp x n ≡ Equal) (sym e) (subst (λ x. name_cmp l x ≡ Equal) (sym f) (same_label l))

members_at : (P : ValueTree → Type 0) (s t : MemberValues) → Each P (items s) → Each P (items t) → ((v w : ValueTree) → P v → P w → cmp (enc v) (enc w) ≡ cmp v w) → cmp_members (enc_members s) (enc_members t) ≡ cmp_members s t
members_at P VNone VNone h k f = refl
members_at P VNone (VMore w t) h k f = refl
members_at P (VMore v s) VNone h k f = refl
members_at P (VMore v s) (VMore w t) h k f = ap₂ ordering_then (f v w h.0 k.0) (members_at P s t h.1 k.1 f)

mutual
  pub enc_cmp : (t : TypeTree) (v w : ValueTree) → Shaped v t → Shaped w t → cmp (enc v) (enc w) ≡ cmp v w
  enc_cmp TInt (VInt x) (VInt y) h k = refl
  enc_cmp TStr (VStr x) (VStr y) h k = refl
  enc_cmp TBool (VBool x) (VBool y) h k = refl
  enc_cmp TUnit VUnit VUnit h k = refl
  enc_cmp (TClass c) (VObj a i) (VObj b j) h k = refl
  enc_cmp (TSet t) (VSet x) (VSet y) h k = members_at (λ z. Shaped z t) x y h.1 k.1 (λ v w a b. enc_cmp t v w a b)
  enc_cmp (TPair t u) (VPair a b) (VPair x y) h k = ap₂ ordering_then (enc_cmp t a x h.0 k.0) (enc_cmp u b y h.1 k.1)
  enc_cmp (TStruct ts) (VStruct f) (VStruct g) h k = enc_cmp_fields ts f g h k
  enc_cmp TInt (VInt x) _ h k = absurd k
  enc_cmp TInt _ _ h k = absurd h
  enc_cmp TStr (VStr x) _ h k = absurd k
  enc_cmp TStr _ _ h k = absurd h
  enc_cmp TBool (VBool x) _ h k = absurd k
  enc_cmp TBool _ _ h k = absurd h
  enc_cmp TUnit (VUnit) _ h k = absurd k
  enc_cmp TUnit _ _ h k = absurd h
  enc_cmp (TClass c) (VObj a i) _ h k = absurd k
  enc_cmp (TClass c) _ _ h k = absurd h
  enc_cmp (TSet t) (VSet x) _ h k = absurd k
  enc_cmp (TSet t) _ _ h k = absurd h
  enc_cmp (TPair t u) (VPair a b) _ h k = absurd k
  enc_cmp (TPair t u) _ _ h k = absurd h
  enc_cmp (TStruct ts) (VStruct f) _ h k = absurd k
  enc_cmp (TStruct ts) _ _ h k = absurd h
  enc_cmp (TVar n) VUnit w h k = absurd h
  enc_cmp (TVar n) _ w h k = absurd h

  enc_cmp_fields : (ts : FieldTypes) (f g : FieldValues) → ShapedFields f ts → ShapedFields g ts → cmp (enc_fields f) (enc_fields g) ≡ cmp_fields f g
  enc_cmp_fields TEnd VEnd VEnd h k = refl
  enc_cmp_fields (TField l t TEnd) (VField m v VEnd) (VField n w VEnd) h k =
      enc_cmp t v w h.1 k.1 ∙ (sym (then_equal (cmp v w)) ∙ sym (ap (λ o. ordering_then o (ordering_then (cmp v w) Equal)) (labels l m n h.0 k.0)))
  enc_cmp_fields (TField l t (TField l2 t2 ts)) (VField m v (VField m2 v2 f)) (VField n w (VField n2 w2 g)) h k =
      ap₂ ordering_then (enc_cmp t v w h.1 k.1) (enc_cmp_fields (TField l2 t2 ts) (VField m2 v2 f) (VField n2 w2 g) h.2 k.2)
      ∙ sym (ap (λ o. ordering_then o (ordering_then (cmp v w) (cmp_fields (VField m2 v2 f) (VField n2 w2 g)))) (labels l m n h.0 k.0))
  enc_cmp_fields TEnd VEnd (VField n w g) h k = absurd k
  enc_cmp_fields TEnd (VField m v f) g h k = absurd h
  enc_cmp_fields (TField l t ts) VEnd g h k = absurd h
  enc_cmp_fields (TField l t ts) (VField m v f) VEnd h k = absurd k
  enc_cmp_fields (TField l t TEnd) (VField m v VEnd) (VField n w (VField n2 w2 g)) h k = absurd k.2
  enc_cmp_fields (TField l t TEnd) (VField m v (VField m2 v2 f)) (VField n w g) h k = absurd h.2
  enc_cmp_fields (TField l t (TField l2 t2 ts)) (VField m v VEnd) (VField n w g) h k = absurd h.2
  enc_cmp_fields (TField l t (TField l2 t2 ts)) (VField m v (VField m2 v2 f)) (VField n w VEnd) h k = absurd k.2

pub enc_exact : (t : TypeTree) (v w : ValueTree) → Shaped v t → Shaped w t → enc v ≡ enc w → v ≡ w
enc_exact t v w h k e = exact v w (sym (enc_cmp t v w h k) ∙ (ap (cmp (enc v)) (sym e) ∙ itself (enc v)))

pub items-enc : (vs : MemberValues) → items (enc_members vs) ≡ map enc (items vs)
items-enc VNone = refl
items-enc (VMore v vs) = ap (λ l. enc v ∷ l) (items-enc vs)

pub enc_members-of_items : (vs : List ValueTree) → enc_members (of_items vs) ≡ of_items (map enc vs)
enc_members-of_items [] = refl
enc_members-of_items (v ∷ vs) = ap (VMore (enc v)) (enc_members-of_items vs)

pub rising_enc : (t : TypeTree) (vs : List ValueTree) → Each (λ v. Shaped v t) vs → Rising vs → Rising (map enc vs)
rising_enc t [] h r = tt
rising_enc t (v ∷ []) h r = (tt, tt)
rising_enc t (v ∷ w ∷ vs) h r = (enc_cmp t v w h.0 h.1.0 ∙ r.0, rising_enc t (w ∷ vs) h.1 r.1)

pub rising_from_enc : (t : TypeTree) (vs : List ValueTree) → Each (λ v. Shaped v t) vs → Rising (map enc vs) → Rising vs
rising_from_enc t [] h r = tt
rising_from_enc t (v ∷ []) h r = (tt, tt)
rising_from_enc t (v ∷ w ∷ vs) h r = (sym (enc_cmp t v w h.0 h.1.0) ∙ r.0, rising_from_enc t (w ∷ vs) h.1 r.1)

enc_canon : (t : TypeTree) (vs : List ValueTree) → Each (λ v. Shaped v t) vs → map enc (canon vs) ≡ canon (map enc vs)
enc_canon t vs h =
    one_list (map enc (canon vs)) (canon (map enc vs)) (rising_enc t (canon vs) (each_canon (λ v. Shaped v t) vs h) (rising vs)) (rising (map enc vs))
    (λ q. any_map q enc (canon vs) ∙ (any_canon (λ v. q (enc v)) vs ∙ (sym (any_map q enc vs) ∙ sym (any_canon q (map enc vs)))))

-- the encoding of a set is the set of the encodings
pub enc-set_of : (t : TypeTree) (vs : List ValueTree) → Each (λ v. Shaped v t) vs → enc (set_of vs) ≡ set_of (map enc vs)
unfolding set_of
enc-set_of t vs h = ap VSet (enc_members-of_items (canon vs) ∙ ap of_items (enc_canon t vs h))
