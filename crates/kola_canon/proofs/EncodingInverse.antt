-- The encoding keeps shape and form, and decoding by a type is its inverse.
use Rattle.std.proofs.Common.{◌≡◌, ℕ, List, [], ◌∷◌, map, refl, sym, ap, ap₂, ◌∙◌, subst}
use Rattle.kola_values.specs.Values.{ValueTree, VUnit, VInt, VBool, VStr, VObj, VPair, VStruct, VSet, MemberValues, VNone, VMore, FieldValues, VEnd, VField, items, of_items}
use Rattle.kola_values.specs.Types.{TypeTree, TInt, TStr, TBool, TUnit, TClass, TVar, TSet, TPair, TStruct, FieldTypes, TEnd, TField}
use Rattle.kola_values.specs.Sets.{Rising, Each}
use Rattle.kola_values.specs.Databases.{Objects, HasType, HaveTypes}
use Rattle.kola_values.specs.WellFormed.{WellFormed, WellFormedMembers, WellFormedFields}
use Rattle.kola_values.specs.Shapes.{Shaped, ShapedFields}
use Rattle.kola_canon.specs.Encoding.{enc, enc_fields, enc_members, enc_type, enc_field_types, dec, dec_fields}
use Rattle.kola_values.proofs.Anys.{each_from, items-of_items, of_items-items}
use Rattle.kola_values.proofs.Each.{each_map}
use Rattle.kola_canon.proofs.EncodingOrder.{items-enc, enc_members-of_items, rising_enc, rising_from_enc, enc_exact}

-- ---- the values of a type have its shape

mutual
  pub typed_shaped : (d : Objects) (t : TypeTree) (v : ValueTree) → HasType d v t → Shaped v t
  typed_shaped d TInt (VInt x) h = h
  typed_shaped d TInt _ h = absurd h
  typed_shaped d TStr (VStr x) h = tt
  typed_shaped d TStr _ h = absurd h
  typed_shaped d TBool (VBool x) h = tt
  typed_shaped d TBool _ h = absurd h
  typed_shaped d TUnit VUnit h = tt
  typed_shaped d TUnit _ h = absurd h
  typed_shaped d (TClass c) (VObj a i) h = h.0
  typed_shaped d (TClass c) _ h = absurd h
  typed_shaped d (TSet t) (VSet x) h = (h.0, each_from (λ v. HasType d v t) (λ v. Shaped v t) (items x) (λ v k. typed_shaped d t v k) h.1)
  typed_shaped d (TSet t) _ h = absurd h
  typed_shaped d (TPair t u) (VPair a b) h = (typed_shaped d t a h.0, typed_shaped d u b h.1)
  typed_shaped d (TPair t u) _ h = absurd h
  typed_shaped d (TStruct ts) (VStruct f) h = typed_shaped_fields d ts f h
  typed_shaped d (TStruct ts) _ h = absurd h
  typed_shaped d (TVar n) VUnit h = absurd h
  typed_shaped d (TVar n) _ h = absurd h

  typed_shaped_fields : (d : Objects) (ts : FieldTypes) (f : FieldValues) → HaveTypes d f ts → ShapedFields f ts
  typed_shaped_fields d TEnd VEnd h = tt
  typed_shaped_fields d TEnd (VField l v f) h = absurd h
  typed_shaped_fields d (TField l t ts) VEnd h = absurd h
  typed_shaped_fields d (TField l t ts) (VField m v f) h = (h.0, typed_shaped d t v h.1, typed_shaped_fields d ts f h.2)

-- ---- the shape of an encoding

mutual
  pub enc_shaped : (t : TypeTree) (v : ValueTree) → Shaped v t → Shaped (enc v) (enc_type t)
  enc_shaped TInt (VInt x) h = h
  enc_shaped TInt _ h = absurd h
  enc_shaped TStr (VStr x) h = tt
  enc_shaped TStr _ h = absurd h
  enc_shaped TBool (VBool x) h = tt
  enc_shaped TBool _ h = absurd h
  enc_shaped TUnit VUnit h = tt
  enc_shaped TUnit _ h = absurd h
  enc_shaped (TClass c) (VObj a i) h = h
  enc_shaped (TClass c) _ h = absurd h
  enc_shaped (TSet t) (VSet x) h =
      subst (λ l. Rising l × Each (λ v. Shaped v (enc_type t)) l) (sym (items-enc x))
      (rising_enc t (items x) h.1 h.0, each_map (λ v. Shaped v (enc_type t)) (λ v. Shaped v t) enc (items x) h.1 (λ v k. enc_shaped t v k))
  enc_shaped (TSet t) _ h = absurd h
  enc_shaped (TPair t u) (VPair a b) h = (enc_shaped t a h.0, enc_shaped u b h.1)
  enc_shaped (TPair t u) _ h = absurd h
  enc_shaped (TStruct ts) (VStruct f) h = enc_shaped_fields ts f h
  enc_shaped (TStruct ts) _ h = absurd h
  enc_shaped (TVar n) VUnit h = absurd h
  enc_shaped (TVar n) _ h = absurd h

  enc_shaped_fields : (ts : FieldTypes) (f : FieldValues) → ShapedFields f ts → Shaped (enc_fields f) (enc_field_types ts)
  enc_shaped_fields TEnd VEnd h = tt
  enc_shaped_fields TEnd (VField l v f) h = absurd h
  enc_shaped_fields (TField l t ts) VEnd h = absurd h
  enc_shaped_fields (TField l t TEnd) (VField m v VEnd) h = enc_shaped t v h.1
  enc_shaped_fields (TField l t TEnd) (VField m v (VField m2 v2 f)) h = absurd h.2
  enc_shaped_fields (TField l t (TField l2 t2 ts)) (VField m v VEnd) h = absurd h.2
  enc_shaped_fields (TField l t (TField l2 t2 ts)) (VField m v (VField m2 v2 f)) h = (enc_shaped t v h.1, enc_shaped_fields (TField l2 t2 ts) (VField m2 v2 f) h.2)

-- ---- the inverse

encoded_back : (t : TypeTree) (vs : List ValueTree) → Each (λ v. (enc (dec t v) ≡ v) × Shaped (dec t v) t) vs → map enc (map (λ v. dec t v) vs) ≡ vs
encoded_back t [] h = refl
encoded_back t (v ∷ vs) h = ap₂ (λ x l. x ∷ l) h.0.0 (encoded_back t vs h.1)

shaped_back : (t : TypeTree) (vs : List ValueTree) → Each (λ v. (enc (dec t v) ≡ v) × Shaped (dec t v) t) vs → Each (λ v. Shaped v t) (map (λ v. dec t v) vs)
shaped_back t [] h = tt
shaped_back t (v ∷ vs) h = (h.0.1, shaped_back t vs h.1)

set_back : (t : TypeTree) (vs : MemberValues) → Rising (items vs) → Each (λ v. (enc (dec t v) ≡ v) × Shaped (dec t v) t) (items vs) → (enc (dec (TSet t) (VSet vs)) ≡ VSet vs) × Shaped (dec (TSet t) (VSet vs)) (TSet t)
set_back t vs r h =
    let e = encoded_back t (items vs) h in
    let k = shaped_back t (items vs) h in (
      ap VSet (enc_members-of_items (map (λ v. dec t v) (items vs)) ∙ (ap of_items e ∙ of_items-items vs)),
      subst (λ l. Rising l × Each (λ v. Shaped v t) l) (sym (items-of_items (map (λ v. dec t v) (items vs))))
          (rising_from_enc t (map (λ v. dec t v) (items vs)) k (subst Rising (sym e) r), k),
    )

pair_back : (l : List ℕ) (t : TypeTree) (m : List ℕ) (u : TypeTree) (fs : FieldTypes) (a b : ValueTree) → (enc (dec t a) ≡ a) × Shaped (dec t a) t → (enc_fields (dec_fields (TField m u fs) b) ≡ b) × ShapedFields (dec_fields (TField m u fs) b) (TField m u fs) → (enc_fields (VField l (dec t a) (dec_fields (TField m u fs) b)) ≡ VPair a b) × ShapedFields (VField l (dec t a) (dec_fields (TField m u fs) b)) (TField l t (TField m u fs))
pair_back l t m u fs a b p q = at (dec_fields (TField m u fs) b) q
  where
    at : (g : FieldValues) → (enc_fields g ≡ b) × ShapedFields g (TField m u fs) → (enc_fields (VField l (dec t a) g) ≡ VPair a b) × ShapedFields (VField l (dec t a) g) (TField l t (TField m u fs))
    at VEnd q = absurd q.1
    at (VField n x g) q = (ap₂ VPair p.0 q.0, (refl, p.1, q.1))

mutual
  pub dec_right : (t : TypeTree) (v : ValueTree) → Shaped v (enc_type t) → (enc (dec t v) ≡ v) × Shaped (dec t v) t
  dec_right TInt (VInt x) h = (refl, h)
  dec_right TInt _ h = absurd h
  dec_right TStr (VStr x) h = (refl, tt)
  dec_right TStr _ h = absurd h
  dec_right TBool (VBool x) h = (refl, tt)
  dec_right TBool _ h = absurd h
  dec_right TUnit VUnit h = (refl, tt)
  dec_right TUnit _ h = absurd h
  dec_right (TClass c) (VObj a i) h = (refl, h)
  dec_right (TClass c) _ h = absurd h
  dec_right (TSet t) (VSet x) h = set_back t x h.0 (each_from (λ v. Shaped v (enc_type t)) (λ v. (enc (dec t v) ≡ v) × Shaped (dec t v) t) (items x) (λ v k. dec_right t v k) h.1)
  dec_right (TSet t) _ h = absurd h
  dec_right (TPair t u) (VPair a b) h =
      let p = dec_right t a h.0 in
      let q = dec_right u b h.1 in
      (ap₂ VPair p.0 q.0, (p.1, q.1))
  dec_right (TPair t u) _ h = absurd h
  dec_right (TStruct ts) v h = dec_right_fields ts v h
  dec_right (TVar n) VUnit h = absurd h
  dec_right (TVar n) _ h = absurd h

  dec_right_fields : (ts : FieldTypes) (v : ValueTree) → Shaped v (enc_field_types ts) → (enc_fields (dec_fields ts v) ≡ v) × ShapedFields (dec_fields ts v) ts
  dec_right_fields TEnd VUnit h = (refl, tt)
  dec_right_fields TEnd _ h = absurd h
  dec_right_fields (TField l t TEnd) v h =
      let p = dec_right t v h in
      (p.0, (refl, p.1, tt))
  dec_right_fields (TField l t (TField m u fs)) (VPair a b) h = pair_back l t m u fs a b (dec_right t a h.0) (dec_right_fields (TField m u fs) b h.1)
  dec_right_fields (TField l t (TField m u fs)) _ h = absurd h

pub dec_enc : (t : TypeTree) (v : ValueTree) → Shaped v t → dec t (enc v) ≡ v
dec_enc t v h =
    let p = dec_right t (enc v) (enc_shaped t v h) in
    enc_exact t (dec t (enc v)) v p.1 h p.0

-- ---- what is encoded or decoded of a well-formed value is well formed

well_formed_members : (t : TypeTree) (vs : MemberValues) → Each (λ v. Shaped v t) (items vs) → WellFormedMembers vs → ((v : ValueTree) → Shaped v t → WellFormed v → WellFormed (enc v)) → WellFormedMembers (enc_members vs)
well_formed_members t VNone h w f = tt
well_formed_members t (VMore v vs) h w f = (f v h.0 w.0, well_formed_members t vs h.1 w.1 f)

mutual
  pub well_formed_enc : (t : TypeTree) (v : ValueTree) → Shaped v t → WellFormed v → WellFormed (enc v)
  well_formed_enc TInt (VInt x) h w = w
  well_formed_enc TInt _ h w = absurd h
  well_formed_enc TStr (VStr x) h w = tt
  well_formed_enc TStr _ h w = absurd h
  well_formed_enc TBool (VBool x) h w = tt
  well_formed_enc TBool _ h w = absurd h
  well_formed_enc TUnit VUnit h w = tt
  well_formed_enc TUnit _ h w = absurd h
  well_formed_enc (TClass c) (VObj a i) h w = w
  well_formed_enc (TClass c) _ h w = absurd h
  well_formed_enc (TSet t) (VSet x) h w =
      (subst Rising (sym (items-enc x)) (rising_enc t (items x) h.1 h.0), well_formed_members t x h.1 w.1 (λ v k i. well_formed_enc t v k i))
  well_formed_enc (TSet t) _ h w = absurd h
  well_formed_enc (TPair t u) (VPair a b) h w = (well_formed_enc t a h.0 w.0, well_formed_enc u b h.1 w.1)
  well_formed_enc (TPair t u) _ h w = absurd h
  well_formed_enc (TStruct ts) (VStruct f) h w = well_formed_enc_fields ts f h w
  well_formed_enc (TStruct ts) _ h w = absurd h
  well_formed_enc (TVar n) VUnit h w = absurd h
  well_formed_enc (TVar n) _ h w = absurd h

  well_formed_enc_fields : (ts : FieldTypes) (f : FieldValues) → ShapedFields f ts → WellFormedFields f → WellFormed (enc_fields f)
  well_formed_enc_fields TEnd VEnd h w = tt
  well_formed_enc_fields TEnd (VField l v f) h w = absurd h
  well_formed_enc_fields (TField l t ts) VEnd h w = absurd h
  well_formed_enc_fields (TField l t ts) (VField m v VEnd) h w = well_formed_enc t v h.1 w.0
  well_formed_enc_fields (TField l t ts) (VField m v (VField m2 v2 f)) h w = (well_formed_enc t v h.1 w.0, well_formed_enc_fields ts (VField m2 v2 f) h.2 w.1)

members_from : (t : TypeTree) (vs : MemberValues) → Each (λ v. Shaped v t) (items vs) → WellFormedMembers (enc_members vs) → ((v : ValueTree) → Shaped v t → WellFormed (enc v) → WellFormed v) → WellFormedMembers vs
members_from t VNone h w f = tt
members_from t (VMore v vs) h w f = (f v h.0 w.0, members_from t vs h.1 w.1 f)

mutual
  -- a value whose encoding is well formed is well formed
  pub well_formed_from : (t : TypeTree) (v : ValueTree) → Shaped v t → WellFormed (enc v) → WellFormed v
  well_formed_from TInt (VInt x) h w = w
  well_formed_from TInt _ h w = absurd h
  well_formed_from TStr (VStr x) h w = tt
  well_formed_from TStr _ h w = absurd h
  well_formed_from TBool (VBool x) h w = tt
  well_formed_from TBool _ h w = absurd h
  well_formed_from TUnit VUnit h w = tt
  well_formed_from TUnit _ h w = absurd h
  well_formed_from (TClass c) (VObj a i) h w = w
  well_formed_from (TClass c) _ h w = absurd h
  well_formed_from (TSet t) (VSet x) h w = (h.0, members_from t x h.1 w.1 (λ v k i. well_formed_from t v k i))
  well_formed_from (TSet t) _ h w = absurd h
  well_formed_from (TPair t u) (VPair a b) h w = (well_formed_from t a h.0 w.0, well_formed_from u b h.1 w.1)
  well_formed_from (TPair t u) _ h w = absurd h
  well_formed_from (TStruct ts) (VStruct f) h w = well_formed_from_fields ts f h w
  well_formed_from (TStruct ts) _ h w = absurd h
  well_formed_from (TVar n) VUnit h w = absurd h
  well_formed_from (TVar n) _ h w = absurd h

  well_formed_from_fields : (ts : FieldTypes) (f : FieldValues) → ShapedFields f ts → WellFormed (enc_fields f) → WellFormedFields f
  well_formed_from_fields TEnd VEnd h w = tt
  well_formed_from_fields TEnd (VField l v f) h w = absurd h
  well_formed_from_fields (TField l t ts) VEnd h w = absurd h
  well_formed_from_fields (TField l t ts) (VField m v VEnd) h w = (well_formed_from t v h.1 w, tt)
  well_formed_from_fields (TField l t ts) (VField m v (VField m2 v2 f)) h w = (well_formed_from t v h.1 w.0, well_formed_from_fields ts (VField m2 v2 f) h.2 w.1)

pub well_formed_dec : (t : TypeTree) (v : ValueTree) → Shaped v (enc_type t) → WellFormed v → WellFormed (dec t v)
well_formed_dec t v h w =
    let p = dec_right t v h in
    well_formed_from t (dec t v) p.1 (subst WellFormed (sym p.0) w)
