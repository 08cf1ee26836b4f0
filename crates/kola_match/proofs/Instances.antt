-- An instance of a typed term is typed.
use Rattle.kola_values.specs.Values.{ValueTree, VInt, VBool, VStr}
use Rattle.kola_core.specs.Integers.{in_64}
use Rattle.kola_term.specs.Literals.{literal_type, each_literal, rises_from, set_type_of, set_type}
use Rattle.std.specs.Str.{bytes_eq}
use Rattle.kola_term.proofs.Introductions.{same_ty_itself, bind, then_if, pair_is, one_is, nest_is, when_is, some_ty, fun_some, pred_some}
use Rattle.std.proofs.Common.{◌≡◌, ℕ, Bool, true, false, cond, ◌&&◌, Option, Some, None, refl, sym, ap, ap₂, ◌∙◌, subst, option_and_then, option_map, List, [], ◌∷◌}
use Rattle.kola_values.specs.Types.{TypeTree, TInt, TStr, TBool, TClass, TSet, TPair}
use Rattle.kola_values.specs.Databases.{Classes, extent_class, look_up}
use Rattle.kola_term.specs.Terms.{ConstTree, CInt, CBool, CStr, CSet, CExtent, CMeta, FunTree, FId, FFst, FSnd, FFlat, FUnion, FIsect, FMinus, FAttr, FComp, FPair, FTimes, FK, FC, FIf, FIterate, FIter, FJoin, FNest, FUnnest, FMeta, PredTree, PEq, PLt, PLe, PMember, PAt, PAnd, POr, PNot, PInv, PKP, PCP, PEx, PFa, PMeta}
use Rattle.kola_term.specs.Typing.{Context, MetaTree, MFun, MPred, MConst, out, is_typed, const_type, first_type, second_type, member_type, twin_type, iter_type, join_type, the_if, pair_of, one_of, nest_of, attr_at, is_some_type, const_of}
use Rattle.kola_match.specs.Substitutions.{Substitution, sub_type, inst_fun, inst_pred, inst_const, IsTyped, HasMetaType}
use Rattle.kola_term.proofs.Inversions.{then_some, map_some, if_some, fst_some, snd_some, member_some, twice_some, iter_some, join_some, pair_some, one_some, nest_some, some_same, and_true, when_true, same_name-equal}
use Rattle.kola_match.proofs.Closed.{AttributesClosed}

module _ (s : List ℕ → TypeTree) where
  pub fst_sub : (t u : TypeTree) → first_type t ≡ Some u → first_type (sub_type s t) ≡ Some (sub_type s u)
  fst_sub t u e = let p = fst_some t u e in ap (λ z. first_type (sub_type s z)) p.1

  pub snd_sub : (t u : TypeTree) → second_type t ≡ Some u → second_type (sub_type s t) ≡ Some (sub_type s u)
  snd_sub t u e = let p = snd_some t u e in ap (λ z. second_type (sub_type s z)) p.1

  pub member_sub : (t u : TypeTree) → member_type t ≡ Some u → member_type (sub_type s t) ≡ Some (sub_type s u)
  member_sub t u e = ap (λ z. member_type (sub_type s z)) (member_some t u e)

  pub twin_sub : (t u : TypeTree) → twin_type t ≡ Some u → twin_type (sub_type s t) ≡ Some (sub_type s u)
  twin_sub t u e = ap (λ z. twin_type (sub_type s z)) (twice_some t u e) ∙ ap (λ b. cond b (Some (sub_type s u)) None) (same_ty_itself (sub_type s u))

  pub iter_sub : (t u : TypeTree) → iter_type t ≡ Some u → iter_type (sub_type s t) ≡ Some (sub_type s u)
  iter_sub t u e = let p = iter_some t u e in ap (λ z. iter_type (sub_type s z)) p.2 ∙ ap (λ z. Some (sub_type s z)) (sym p.3)

  pub join_sub : (t u : TypeTree) → join_type t ≡ Some u → join_type (sub_type s t) ≡ Some (sub_type s u)
  join_sub t u e = let p = join_some t u e in ap (λ z. join_type (sub_type s z)) p.2 ∙ ap (λ z. Some (sub_type s z)) (sym p.3)

  pub sets_sub : (t u : TypeTree) → option_map TSet (option_and_then member_type (twin_type t)) ≡ Some u → option_map TSet (option_and_then member_type (twin_type (sub_type s t))) ≡ Some (sub_type s u)
  sets_sub t u e =
      let p = map_some TSet (option_and_then member_type (twin_type t)) u e in
      let q = then_some member_type (twin_type t) p.0 p.1 in
      ap (option_map TSet) (bind member_type (twin_type (sub_type s t)) (sub_type s q.0) (Some (sub_type s p.0)) (twin_sub t q.0 q.1) (member_sub q.0 p.0 q.2)) ∙ ap (λ z. Some (sub_type s z)) (sym p.2)

  literal_sub : (v : ValueTree) (u : TypeTree) → literal_type v ≡ Some u → sub_type s u ≡ u
  literal_sub (VInt z) u e = subst (λ z. sub_type s z ≡ z) (some_same TInt u e) refl
  literal_sub (VBool b) u e = subst (λ z. sub_type s z ≡ z) (some_same TBool u e) refl
  literal_sub (VStr b) u e = subst (λ z. sub_type s z ≡ z) (some_same TStr u e) refl
  literal_sub _ u e = absurd (cc)

  set_at : (v : ValueTree) (vs : List ValueTree) (t u : TypeTree) (b : Bool) → sub_type s u ≡ u → cond b (Some (TSet u)) None ≡ Some t → sub_type s t ≡ t
  set_at v vs t u true k e = subst (λ z. sub_type s z ≡ z) (some_same (TSet u) t e) (ap TSet k)
  set_at v vs t u false k e = absurd (cc)

  set_by : (o : Option TypeTree) (v : ValueTree) (vs : List ValueTree) (t : TypeTree) → literal_type v ≡ o → set_type_of o v vs ≡ Some t → sub_type s t ≡ t
  set_by (Some u) v vs t h e = set_at v vs t u (each_literal u (v ∷ vs) && rises_from v vs) (literal_sub v u h) e
  set_by None v vs t h e = absurd (cc)

  -- the type of a set constant has no variable
  pub set_sub : (vs : List ValueTree) (t : TypeTree) → set_type vs ≡ Some t → sub_type s t ≡ t
  set_sub [] t e = absurd (cc)
  set_sub (v ∷ vs) t e = set_by (literal_type v) v vs t refl e

-- a variable's term has the variable's type
pub first_at : (S : Classes) (x : Context) (s : Substitution) (n k : List ℕ) (mt me : MetaTree) (o : Option MetaTree) (b : Bool) → bytes_eq n k ≡ b → HasMetaType S x s k me → (o ≡ Some mt → HasMetaType S x s n mt) → cond b (Some me) o ≡ Some mt → HasMetaType S x s n mt
first_at S x s n k mt me o true e h g c = subst (HasMetaType S x s n) (some_same me mt c) (subst (λ z. HasMetaType S x s z me) (sym (same_name-equal n k e)) h)
first_at S x s n k mt me o false e h g c = g c

pub look_up_typed : (S : Classes) (x : Context) (s : Substitution) (vars : Context) (n : List ℕ) (mt : MetaTree) → IsTyped S x s vars → look_up n vars ≡ Some mt → HasMetaType S x s n mt
look_up_typed S x s [] n mt h e = absurd (cc)
look_up_typed S x s (v ∷ vs) n mt h e = first_at S x s n v.0 mt v.1 (look_up n vs) (bytes_eq n v.0) refl h.0 (λ c. look_up_typed S x s vs n mt h.1 c) e

pub const_some : (o : Option MetaTree) (t : TypeTree) → const_of o ≡ Some t → (o ≡ Some (MConst t))
const_some (Some (MConst a)) t e = ap (λ z. Some (MConst z)) (some_same a t e)
const_some (Some (MFun a b)) t e = absurd (cc)
const_some (Some (MPred a)) t e = absurd (cc)
const_some None t e = absurd (cc)

pub const_inst : (S : Classes) (x y : Context) (s : Substitution) → IsTyped S y s x → (c : ConstTree) (t : TypeTree) → const_type S x c ≡ Some t → const_type S y (inst_const s c) ≡ Some (sub_type s.types t)
const_inst S x y s i (CInt z) t e = let p = if_some (in_64 z) (Some TInt) t e in then_if (in_64 z) (Some TInt) TInt p.0 refl ∙ ap (λ z. Some (sub_type s.types z)) (some_same TInt t p.1)
const_inst S x y s i (CBool b) t e = ap (λ z. Some (sub_type s.types z)) (some_same TBool t e)
const_inst S x y s i (CStr b) t e = ap (λ z. Some (sub_type s.types z)) (some_same TStr t e)
const_inst S x y s i (CSet ls) t e = e ∙ ap Some (sym (set_sub s.types ls t e))
const_inst S x y s i (CExtent n) t e = let p = map_some (λ c. TSet (TClass c)) (extent_class S n) t e in ap (option_map (λ c. TSet (TClass c))) p.1 ∙ ap (λ z. Some (sub_type s.types z)) (sym p.2)
const_inst S x y s i (CMeta n) t e = look_up_typed S y s x n (MConst t) i (const_some (look_up n x) t e)

pub attr_inst : (S : Classes) → AttributesClosed S → (s : List ℕ → TypeTree) (a : List ℕ) (t u : TypeTree) → attr_at S a t ≡ Some u → attr_at S a (sub_type s t) ≡ Some (sub_type s u)
attr_inst S c s a (TClass k) u e = e ∙ ap Some (sym (c s k a u e))
attr_inst S c s a _ u e = absurd (cc)

mutual
  pub out_inst : (S : Classes) → AttributesClosed S → (x y : Context) (s : Substitution) → IsTyped S y s x → (f : FunTree) (t u : TypeTree) → out S x f t ≡ Some u → out S y (inst_fun s f) (sub_type s.types t) ≡ Some (sub_type s.types u)
  out_inst S c x y s i FId t u e = ap (λ z. Some (sub_type s.types z)) (some_same t u e)
  out_inst S c x y s i FFst t u e = fst_sub s.types t u e
  out_inst S c x y s i FSnd t u e = snd_sub s.types t u e
  out_inst S c x y s i FFlat t u e =
      let p = map_some TSet (option_and_then member_type (member_type t)) u e in
      let q = then_some member_type (member_type t) p.0 p.1 in
      ap (option_map TSet) (bind member_type (member_type (sub_type s.types t)) (sub_type s.types q.0) (Some (sub_type s.types p.0)) (member_sub s.types t q.0 q.1) (member_sub s.types q.0 p.0 q.2)) ∙ ap (λ z. Some (sub_type s.types z)) (sym p.2)
  out_inst S c x y s i FUnion t u e = sets_sub s.types t u e
  out_inst S c x y s i FIsect t u e = sets_sub s.types t u e
  out_inst S c x y s i FMinus t u e = sets_sub s.types t u e
  out_inst S c x y s i (FAttr a) t u e = attr_inst S c s.types a t u e
  out_inst S c x y s i (FComp f g) t u e =
      let p = then_some (λ w. out S x f w) (out S x g t) u e in
      bind (λ w. out S y (inst_fun s f) w) (out S y (inst_fun s g) (sub_type s.types t)) (sub_type s.types p.0) (Some (sub_type s.types u)) (out_inst S c x y s i g t p.0 p.1) (out_inst S c x y s i f p.0 u p.2)
  out_inst S c x y s i (FPair f g) t u e =
      let p = pair_some (out S x f t) (out S x g t) u e in
      pair_is _ _ (sub_type s.types p.0) (sub_type s.types p.1) (out_inst S c x y s i f t p.0 p.2) (out_inst S c x y s i g t p.1 p.3) ∙ ap (λ z. Some (sub_type s.types z)) (sym p.4)
  out_inst S c x y s i (FTimes f g) t u e =
      let p = pair_some (option_and_then (λ w. out S x f w) (first_type t)) (option_and_then (λ w. out S x g w) (second_type t)) u e in
      let q = then_some (λ w. out S x f w) (first_type t) p.0 p.2 in
      let r = then_some (λ w. out S x g w) (second_type t) p.1 p.3 in
      pair_is _ _ (sub_type s.types p.0) (sub_type s.types p.1)
      (bind (λ w. out S y (inst_fun s f) w) (first_type (sub_type s.types t)) (sub_type s.types q.0) (Some (sub_type s.types p.0)) (fst_sub s.types t q.0 q.1) (out_inst S c x y s i f q.0 p.0 q.2))
      (bind (λ w. out S y (inst_fun s g) w) (second_type (sub_type s.types t)) (sub_type s.types r.0) (Some (sub_type s.types p.1)) (snd_sub s.types t r.0 r.1) (out_inst S c x y s i g r.0 p.1 r.2))
      ∙ ap (λ z. Some (sub_type s.types z)) (sym p.4)
  out_inst S c x y s i (FK k) t u e = const_inst S x y s i k u e
  out_inst S c x y s i (FC f k) t u e =
      let p = then_some (λ w. out S x f (TPair w t)) (const_type S x k) u e in
      bind (λ w. out S y (inst_fun s f) (TPair w (sub_type s.types t))) (const_type S y (inst_const s k)) (sub_type s.types p.0) (Some (sub_type s.types u)) (const_inst S x y s i k p.0 p.1) (out_inst S c x y s i f (TPair p.0 t) u p.2)
  out_inst S c x y s i (FIf p f g) t u e =
      let q = if_some (is_typed S x p t) (one_of (out S x f t) (out S x g t)) u e in
      let r = one_some (out S x f t) (out S x g t) u q.1 in
      then_if _ _ (sub_type s.types u) (ok_inst S c x y s i p t q.0) (one_is _ _ (sub_type s.types u) (out_inst S c x y s i f t u r.0) (out_inst S c x y s i g t u r.1))
  out_inst S c x y s i (FIterate p f) t u e =
      let q = then_some (λ w. the_if (is_typed S x p w) (option_map TSet (out S x f w))) (member_type t) u e in
      let r = if_some (is_typed S x p q.0) (option_map TSet (out S x f q.0)) u q.2 in
      let k = map_some TSet (out S x f q.0) u r.1 in
      bind (λ w. the_if (is_typed S y (inst_pred s p) w) (option_map TSet (out S y (inst_fun s f) w))) (member_type (sub_type s.types t)) (sub_type s.types q.0) (Some (sub_type s.types u)) (member_sub s.types t q.0 q.1)
      (then_if _ _ (sub_type s.types u) (ok_inst S c x y s i p q.0 r.0) (ap (option_map TSet) (out_inst S c x y s i f q.0 k.0 k.1) ∙ ap (λ z. Some (sub_type s.types z)) (sym k.2)))
  out_inst S c x y s i (FIter p f) t u e =
      let q = then_some (λ w. the_if (is_typed S x p w) (option_map TSet (out S x f w))) (iter_type t) u e in
      let r = if_some (is_typed S x p q.0) (option_map TSet (out S x f q.0)) u q.2 in
      let k = map_some TSet (out S x f q.0) u r.1 in
      bind (λ w. the_if (is_typed S y (inst_pred s p) w) (option_map TSet (out S y (inst_fun s f) w))) (iter_type (sub_type s.types t)) (sub_type s.types q.0) (Some (sub_type s.types u)) (iter_sub s.types t q.0 q.1)
      (then_if _ _ (sub_type s.types u) (ok_inst S c x y s i p q.0 r.0) (ap (option_map TSet) (out_inst S c x y s i f q.0 k.0 k.1) ∙ ap (λ z. Some (sub_type s.types z)) (sym k.2)))
  out_inst S c x y s i (FJoin p f) t u e =
      let q = then_some (λ w. the_if (is_typed S x p w) (option_map TSet (out S x f w))) (join_type t) u e in
      let r = if_some (is_typed S x p q.0) (option_map TSet (out S x f q.0)) u q.2 in
      let k = map_some TSet (out S x f q.0) u r.1 in
      bind (λ w. the_if (is_typed S y (inst_pred s p) w) (option_map TSet (out S y (inst_fun s f) w))) (join_type (sub_type s.types t)) (sub_type s.types q.0) (Some (sub_type s.types u)) (join_sub s.types t q.0 q.1)
      (then_if _ _ (sub_type s.types u) (ok_inst S c x y s i p q.0 r.0) (ap (option_map TSet) (out_inst S c x y s i f q.0 k.0 k.1) ∙ ap (λ z. Some (sub_type s.types z)) (sym k.2)))
  out_inst S c x y s i (FNest f g) t u e =
      let q = then_some (λ w. option_and_then (λ z. nest_of (out S x f z) (out S x g z) w) (first_type w)) (join_type t) u e in
      let r = join_some t q.0 q.1 in
      let j = then_some (λ z. nest_of (out S x f z) (out S x g z) q.0) (first_type q.0) u q.2 in
      let n = nest_some (out S x f j.0) (out S x g j.0) r.0 r.1 u (subst (λ w. nest_of (out S x f j.0) (out S x g j.0) w ≡ Some u) r.3 j.2) in
      bind (λ w. option_and_then (λ z. nest_of (out S y (inst_fun s f) z) (out S y (inst_fun s g) z) w) (first_type w)) (join_type (sub_type s.types t)) (sub_type s.types q.0) (Some (sub_type s.types u)) (join_sub s.types t q.0 q.1)
      (bind (λ z. nest_of (out S y (inst_fun s f) z) (out S y (inst_fun s g) z) (sub_type s.types q.0)) (first_type (sub_type s.types q.0)) (sub_type s.types j.0) (Some (sub_type s.types u)) (fst_sub s.types q.0 j.0 j.1)
      (ap (λ w. nest_of (out S y (inst_fun s f) (sub_type s.types j.0)) (out S y (inst_fun s g) (sub_type s.types j.0)) (sub_type s.types w)) r.3
      ∙ (nest_is _ _ (sub_type s.types r.0) (sub_type s.types r.1) (sub_type s.types n.0) (out_inst S c x y s i f j.0 r.1 n.1) (out_inst S c x y s i g j.0 n.0 n.2) ∙ ap (λ z. Some (sub_type s.types z)) (sym n.3))))
  out_inst S c x y s i (FUnnest f g) t u e =
      let p = then_some (λ w. option_map TSet (pair_of (out S x f w) (option_and_then member_type (out S x g w)))) (member_type t) u e in
      let q = map_some TSet (pair_of (out S x f p.0) (option_and_then member_type (out S x g p.0))) u p.2 in
      let r = pair_some (out S x f p.0) (option_and_then member_type (out S x g p.0)) q.0 q.1 in
      let k = then_some member_type (out S x g p.0) r.1 r.3 in
      bind (λ w. option_map TSet (pair_of (out S y (inst_fun s f) w) (option_and_then member_type (out S y (inst_fun s g) w)))) (member_type (sub_type s.types t)) (sub_type s.types p.0) (Some (sub_type s.types u)) (member_sub s.types t p.0 p.1)
      (ap (option_map TSet) (pair_is _ _ (sub_type s.types r.0) (sub_type s.types r.1) (out_inst S c x y s i f p.0 r.0 r.2)
      (bind member_type (out S y (inst_fun s g) (sub_type s.types p.0)) (sub_type s.types k.0) (Some (sub_type s.types r.1)) (out_inst S c x y s i g p.0 k.0 k.1) (member_sub s.types k.0 r.1 k.2)) ∙ ap (λ z. Some (sub_type s.types z)) (sym r.4)) ∙ ap (λ z. Some (sub_type s.types z)) (sym q.2))
  out_inst S c x y s i (FMeta n) t u e = look_up_typed S y s x n (MFun t u) i (fun_some (look_up n x) t u e)

  pub ok_inst : (S : Classes) → AttributesClosed S → (x y : Context) (s : Substitution) → IsTyped S y s x → (p : PredTree) (t : TypeTree) → is_typed S x p t ≡ true → is_typed S y (inst_pred s p) (sub_type s.types t) ≡ true
  ok_inst S c x y s i PEq t e = let q = some_ty (twin_type t) e in ap is_some_type (twin_sub s.types t q.0 q.1)
  ok_inst S c x y s i PLt t e = let q = some_ty (twin_type t) e in ap is_some_type (twin_sub s.types t q.0 q.1)
  ok_inst S c x y s i PLe t e = let q = some_ty (twin_type t) e in ap is_some_type (twin_sub s.types t q.0 q.1)
  ok_inst S c x y s i PMember t e =
      let q = some_ty (option_and_then twin_type (iter_type t)) e in
      let r = then_some twin_type (iter_type t) q.0 q.1 in
      ap is_some_type (bind twin_type (iter_type (sub_type s.types t)) (sub_type s.types r.0) (Some (sub_type s.types q.0)) (iter_sub s.types t r.0 r.1) (twin_sub s.types r.0 q.0 r.2))
  ok_inst S c x y s i (PAt p f) t e =
      let q = when_true (out S x f t) (λ u. is_typed S x p u) e in
      when_is _ (λ u. is_typed S y (inst_pred s p) u) (sub_type s.types q.0) (out_inst S c x y s i f t q.0 q.1) (ok_inst S c x y s i p q.0 q.2)
  ok_inst S c x y s i (PAnd p q) t e = let r = and_true (is_typed S x p t) (is_typed S x q t) e in ap₂ (λ a b. a && b) (ok_inst S c x y s i p t r.0) (ok_inst S c x y s i q t r.1)
  ok_inst S c x y s i (POr p q) t e = let r = and_true (is_typed S x p t) (is_typed S x q t) e in ap₂ (λ a b. a && b) (ok_inst S c x y s i p t r.0) (ok_inst S c x y s i q t r.1)
  ok_inst S c x y s i (PNot p) t e = ok_inst S c x y s i p t e
  ok_inst S c x y s i (PInv p) t e =
      let q = when_true (pair_of (second_type t) (first_type t)) (λ u. is_typed S x p u) e in
      let r = pair_some (second_type t) (first_type t) q.0 q.1 in
      when_is _ (λ u. is_typed S y (inst_pred s p) u) (sub_type s.types q.0) (pair_is _ _ (sub_type s.types r.0) (sub_type s.types r.1) (snd_sub s.types t r.0 r.2) (fst_sub s.types t r.1 r.3) ∙ ap (λ z. Some (sub_type s.types z)) (sym r.4)) (ok_inst S c x y s i p q.0 q.2)
  ok_inst S c x y s i (PKP b) t e = refl
  ok_inst S c x y s i (PCP p k) t e =
      let q = when_true (const_type S x k) (λ u. is_typed S x p (TPair u t)) e in
      when_is _ (λ u. is_typed S y (inst_pred s p) (TPair u (sub_type s.types t))) (sub_type s.types q.0) (const_inst S x y s i k q.0 q.1) (ok_inst S c x y s i p (TPair q.0 t) q.2)
  ok_inst S c x y s i (PEx p) t e = let q = when_true (iter_type t) (λ u. is_typed S x p u) e in when_is _ (λ u. is_typed S y (inst_pred s p) u) (sub_type s.types q.0) (iter_sub s.types t q.0 q.1) (ok_inst S c x y s i p q.0 q.2)
  ok_inst S c x y s i (PFa p) t e = let q = when_true (iter_type t) (λ u. is_typed S x p u) e in when_is _ (λ u. is_typed S y (inst_pred s p) u) (sub_type s.types q.0) (iter_sub s.types t q.0 q.1) (ok_inst S c x y s i p q.0 q.2)
  ok_inst S c x y s i (PMeta n) t e = look_up_typed S y s x n (MPred t) i (pred_some (look_up n x) t e)
