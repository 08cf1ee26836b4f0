-- Values that compare equal are the same.
use Rattle.std.proofs.Common.{◌≡◌, ℕ, Bool, true, false, List, [], ◌∷◌, ap, refl, Equal, nat_cmp}
use Rattle.std.specs.Ordering.{ordering_then, bool_cmp}
use Rattle.std.proofs.lemmas.Map.Lookups.{exact_signed, exact_unsigned}
use Rattle.kola_core.proofs.Compare.{both_equal}
use Rattle.kola_values.specs.Values.{ValueTree, VUnit, VInt, VBool, VStr, VObj, VPair, VStruct, VSet, MemberValues, VNone, VMore, FieldValues, VEnd, VField}
use Rattle.kola_values.specs.Order.{cmp, cmp_members, cmp_fields, name_cmp}

bool_exact : (a b : Bool) → bool_cmp a b ≡ Equal → a ≡ b
bool_exact false false e = refl
bool_exact true true e = refl
bool_exact _ _ e = absurd (cc)

pub name_exact : (x y : List ℕ) → name_cmp x y ≡ Equal → x ≡ y
name_exact [] [] e = refl
name_exact [] (b ∷ y) e = absurd (cc)
name_exact (a ∷ x) [] e = absurd (cc)
name_exact (a ∷ x) (b ∷ y) e =
    let p = both_equal (nat_cmp a b) (name_cmp x y) e in
    let h = exact_unsigned a b p.0 in
    let k = name_exact x y p.1 in
    cc

mutual
  pub exact : (v w : ValueTree) → cmp v w ≡ Equal → v ≡ w
  exact VUnit VUnit e = refl
  exact (VInt m) (VInt n) e = ap VInt (exact_signed m n e)
  exact (VBool a) (VBool b) e = ap VBool (bool_exact a b e)
  exact (VStr x) (VStr y) e = ap VStr (name_exact x y e)
  exact (VObj c i) (VObj d j) e =
      let p = both_equal (name_cmp c d) (nat_cmp i j) e in
      let h = name_exact c d p.0 in
      let k = exact_unsigned i j p.1 in
      cc
  exact (VPair a b) (VPair c d) e =
      let p = both_equal (cmp a c) (cmp b d) e in
      let h = exact a c p.0 in
      let k = exact b d p.1 in
      cc
  exact (VStruct fs) (VStruct gs) e = ap VStruct (exact_fields fs gs e)
  exact (VSet vs) (VSet ws) e = ap VSet (exact_members vs ws e)
  exact _ _ e = absurd (cc)

  pub exact_members : (vs ws : MemberValues) → cmp_members vs ws ≡ Equal → vs ≡ ws
  exact_members VNone VNone e = refl
  exact_members (VMore v vs) (VMore w ws) e =
      let p = both_equal (cmp v w) (cmp_members vs ws) e in
      let h = exact v w p.0 in
      let k = exact_members vs ws p.1 in
      cc
  exact_members _ _ e = absurd (cc)

  pub exact_fields : (fs gs : FieldValues) → cmp_fields fs gs ≡ Equal → fs ≡ gs
  exact_fields VEnd VEnd e = refl
  exact_fields (VField l v fs) (VField m w gs) e =
      let p = both_equal (name_cmp l m) (ordering_then (cmp v w) (cmp_fields fs gs)) e in
      let q = both_equal (cmp v w) (cmp_fields fs gs) p.1 in
      let g = name_exact l m p.0 in
      let h = exact v w q.0 in
      let k = exact_fields fs gs q.1 in
      cc
  exact_fields _ _ e = absurd (cc)
