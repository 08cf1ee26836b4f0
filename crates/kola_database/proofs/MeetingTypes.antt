-- The test of a value against a type answers true exactly at the values of the type.
use Rattle.std.proofs.Common.{◌≡◌, ◌↔◌, ℕ, Bool, true, false, cond, ◌&&◌, ◌||◌, List, [], ◌∷◌, map, filter, refl, sym, ap, ◌∙◌}
use Rattle.std.specs.List.{list_all}
use Rattle.std.specs.Str.{bytes_eq}
use Rattle.kola_values.specs.Values.{ValueTree, VUnit, VInt, VBool, VStr, VObj, VPair, VStruct, VSet, MemberValues, VNone, VMore, FieldValues, VEnd, VField, items}
use Rattle.kola_values.specs.Types.{TypeTree, TInt, TStr, TBool, TUnit, TClass, TSet, TPair, TStruct, FieldTypes, TEnd, TField}
use Rattle.kola_values.specs.Order.{same}
use Rattle.kola_values.specs.Sets.{Each, any, has}
use Rattle.kola_values.specs.Databases.{Object, Objects, objects_of, HasType, HaveTypes}
use Rattle.kola_values.specs.WellFormed.{WellFormed, WellFormedMembers, WellFormedFields}
use Rattle.kola_values.specs.Shapes.{Shaped, ShapedFields}
use Rattle.kola_database.specs.MeetsTests.{typed_by, fields_typed_by, is_there, has_type, anything}
use Rattle.kola_values.proofs.Anys.{equal}
use Rattle.kola_values.proofs.SameTypes.{and_true, both_true, name_equal, name_itself}

-- ---- the objects of a class

abbrev pub class_part : (v : ValueTree) → List ℕ
class_part (VObj c i) = c
class_part v = []

pub other_class : (c k : List ℕ) (i j : ℕ) → bytes_eq c k ≡ false → same (VObj c i) (VObj k j) ≡ false
other_class c k i j n = at (same (VObj c i) (VObj k j)) refl
  where
    at : (b : Bool) → same (VObj c i) (VObj k j) ≡ b → b ≡ false
    at false e = refl
    at true e = sym (sym n ∙ (ap (bytes_eq c) (sym (ap class_part (equal (VObj c i) (VObj k j) e))) ∙ name_itself c))

pub there_exactly : (d : Objects) (c : List ℕ) (i : ℕ) → has (VObj c i) (objects_of c d) ≡ is_there d c i
unfolding any
there_exactly [] c i = refl
there_exactly (o ∷ d) c i = at (bytes_eq c o.class) refl (there_exactly d c i)
  where
    at : (b : Bool) → bytes_eq c o.class ≡ b → has (VObj c i) (objects_of c d) ≡ is_there d c i
        → has (VObj c i) (map (λ (p : Object). VObj p.class p.id) (cond b (o ∷ filter (λ (p : Object). bytes_eq c p.class) d) (filter (λ (p : Object). bytes_eq c p.class) d))) ≡ (same (VObj c i) (VObj o.class o.id) || is_there d c i)
    at true e h = ap (λ b. same (VObj c i) (VObj o.class o.id) || b) h
    at false e h = h ∙ ap (λ b. b || is_there d c i) (sym (other_class c o.class i o.id e))

-- ---- in a database

module _ (d : Objects) where
  mutual
    pub typed_from : (v : ValueTree) (t : TypeTree) → WellFormed v → has_type d v t ≡ true → HasType d v t
    typed_from (VInt z) TInt w h = w
    typed_from (VStr s) TStr w h = tt
    typed_from (VBool b) TBool w h = tt
    typed_from VUnit TUnit w h = tt
    typed_from (VObj c i) (TClass e) w h = let p = both_true (bytes_eq c e) (is_there d c i) h in (name_equal c e p.0, there_exactly d c i ∙ p.1)
    typed_from (VSet vs) (TSet t) w h = (w.0, members_from vs t w.1 h)
    typed_from (VPair a b) (TPair t u) w h = let p = both_true (has_type d a t) (has_type d b u) h in (typed_from a t w.0 p.0, typed_from b u w.1 p.1)
    typed_from (VStruct fs) (TStruct ts) w h = fields_from fs ts w h
    typed_from _ _ w h = absurd (cc)

    members_from : (vs : MemberValues) (t : TypeTree) → WellFormedMembers vs → list_all (λ v. typed_by (is_there d) v t) (items vs) ≡ true → Each (λ v. HasType d v t) (items vs)
    members_from VNone t w h = tt
    members_from (VMore v vs) t w h = let p = both_true (has_type d v t) (list_all (λ v. typed_by (is_there d) v t) (items vs)) h in (typed_from v t w.0 p.0, members_from vs t w.1 p.1)

    fields_from : (fs : FieldValues) (ts : FieldTypes) → WellFormedFields fs → fields_typed_by (is_there d) fs ts ≡ true → HaveTypes d fs ts
    fields_from VEnd TEnd w h = tt
    fields_from (VField l v fs) (TField m t ts) w h =
        let p = both_true (bytes_eq l m && has_type d v t) (fields_typed_by (is_there d) fs ts) h in
        let q = both_true (bytes_eq l m) (has_type d v t) p.0 in
        (name_equal l m q.0, typed_from v t w.0 q.1, fields_from fs ts w.1 p.1)
    fields_from _ _ w h = absurd (cc)

  mutual
    pub typed_to : (v : ValueTree) (t : TypeTree) → HasType d v t → has_type d v t ≡ true
    typed_to (VInt z) TInt h = refl
    typed_to (VStr s) TStr h = refl
    typed_to (VBool b) TBool h = refl
    typed_to VUnit TUnit h = refl
    typed_to (VObj c i) (TClass e) h = and_true _ _ (ap (bytes_eq c) (sym h.0) ∙ name_itself c) (sym (there_exactly d c i) ∙ h.1)
    typed_to (VSet vs) (TSet t) h = members_to vs t h.1
    typed_to (VPair a b) (TPair t u) h = and_true _ _ (typed_to a t h.0) (typed_to b u h.1)
    typed_to (VStruct fs) (TStruct ts) h = fields_to fs ts h
    typed_to _ _ h = absurd h

    members_to : (vs : MemberValues) (t : TypeTree) → Each (λ v. HasType d v t) (items vs) → list_all (λ v. typed_by (is_there d) v t) (items vs) ≡ true
    members_to VNone t h = refl
    members_to (VMore v vs) t h = and_true _ _ (typed_to v t h.0) (members_to vs t h.1)

    fields_to : (fs : FieldValues) (ts : FieldTypes) → HaveTypes d fs ts → fields_typed_by (is_there d) fs ts ≡ true
    fields_to VEnd TEnd h = refl
    fields_to (VField l v fs) (TField m t ts) h = and_true _ _ (and_true _ _ (ap (bytes_eq l) (sym h.0) ∙ name_itself l) (typed_to v t h.1)) (fields_to fs ts h.2)
    fields_to _ _ h = absurd h

  pub typed_exactly : (v : ValueTree) (t : TypeTree) → WellFormed v → ((has_type d v t ≡ true) ↔ HasType d v t)
  typed_exactly v t w = (typed_from v t w, typed_to v t)

-- ---- in some database

mutual
  shaped_from : (v : ValueTree) (t : TypeTree) → WellFormed v → typed_by anything v t ≡ true → Shaped v t
  shaped_from (VInt z) TInt w h = w
  shaped_from (VStr s) TStr w h = tt
  shaped_from (VBool b) TBool w h = tt
  shaped_from VUnit TUnit w h = tt
  shaped_from (VObj c i) (TClass e) w h = name_equal c e (both_true (bytes_eq c e) true h).0
  shaped_from (VSet vs) (TSet t) w h = (w.0, members_shaped_from vs t w.1 h)
  shaped_from (VPair a b) (TPair t u) w h = let p = both_true (typed_by anything a t) (typed_by anything b u) h in (shaped_from a t w.0 p.0, shaped_from b u w.1 p.1)
  shaped_from (VStruct fs) (TStruct ts) w h = fields_shaped_from fs ts w h
  shaped_from _ _ w h = absurd (cc)

  members_shaped_from : (vs : MemberValues) (t : TypeTree) → WellFormedMembers vs → list_all (λ v. typed_by anything v t) (items vs) ≡ true → Each (λ v. Shaped v t) (items vs)
  members_shaped_from VNone t w h = tt
  members_shaped_from (VMore v vs) t w h = let p = both_true (typed_by anything v t) (list_all (λ v. typed_by anything v t) (items vs)) h in (shaped_from v t w.0 p.0, members_shaped_from vs t w.1 p.1)

  fields_shaped_from : (fs : FieldValues) (ts : FieldTypes) → WellFormedFields fs → fields_typed_by anything fs ts ≡ true → ShapedFields fs ts
  fields_shaped_from VEnd TEnd w h = tt
  fields_shaped_from (VField l v fs) (TField m t ts) w h =
      let p = both_true (bytes_eq l m && typed_by anything v t) (fields_typed_by anything fs ts) h in
      let q = both_true (bytes_eq l m) (typed_by anything v t) p.0 in
      (name_equal l m q.0, shaped_from v t w.0 q.1, fields_shaped_from fs ts w.1 p.1)
  fields_shaped_from _ _ w h = absurd (cc)

mutual
  shaped_to : (v : ValueTree) (t : TypeTree) → Shaped v t → typed_by anything v t ≡ true
  shaped_to (VInt z) TInt h = refl
  shaped_to (VStr s) TStr h = refl
  shaped_to (VBool b) TBool h = refl
  shaped_to VUnit TUnit h = refl
  shaped_to (VObj c i) (TClass e) h = and_true _ _ (ap (bytes_eq c) (sym h) ∙ name_itself c) refl
  shaped_to (VSet vs) (TSet t) h = members_shaped_to vs t h.1
  shaped_to (VPair a b) (TPair t u) h = and_true _ _ (shaped_to a t h.0) (shaped_to b u h.1)
  shaped_to (VStruct fs) (TStruct ts) h = fields_shaped_to fs ts h
  shaped_to _ _ h = absurd h

  members_shaped_to : (vs : MemberValues) (t : TypeTree) → Each (λ v. Shaped v t) (items vs) → list_all (λ v. typed_by anything v t) (items vs) ≡ true
  members_shaped_to VNone t h = refl
  members_shaped_to (VMore v vs) t h = and_true _ _ (shaped_to v t h.0) (members_shaped_to vs t h.1)

  fields_shaped_to : (fs : FieldValues) (ts : FieldTypes) → ShapedFields fs ts → fields_typed_by anything fs ts ≡ true
  fields_shaped_to VEnd TEnd h = refl
  fields_shaped_to (VField l v fs) (TField m t ts) h = and_true _ _ (and_true _ _ (ap (bytes_eq l) (sym h.0) ∙ name_itself l) (shaped_to v t h.1)) (fields_shaped_to fs ts h.2)
  fields_shaped_to _ _ h = absurd h

pub shaped_exactly : (v : ValueTree) (t : TypeTree) → WellFormed v → ((typed_by anything v t ≡ true) ↔ Shaped v t)
shaped_exactly v t w = (shaped_from v t w, shaped_to v t)
