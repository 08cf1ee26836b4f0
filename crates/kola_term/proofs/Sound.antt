-- A function without variables takes values of its input type to values of its output type.
use Rattle.std.proofs.Common.{◌≡◌, ℕ, Bool, true, false, not, cond, Some, sym, ap, ◌∙◌, subst, option_and_then, option_map, List, [], ◌++◌, flat_map}
use Rattle.kola_values.specs.Values.{ValueTree, VPair}
use Rattle.kola_values.specs.Types.{TypeTree, TClass, TSet, TPair}
use Rattle.kola_values.specs.Order.{same}
use Rattle.kola_values.specs.Sets.{has, members, Each}
use Rattle.kola_values.specs.Databases.{Classes, Objects, HasType, attribute_of}
use Rattle.kola_schema.specs.Meets.{Meets}
use Rattle.kola_values.proofs.Each.{set_typed, each_map, each_filter, each_flat_map, each_append}
use Rattle.kola_values.proofs.Typed.{members_typed}
use Rattle.kola_term.specs.Terms.{FunTree, FId, FFst, FSnd, FFlat, FUnion, FIsect, FMinus, FAttr, FComp, FPair, FTimes, FK, FC, FIf, FIterate, FIter, FJoin, FNest, FUnnest, FMeta}
use Rattle.kola_term.specs.Meaning.{left, right, constant, den, holds_at}
use Rattle.kola_term.specs.Typing.{out, is_typed, const_type, first_type, second_type, member_type, twin_type, iter_type, join_type, the_if, pair_of, one_of, nest_of, attr_at}
use Rattle.kola_term.proofs.Inversions.{then_some, map_some, if_some, fst_some, snd_some, member_some, twice_some, iter_some, join_some, pair_some, one_some, nest_some, some_same}
use Rattle.kola_term.proofs.Attributes.{attr_typed, constant_typed}

pub left_typed : (d : Objects) (t u : TypeTree) (v : ValueTree) → HasType d v (TPair t u) → HasType d (left v) t
left_typed d t u (VPair a b) h = h.0
left_typed d t u _ h = absurd h

pub right_typed : (d : Objects) (t u : TypeTree) (v : ValueTree) → HasType d v (TPair t u) → HasType d (right v) u
right_typed d t u (VPair a b) h = h.1
right_typed d t u _ h = absurd h

-- the two sets of a pair of sets of one type
sets_typed : (d : Objects) (t u : TypeTree) (v : ValueTree) → option_map TSet (option_and_then member_type (twin_type t)) ≡ Some u → HasType d v t
    → (w : TypeTree) × (u ≡ TSet w) × Each (λ x. HasType d x w) (members (left v)) × Each (λ x. HasType d x w) (members (right v))
sets_typed d t u v e h =
    let p = map_some TSet (option_and_then member_type (twin_type t)) u e in
    let q = then_some member_type (twin_type t) p.0 p.1 in
    let k : t ≡ TPair (TSet p.0) (TSet p.0) = twice_some t q.0 q.1 ∙ ap (λ x. TPair x x) (member_some q.0 p.0 q.2) in
    let g : HasType d v (TPair (TSet p.0) (TSet p.0)) = subst (HasType d v) k h in
    (p.0, p.2, members_typed d p.0 (left v) (left_typed d (TSet p.0) (TSet p.0) v g), members_typed d p.0 (right v) (right_typed d (TSet p.0) (TSet p.0) v g))

attr_at_typed : (S : Classes) (d : Objects) → Meets S d → (a : List ℕ) (t u : TypeTree) (v : ValueTree) → attr_at S a t ≡ Some u → HasType d v t → HasType d (attribute_of a d v) u
attr_at_typed S d m a (TClass c) u v e h = attr_typed S d m a c u v e h
attr_at_typed S d m a _ u v e h = absurd (cc)

choose : (d : Objects) (u : TypeTree) (b : Bool) (v w : ValueTree) → HasType d v u → HasType d w u → HasType d (cond b v w) u
choose d u true v w h k = h
choose d u false v w h k = k

pub sound : (S : Classes) (d : Objects) → Meets S d → (f : FunTree) (t u : TypeTree) (v : ValueTree) → out S [] f t ≡ Some u → HasType d v t → HasType d (den S d f v) u
sound S d m FId t u v e h = subst (HasType d v) (cc) h
sound S d m FFst t u v e h = let p = fst_some t u e in left_typed d u p.0 v (subst (HasType d v) p.1 h)
sound S d m FSnd t u v e h = let p = snd_some t u e in right_typed d p.0 u v (subst (HasType d v) p.1 h)
sound S d m FFlat t u v e h =
    let p = map_some TSet (option_and_then member_type (member_type t)) u e in
    let q = then_some member_type (member_type t) p.0 p.1 in
    let k : t ≡ TSet (TSet p.0) = member_some t q.0 q.1 ∙ ap TSet (member_some q.0 p.0 q.2) in
    rw p.2 (set_typed d p.0 (flat_map members (members v)) (each_flat_map _ (λ x. HasType d x (TSet p.0)) members (members v) (members_typed d (TSet p.0) v (subst (HasType d v) k h)) (λ x g. members_typed d p.0 x g)))
sound S d m FUnion t u v e h =
    let p = sets_typed d t u v e h in
    rw p.1 (set_typed d p.0 (members (left v) ++ members (right v)) (each_append _ (members (left v)) (members (right v)) p.2 p.3))
sound S d m FIsect t u v e h =
    let p = sets_typed d t u v e h in
    rw p.1 (set_typed d p.0 _ (each_filter _ (λ x. has x (members (right v))) (members (left v)) p.2))
sound S d m FMinus t u v e h =
    let p = sets_typed d t u v e h in
    rw p.1 (set_typed d p.0 _ (each_filter _ (λ x. not (has x (members (right v)))) (members (left v)) p.2))
sound S d m (FAttr a) t u v e h = attr_at_typed S d m a t u v e h
sound S d m (FComp f g) t u v e h =
    let p = then_some (λ w. out S [] f w) (out S [] g t) u e in
    sound S d m f p.0 u (den S d g v) p.2 (sound S d m g t p.0 v p.1 h)
sound S d m (FPair f g) t u v e h =
    let p = pair_some (out S [] f t) (out S [] g t) u e in
    rw p.4 (sound S d m f t p.0 v p.2 h, sound S d m g t p.1 v p.3 h)
sound S d m (FTimes f g) t u v e h =
    let p = pair_some (option_and_then (λ w. out S [] f w) (first_type t)) (option_and_then (λ w. out S [] g w) (second_type t)) u e in
    let q = then_some (λ w. out S [] f w) (first_type t) p.0 p.2 in
    let r = then_some (λ w. out S [] g w) (second_type t) p.1 p.3 in
    let x = fst_some t q.0 q.1 in
    let y = snd_some t r.0 r.1 in
    rw p.4 (sound S d m f q.0 p.0 (left v) q.2 (left_typed d q.0 x.0 v (subst (HasType d v) x.1 h)), sound S d m g r.0 p.1 (right v) r.2 (right_typed d y.0 r.0 v (subst (HasType d v) y.1 h)))
sound S d m (FK c) t u v e h = constant_typed S d c u e
sound S d m (FC f c) t u v e h =
    let p = then_some (λ w. out S [] f (TPair w t)) (const_type S [] c) u e in
    sound S d m f (TPair p.0 t) u (VPair (constant S d c) v) p.2 (constant_typed S d c p.0 p.1, h)
sound S d m (FIf x f g) t u v e h =
    let p = if_some (is_typed S [] x t) (one_of (out S [] f t) (out S [] g t)) u e in
    let q = one_some (out S [] f t) (out S [] g t) u p.1 in
    choose d u (holds_at S d x v) (den S d f v) (den S d g v) (sound S d m f t u v q.0 h) (sound S d m g t u v q.1 h)
sound S d m (FIterate x f) t u v e h =
    let p = then_some (λ w. the_if (is_typed S [] x w) (option_map TSet (out S [] f w))) (member_type t) u e in
    let q = if_some (is_typed S [] x p.0) (option_map TSet (out S [] f p.0)) u p.2 in
    let r = map_some TSet (out S [] f p.0) u q.1 in
    let k = members_typed d p.0 v (subst (HasType d v) (member_some t p.0 p.1) h) in
    rw r.2 (set_typed d r.0 _ (each_map _ (λ y. HasType d y p.0) (den S d f) _ (each_filter _ (holds_at S d x) (members v) k) (λ y g. sound S d m f p.0 r.0 y r.1 g)))
sound S d m (FIter x f) t u v e h =
    let p = then_some (λ w. the_if (is_typed S [] x w) (option_map TSet (out S [] f w))) (iter_type t) u e in
    let q = if_some (is_typed S [] x p.0) (option_map TSet (out S [] f p.0)) u p.2 in
    let r = map_some TSet (out S [] f p.0) u q.1 in
    let i = iter_some t p.0 p.1 in
    let g : HasType d v (TPair i.0 (TSet i.1)) = subst (HasType d v) i.2 h in
    rw r.2 (set_typed d r.0 _ (each_map _ (λ y. HasType d y i.1) (λ y. den S d f (VPair (left v) y)) _
    (each_filter _ (λ y. holds_at S d x (VPair (left v) y)) (members (right v)) (members_typed d i.1 (right v) (right_typed d i.0 (TSet i.1) v g)))
    (λ y k. sound S d m f p.0 r.0 (VPair (left v) y) r.1 (rw i.3 (left_typed d i.0 (TSet i.1) v g, k)))))
sound S d m (FJoin x f) t u v e h =
    let p = then_some (λ w. the_if (is_typed S [] x w) (option_map TSet (out S [] f w))) (join_type t) u e in
    let q = if_some (is_typed S [] x p.0) (option_map TSet (out S [] f p.0)) u p.2 in
    let r = map_some TSet (out S [] f p.0) u q.1 in
    let i = join_some t p.0 p.1 in
    let g : HasType d v (TPair (TSet i.0) (TSet i.1)) = subst (HasType d v) i.2 h in
    rw r.2 (set_typed d r.0 _ (each_flat_map _ (λ a. HasType d a i.0) _ (members (left v)) (members_typed d i.0 (left v) (left_typed d (TSet i.0) (TSet i.1) v g))
    (λ a l. each_map _ (λ y. HasType d y i.1) (λ y. den S d f (VPair a y)) _
    (each_filter _ (λ y. holds_at S d x (VPair a y)) (members (right v)) (members_typed d i.1 (right v) (right_typed d (TSet i.0) (TSet i.1) v g)))
    (λ y k. sound S d m f p.0 r.0 (VPair a y) r.1 (rw i.3 (l, k))))))
sound S d m (FNest f g) t u v e h =
    let p = then_some (λ w. option_and_then (λ y. nest_of (out S [] f y) (out S [] g y) w) (first_type w)) (join_type t) u e in
    let i = join_some t p.0 p.1 in
    let j = then_some (λ y. nest_of (out S [] f y) (out S [] g y) p.0) (first_type p.0) u p.2 in
    let k : j.0 ≡ i.0 = some_same j.0 i.0 (sym j.1 ∙ ap first_type i.3) in
    let n = nest_some (out S [] f j.0) (out S [] g j.0) i.0 i.1 u (subst (λ w. nest_of (out S [] f j.0) (out S [] g j.0) w ≡ Some u) i.3 j.2) in
    let h2 : HasType d v (TPair (TSet i.0) (TSet i.1)) = subst (HasType d v) i.2 h in
    rw n.3 (set_typed d (TPair i.1 (TSet n.0)) _ (each_map _ (λ y. HasType d y i.1) _ (members (right v)) (members_typed d i.1 (right v) (right_typed d (TSet i.0) (TSet i.1) v h2))
    (λ y b. (
      b,
      set_typed d n.0 _ (each_map _ (λ a. HasType d a i.0) (den S d g) _
          (each_filter _ (λ a. same (den S d f a) y) (members (left v)) (members_typed d i.0 (left v) (left_typed d (TSet i.0) (TSet i.1) v h2)))
          (λ a c. sound S d m g j.0 n.0 a n.2 (subst (HasType d a) (sym k) c))),
    ))))
sound S d m (FUnnest f g) t u v e h =
    let p = then_some (λ w. option_map TSet (pair_of (out S [] f w) (option_and_then member_type (out S [] g w)))) (member_type t) u e in
    let q = map_some TSet (pair_of (out S [] f p.0) (option_and_then member_type (out S [] g p.0))) u p.2 in
    let r = pair_some (out S [] f p.0) (option_and_then member_type (out S [] g p.0)) q.0 q.1 in
    let i = then_some member_type (out S [] g p.0) r.1 r.3 in
    let k = members_typed d p.0 v (subst (HasType d v) (member_some t p.0 p.1) h) in
    rw (q.2, r.4) (set_typed d (TPair r.0 r.1) _ (each_flat_map _ (λ a. HasType d a p.0) _ (members v) k
    (λ a l. each_map _ (λ y. HasType d y r.1) (λ y. VPair (den S d f a) y) (members (den S d g a))
    (members_typed d r.1 (den S d g a) (subst (HasType d (den S d g a)) (member_some i.0 r.1 i.2) (sound S d m g p.0 i.0 a i.1 l)))
    (λ y j. (sound S d m f p.0 r.0 a r.2 l, j)))))
sound S d m (FMeta n) t u v e h = absurd (cc)
