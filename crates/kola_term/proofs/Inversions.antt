-- What an answer of the typing says of the parts.
use Rattle.std.proofs.Common.{◌≡◌, Bool, true, false, cond, ◌&&◌, Option, Some, None, refl, ap, option_and_then, option_map, List, ℕ}
use Rattle.std.specs.Str.{bytes_eq}
use Rattle.std.proofs.lemmas.Slice.Eq.{bytes_eq-Decides}
use Rattle.kola_values.specs.Types.{TypeTree, TInt, TStr, TBool, TUnit, TClass, TVar, TSet, TPair, TStruct, FieldTypes, TEnd, TField, same_type, same_types}
use Rattle.kola_term.specs.Typing.{first_type, second_type, member_type, twin_type, iter_type, join_type, the_if, pair_of, one_of, nest_of, when}

pub and_true : (a b : Bool) → (a && b) ≡ true → (a ≡ true) × (b ≡ true)
and_true true b e = (refl, e)
and_true false b e = absurd (cc)

pub same_name-equal : (a b : List ℕ) → bytes_eq a b ≡ true → a ≡ b
same_name-equal a b h = (bytes_eq-Decides a b).0 h

mutual
  pub same_ty-equal : (t u : TypeTree) → same_type t u ≡ true → t ≡ u
  same_ty-equal TInt TInt e = refl
  same_ty-equal TStr TStr e = refl
  same_ty-equal TBool TBool e = refl
  same_ty-equal TUnit TUnit e = refl
  same_ty-equal (TClass a) (TClass b) e = ap TClass (same_name-equal a b e)
  same_ty-equal (TVar a) (TVar b) e = ap TVar (same_name-equal a b e)
  same_ty-equal (TSet t) (TSet u) e = ap TSet (same_ty-equal t u e)
  same_ty-equal (TPair t u) (TPair x y) e =
      let p = and_true (same_type t x) (same_type u y) e in
      let h = same_ty-equal t x p.0 in
      let k = same_ty-equal u y p.1 in
      cc
  same_ty-equal (TStruct f) (TStruct g) e = ap TStruct (same_fields-equal f g e)
  same_ty-equal _ _ e = absurd (cc)

  pub same_fields-equal : (f g : FieldTypes) → same_types f g ≡ true → f ≡ g
  same_fields-equal TEnd TEnd e = refl
  same_fields-equal (TField l t f) (TField m u g) e =
      let r = and_true (bytes_eq l m && same_type t u) (same_types f g) e in
      let q = and_true (bytes_eq l m) (same_type t u) r.0 in
      let n = same_name-equal l m q.0 in
      let h = same_ty-equal t u q.1 in
      let k = same_fields-equal f g r.1 in
      cc
  same_fields-equal _ _ e = absurd (cc)

pub some_same : {A : Type 0} (a b : A) → Some a ≡ Some b → a ≡ b
some_same a b e = cc

pub then_some : {A B : Type 0} (f : A → Option B) (o : Option A) (b : B) → option_and_then f o ≡ Some b → (a : A) × (o ≡ Some a) × (f a ≡ Some b)
then_some f (Some a) b e = (a, refl, e)
then_some f None b e = absurd (cc)

pub map_some : {A B : Type 0} (f : A → B) (o : Option A) (b : B) → option_map f o ≡ Some b → (a : A) × (o ≡ Some a) × (b ≡ f a)
map_some f (Some a) b e = (a, refl, cc)
map_some f None b e = absurd (cc)

pub if_some : (c : Bool) (o : Option TypeTree) (t : TypeTree) → the_if c o ≡ Some t → (c ≡ true) × (o ≡ Some t)
if_some true o t e = (refl, e)
if_some false o t e = absurd (cc)

pub fst_some : (t u : TypeTree) → first_type t ≡ Some u → (w : TypeTree) × (t ≡ TPair u w)
fst_some (TPair t w) u e = (w, cc)
fst_some _ u e = absurd (cc)

pub snd_some : (t u : TypeTree) → second_type t ≡ Some u → (w : TypeTree) × (t ≡ TPair w u)
snd_some (TPair w t) u e = (w, cc)
snd_some _ u e = absurd (cc)

pub member_some : (t u : TypeTree) → member_type t ≡ Some u → t ≡ TSet u
member_some (TSet t) u e = cc
member_some _ u e = absurd (cc)

twice_at : (t u w : TypeTree) (b : Bool) → same_type t u ≡ b → cond b (Some t) None ≡ Some w → (t ≡ w) × (u ≡ w)
twice_at t u w true s e = let p = same_ty-equal t u s in (cc, cc)
twice_at t u w false s e = absurd (cc)

pub twice_some : (t u : TypeTree) → twin_type t ≡ Some u → t ≡ TPair u u
twice_some (TPair x y) u e = let p = twice_at x y u (same_type x y) refl e in cc
twice_some _ u e = absurd (cc)

pub iter_some : (t u : TypeTree) → iter_type t ≡ Some u → (a : TypeTree) × (b : TypeTree) × (t ≡ TPair a (TSet b)) × (u ≡ TPair a b)
iter_some (TPair a (TSet b)) u e = (a, b, refl, cc)
iter_some _ u e = absurd (cc)

pub join_some : (t u : TypeTree) → join_type t ≡ Some u → (a : TypeTree) × (b : TypeTree) × (t ≡ TPair (TSet a) (TSet b)) × (u ≡ TPair a b)
join_some (TPair (TSet a) (TSet b)) u e = (a, b, refl, cc)
join_some _ u e = absurd (cc)

pub pair_some : (o p : Option TypeTree) (t : TypeTree) → pair_of o p ≡ Some t → (a : TypeTree) × (b : TypeTree) × (o ≡ Some a) × (p ≡ Some b) × (t ≡ TPair a b)
pair_some (Some a) (Some b) t e = (a, b, refl, refl, cc)
pair_some None p t e = absurd (cc)
pair_some (Some a) None t e = absurd (cc)

one_at : (a b t : TypeTree) (c : Bool) → same_type a b ≡ c → cond c (Some a) None ≡ Some t → (a ≡ t) × (b ≡ t)
one_at = twice_at

pub one_some : (o p : Option TypeTree) (t : TypeTree) → one_of o p ≡ Some t → (o ≡ Some t) × (p ≡ Some t)
one_some (Some a) (Some b) t e = let q = one_at a b t (same_type a b) refl e in (ap Some q.0, ap Some q.1)
one_some _ _ t e = absurd (cc)

nest_at : (a v x u t : TypeTree) (c : Bool) → same_type a u ≡ c → cond c (Some (TSet (TPair u (TSet v)))) None ≡ Some t → (a ≡ u) × (t ≡ TSet (TPair u (TSet v)))
nest_at a v x u t true s e = (same_ty-equal a u s, cc)
nest_at a v x u t false s e = absurd (cc)

pub nest_some : (o p : Option TypeTree) (x u t : TypeTree) → nest_of o p (TPair x u) ≡ Some t → (v : TypeTree) × (o ≡ Some u) × (p ≡ Some v) × (t ≡ TSet (TPair u (TSet v)))
nest_some (Some a) (Some v) x u t e = let q = nest_at a v x u t (same_type a u) refl e in (v, ap Some q.0, refl, q.1)
nest_some None p x u t e = absurd (cc)
nest_some (Some a) None x u t e = absurd (cc)

pub when_true : (o : Option TypeTree) (k : TypeTree → Bool) → when o k ≡ true → (u : TypeTree) × (o ≡ Some u) × (k u ≡ true)
when_true (Some u) k e = (u, refl, e)
when_true None k e = absurd (cc)
