-- Attributes, constants and extents have their types.
use Rattle.std.proofs.Common.{◌≡◌, ℕ, Bool, true, false, cond, ◌&&◌, Option, Some, None, refl, sym, subst, option_map, true≢false, List, [], ◌∷◌, map, filter, ◌||◌}
use Rattle.kola_core.proofs.Integers.{is_in_range}
use Rattle.kola_values.specs.Values.{ValueTree, VInt, VBool, VStr, VObj}
use Rattle.kola_values.specs.Types.{TypeTree, TInt, TBool, TStr, TClass, TSet}
use Rattle.std.specs.Str.{bytes_eq}
use Rattle.kola_values.specs.Order.{same}
use Rattle.kola_values.specs.Sets.{any, has, Each, set_of}
use Rattle.kola_values.specs.Databases.{Classes, Objects, Object, HasType, attribute_of, attribute_type, extent_class, objects_of, value_or_unit, look_up}
use Rattle.kola_schema.specs.Meets.{Meets, FitsClass}
use Rattle.kola_values.proofs.Anys.{equal, each_has}
use Rattle.kola_values.proofs.Each.{set_typed}
use Rattle.kola_term.specs.Terms.{ConstTree, CInt, CBool, CStr, CSet, CExtent, CMeta}
use Rattle.kola_core.specs.Integers.{in_64}
use Rattle.kola_term.specs.Literals.{literal_type, is_literal_of, each_literal, rises_from, set_type_of, set_type}
use Rattle.kola_term.specs.Meaning.{constant, extent_objects}
use Rattle.kola_term.specs.Typing.{const_type}
use Rattle.kola_term.proofs.Inversions.{and_true, same_name-equal, if_some, some_same}

-- ---- attributes

obj_class : (c e : List ℕ) (i j : ℕ) → VObj c i ≡ VObj e j → c ≡ e
obj_class c e i j h = cc

attr_step : (d : Objects) (a : List ℕ) (t : TypeTree) (c : List ℕ) (i : ℕ) (o : Object) (b : Bool) (rest : ValueTree) → same (VObj c i) (VObj o.class o.id) ≡ b
    → (VObj c i ≡ VObj o.class o.id → HasType d (value_or_unit (look_up a o.values)) t) → (b ≡ false → HasType d rest t)
    → HasType d (cond b (value_or_unit (look_up a o.values)) rest) t
attr_step d a t c i o true rest e f g = f (equal (VObj c i) (VObj o.class o.id) e)
attr_step d a t c i o false rest e f g = g refl

mem_step : (v w : ValueTree) (vs : List ValueTree) → same v w ≡ false → (same v w || has v vs) ≡ true → has v vs ≡ true
mem_step v w vs e h = rw e at h

-- an object that is among those of e
objects_has : (c : List ℕ) (i : ℕ) (e : List ℕ) (o : Object) (es : List Object) → same (VObj c i) (VObj o.class o.id) ≡ false → has (VObj c i) (objects_of e (o ∷ es)) ≡ true → has (VObj c i) (objects_of e es) ≡ true
unfolding any
objects_has c i e o es s h = at (bytes_eq e o.class) h
  where
    at : (b : Bool) → has (VObj c i) (map (λ (x : Object). VObj x.class x.id) (cond b (o ∷ filter (λ (x : Object). bytes_eq e x.class) es) (filter (λ (x : Object). bytes_eq e x.class) es))) ≡ true → has (VObj c i) (objects_of e es) ≡ true
    at true k = mem_step (VObj c i) (VObj o.class o.id) (objects_of e es) s k
    at false k = k

attr_in : (S : Classes) (d : Objects) (a : List ℕ) (t : TypeTree) (c : List ℕ) (i : ℕ) (os : List Object) → Each (FitsClass S d) os → attribute_type S c a ≡ Some t → has (VObj c i) (objects_of c os) ≡ true → HasType d (attribute_of a os (VObj c i)) t
unfolding any
attr_in S d a t c i [] f e h = absurd (true≢false (sym h))
attr_in S d a t c i (o ∷ os) f e h =
    attr_step d a t c i o (same (VObj c i) (VObj o.class o.id)) (attribute_of a os (VObj c i)) refl
    (λ k. f.0.types a t (subst (λ n. attribute_type S n a ≡ Some t) (obj_class c o.class i o.id k) e))
    (λ k. attr_in S d a t c i os f.1 e (objects_has c i c o os k h))

pub attr_typed : (S : Classes) (d : Objects) → Meets S d → (a c : List ℕ) (t : TypeTree) (v : ValueTree) → attribute_type S c a ≡ Some t → HasType d v (TClass c) → HasType d (attribute_of a d v) t
attr_typed S d m a c t (VObj e i) k h = attr_in S d a t e i d m.fits (rw h.0 k) h.1
attr_typed S d m a c t _ k h = absurd h

-- ---- constants

pub literal_typed : (d : Objects) (t : TypeTree) (v : ValueTree) → is_literal_of t v ≡ true → HasType d v t
literal_typed d TInt (VInt z) h = is_in_range z h
literal_typed d TBool (VBool b) h = tt
literal_typed d TStr (VStr s) h = tt
literal_typed d _ _ h = absurd (cc)

pub literals_typed : (d : Objects) (t : TypeTree) (vs : List ValueTree) → each_literal t vs ≡ true → Each (λ v. HasType d v t) vs
literals_typed d t [] h = tt
literals_typed d t (v ∷ vs) h =
    let p = and_true (is_literal_of t v) (each_literal t vs) h in
    (literal_typed d t v p.0, literals_typed d t vs p.1)

literals_at : (d : Objects) (t u : TypeTree) (v : ValueTree) (vs : List ValueTree) (b : Bool) → (each_literal t (v ∷ vs) && rises_from v vs) ≡ b → cond b (Some (TSet t)) None ≡ Some u → HasType d (set_of (v ∷ vs)) u
literals_at d t u v vs true h e =
    let p = and_true (each_literal t (v ∷ vs)) (rises_from v vs) h in
    subst (HasType d (set_of (v ∷ vs))) (some_same _ _ e) (set_typed d t (v ∷ vs) (literals_typed d t (v ∷ vs) p.0))
literals_at d t u v vs false h e = absurd (cc)

literals_by : (d : Objects) (o : Option TypeTree) (u : TypeTree) (v : ValueTree) (vs : List ValueTree) → set_type_of o v vs ≡ Some u → HasType d (set_of (v ∷ vs)) u
literals_by d (Some t) u v vs e = literals_at d t u v vs (each_literal t (v ∷ vs) && rises_from v vs) refl e
literals_by d None u v vs e = absurd (cc)

pub literals_set : (d : Objects) (vs : List ValueTree) (u : TypeTree) → set_type vs ≡ Some u → HasType d (set_of vs) u
literals_set d [] u e = absurd (cc)
literals_set d (v ∷ vs) u e = literals_by d (literal_type v) u v vs e

pub objects_typed : (d : Objects) (c : List ℕ) (os : Objects) → Each (λ v. has v (objects_of c d) ≡ true) (objects_of c os) → Each (λ v. HasType d v (TClass c)) (objects_of c os)
objects_typed d c [] h = tt
objects_typed d c (o ∷ os) h = at (bytes_eq c o.class) refl (objects_typed d c os) h
  where
    at : (b : Bool) → bytes_eq c o.class ≡ b → (Each (λ v. has v (objects_of c d) ≡ true) (objects_of c os) → Each (λ v. HasType d v (TClass c)) (objects_of c os)) → Each (λ v. has v (objects_of c d) ≡ true) (map (λ (x : Object). VObj x.class x.id) (cond b (o ∷ filter (λ (x : Object). bytes_eq c x.class) os) (filter (λ (x : Object). bytes_eq c x.class) os))) → Each (λ v. HasType d v (TClass c)) (map (λ (x : Object). VObj x.class x.id) (cond b (o ∷ filter (λ (x : Object). bytes_eq c x.class) os) (filter (λ (x : Object). bytes_eq c x.class) os)))
    at true e more k = ((sym (same_name-equal c o.class e), subst (λ n. has (VObj o.class o.id) (objects_of n d) ≡ true) (same_name-equal c o.class e) k.0), more k.1)
    at false e more k = more k

extent_typed : (d : Objects) (c : List ℕ) → HasType d (set_of (objects_of c d)) (TSet (TClass c))
extent_typed d c = set_typed d (TClass c) (objects_of c d) (objects_typed d c d (each_has (objects_of c d)))

pub extent_at : (d : Objects) (o : Option (List ℕ)) (t : TypeTree) → option_map (λ c. TSet (TClass c)) o ≡ Some t → HasType d (set_of (extent_objects o d)) t
extent_at d (Some c) t e = subst (HasType d (set_of (objects_of c d))) (some_same _ _ e) (extent_typed d c)
extent_at d None t e = absurd (cc)

pub constant_typed : (S : Classes) (d : Objects) (c : ConstTree) (t : TypeTree) → const_type S [] c ≡ Some t → HasType d (constant S d c) t
constant_typed S d (CInt z) t e = let p = if_some (in_64 z) (Some TInt) t e in subst (HasType d (VInt z)) (some_same _ _ p.1) (literal_typed d TInt (VInt z) p.0)
constant_typed S d (CBool b) t e = subst (HasType d (VBool b)) (some_same _ _ e) tt
constant_typed S d (CStr s) t e = subst (HasType d (VStr s)) (some_same _ _ e) tt
constant_typed S d (CSet vs) t e = literals_set d vs t e
constant_typed S d (CExtent n) t e = extent_at d (extent_class S n) t e
constant_typed S d (CMeta n) t e = absurd (cc)
