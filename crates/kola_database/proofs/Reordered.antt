-- A database whose objects stand in another order means the same.
use Rattle.std.proofs.Common.{◌≡◌, ℕ, Bool, true, false, cond, ◌&&◌, ◌||◌, List, [], ◌∷◌, filter, refl, sym, ap, ◌∙◌, true≢false, IsPermutation}
use mathlib.Core.Bool.{or-true}
use Rattle.std.specs.List.{list_any, AllByRecursion, IsDistinct}
use Rattle.std.specs.Str.{bytes_eq}
use Rattle.std.proofs.lemmas.List.Sorted.{list_any-IsPermutation, IsPermutation-map, IsPermutation-sym}
use Rattle.std.proofs.lemmas.Map.Keys.{IsDistinct-IsPermutation}
use Rattle.std.proofs.ByRecursion.{all_shuffled}
use Rattle.kola_values.specs.Values.{ValueTree, VUnit, VInt, VBool, VStr, VObj, VPair, VStruct, VSet, MemberValues, VNone, VMore, FieldValues, VEnd, VField, items}
use Rattle.kola_values.specs.Types.{TypeTree, TInt, TStr, TBool, TUnit, TClass, TSet, TPair, TStruct, FieldTypes, TEnd, TField}
use Rattle.kola_values.specs.Order.{same}
use Rattle.kola_values.specs.Sets.{any, has, Each}
use Rattle.kola_values.specs.Databases.{Object, Classes, Objects, look_up, value_or_unit, objects_of, attribute_of, HasType, HaveTypes}
use Rattle.kola_schema.specs.Meets.{FitsClass, NoneTwice, object_values, agree_on, Meets}
use Rattle.kola_values.proofs.Anys.{any_map, any_filter, each_from, equal, same_itself, same_comm}
use Rattle.kola_values.proofs.Truth.{both_false}

-- ---- tests

any_list : {A : Type 0} (q : A → Bool) (xs : List A) → any q xs ≡ list_any q xs
unfolding any
any_list q [] = refl
any_list q (x ∷ xs) = ap (λ b. q x || b) (any_list q xs)

pub any_reordered : {A : Type 0} (q : A → Bool) (xs ys : List A) → IsPermutation xs ys → any q ys ≡ any q xs
any_reordered q xs ys p = any_list q ys ∙ sym (list_any-IsPermutation q xs ys p) ∙ sym (any_list q xs)

to_each : {A : Type 0} (P : A → Type 0) (xs : List A) → AllByRecursion P xs → Each P xs
to_each P [] h = tt
to_each P (x ∷ xs) h = (h.0, to_each P xs h.1)

from_each : {A : Type 0} (P : A → Type 0) (xs : List A) → Each P xs → AllByRecursion P xs
from_each P [] h = tt
from_each P (x ∷ xs) h = (h.0, from_each P xs h.1)

pub each_reordered : {A : Type 0} (P : A → Type 0) (xs ys : List A) → IsPermutation xs ys → Each P xs → Each P ys
each_reordered P xs ys p h = to_each P ys (all_shuffled P xs ys p (from_each P xs h))

-- ---- no value twice

none_same : (v : ValueTree) (vs : List ValueTree) → has v vs ≡ false → AllByRecursion (λ w. same v w ≡ false) vs
unfolding any
none_same v [] h = tt
none_same v (w ∷ ws) h = let p = both_false (same v w) (has v ws) h in (p.0, none_same v ws p.1)

from_none_same : (v : ValueTree) (vs : List ValueTree) → AllByRecursion (λ w. same v w ≡ false) vs → has v vs ≡ false
unfolding any
from_none_same v [] h = refl
from_none_same v (w ∷ ws) h = ap (λ b. b || has v ws) h.0 ∙ from_none_same v ws h.1

apart : (vs : List ValueTree) → NoneTwice vs → IsDistinct same vs
unfolding IsDistinct
apart [] h = tt
apart (v ∷ vs) h = (none_same v vs h.0, apart vs h.1)

from_apart : (vs : List ValueTree) → IsDistinct same vs → NoneTwice vs
unfolding IsDistinct
from_apart [] h = tt
from_apart (v ∷ vs) h = (from_none_same v vs h.0, from_apart vs h.1)

pub none_twice_reordered : (vs ws : List ValueTree) → IsPermutation vs ws → NoneTwice vs → NoneTwice ws
none_twice_reordered vs ws p h = from_apart ws (IsDistinct-IsPermutation same same_comm vs ws p (apart vs h))

-- ---- the attribute of an object

left_true : (b : Bool) → (b || false) ≡ true → b ≡ true
left_true true h = refl
left_true false h = h

module _ (a : List ℕ) (v : ValueTree) where
  -- o is the object v, and its attribute has the value r
  abbrev shows : ValueTree → Object → Bool
  shows r o = same v (VObj o.class o.id) && same r (value_or_unit (look_up a o.values))

  absent_attribute : (d : Objects) → has v (object_values d) ≡ false → attribute_of a d v ≡ VUnit
  unfolding any
  absent_attribute [] h = refl
  absent_attribute (o ∷ d) h =
      let p = both_false (same v (VObj o.class o.id)) (has v (object_values d)) h in
      ap (λ b. cond b (value_or_unit (look_up a o.values)) (attribute_of a d v)) p.0 ∙ absent_attribute d p.1

  shown : (d : Objects) → has v (object_values d) ≡ true → any (shows (attribute_of a d v)) d ≡ true
  unfolding any
  shown [] h = absurd (true≢false (sym h))
  shown (o ∷ d) h = at (same v (VObj o.class o.id)) refl (shown d)
    where
      at : (b : Bool) → same v (VObj o.class o.id) ≡ b → (has v (object_values d) ≡ true → any (shows (attribute_of a d v)) d ≡ true)
          → any (shows (cond b (value_or_unit (look_up a o.values)) (attribute_of a d v))) (o ∷ d) ≡ true
      at true e k = rw (e, same_itself (value_or_unit (look_up a o.values)))
      at false e k = rw (k (sym (ap (λ b. b || has v (object_values d)) e) ∙ h)) (or-true (shows (attribute_of a d v) o))

  none_shows : (r : ValueTree) (d : Objects) → has v (object_values d) ≡ false → any (shows r) d ≡ false
  unfolding any
  none_shows r [] h = refl
  none_shows r (o ∷ d) h =
      let p = both_false (same v (VObj o.class o.id)) (has v (object_values d)) h in
      ap (λ b. (b && same r (value_or_unit (look_up a o.values))) || any (shows r) d) p.0 ∙ none_shows r d p.1

  told : (r : ValueTree) (d : Objects) → NoneTwice (object_values d) → any (shows r) d ≡ true → attribute_of a d v ≡ r
  unfolding any
  told r [] n h = absurd (true≢false (sym h))
  told r (o ∷ d) n h = at (same v (VObj o.class o.id)) refl (told r d n.1)
    where
      at : (b : Bool) → same v (VObj o.class o.id) ≡ b → (any (shows r) d ≡ true → attribute_of a d v ≡ r) → cond b (value_or_unit (look_up a o.values)) (attribute_of a d v) ≡ r
      at true e k =
          let none = none_shows r d (ap (λ x. has x (object_values d)) (equal v (VObj o.class o.id) e) ∙ n.0) in
          let s : (same r (value_or_unit (look_up a o.values)) || false) ≡ true = (λ j. (sym e j && same r (value_or_unit (look_up a o.values))) || sym none j) ∙ h in
          sym (equal r (value_or_unit (look_up a o.values)) (left_true (same r (value_or_unit (look_up a o.values))) s))
      at false e k = k (sym (ap (λ b. (b && same r (value_or_unit (look_up a o.values))) || any (shows r) d) e) ∙ h)

module _ (d e : Objects) (p : IsPermutation d e) where
  values_reordered : IsPermutation (object_values d) (object_values e)
  values_reordered = IsPermutation-map (λ (o : Object). VObj o.class o.id) d e p

  pub distinct_reordered : NoneTwice (object_values d) → NoneTwice (object_values e)
  distinct_reordered h = none_twice_reordered (object_values d) (object_values e) values_reordered h

  pub objects_reordered : (c : List ℕ) (q : ValueTree → Bool) → any q (objects_of c e) ≡ any q (objects_of c d)
  objects_reordered c q = seen e ∙ any_reordered (λ (o : Object). bytes_eq c o.class && q (VObj o.class o.id)) d e p ∙ sym (seen d)
    where
      seen : (x : Objects) → any q (objects_of c x) ≡ any (λ (o : Object). bytes_eq c o.class && q (VObj o.class o.id)) x
      seen x =
          any_map q (λ (o : Object). VObj o.class o.id) (filter (λ (o : Object). bytes_eq c o.class) x)
          ∙ any_filter (λ (o : Object). q (VObj o.class o.id)) (λ (o : Object). bytes_eq c o.class) x

  pub attribute_reordered : NoneTwice (object_values d) → (a : List ℕ) (v : ValueTree) → attribute_of a e v ≡ attribute_of a d v
  attribute_reordered n a v = at (has v (object_values d)) refl
    where
      at : (b : Bool) → has v (object_values d) ≡ b → attribute_of a e v ≡ attribute_of a d v
      at true h = told a v (attribute_of a d v) e (distinct_reordered n) (any_reordered (shows a v (attribute_of a d v)) d e p ∙ shown a v d h)
      at false h = absent_attribute a v e (any_reordered (same v) (object_values d) (object_values e) values_reordered ∙ h) ∙ sym (absent_attribute a v d h)

  pub agree_reordered : NoneTwice (object_values d) → (names : List (List ℕ)) (v w : ValueTree) → agree_on e names v w ≡ agree_on d names v w
  agree_reordered n [] v w = refl
  agree_reordered n (a ∷ names) v w = λ j. same (attribute_reordered n a v j) (attribute_reordered n a w j) && agree_reordered n names v w j

-- ---- the values of a type

module _ (d e : Objects) (h : (c : List ℕ) (v : ValueTree) → has v (objects_of c d) ≡ true → has v (objects_of c e) ≡ true) where
  mutual
    pub typed_in : (v : ValueTree) (t : TypeTree) → HasType d v t → HasType e v t
    typed_in (VInt z) TInt k = k
    typed_in (VStr s) TStr k = k
    typed_in (VBool b) TBool k = k
    typed_in VUnit TUnit k = k
    typed_in (VObj c i) (TClass n) k = (k.0, h c (VObj c i) k.1)
    typed_in (VSet vs) (TSet t) k = (k.0, members_in vs t k.1)
    typed_in (VPair v w) (TPair t u) k = (typed_in v t k.0, typed_in w u k.1)
    typed_in (VStruct fs) (TStruct ts) k = fields_in fs ts k
    typed_in _ _ k = absurd k

    members_in : (vs : MemberValues) (t : TypeTree) → Each (λ v. HasType d v t) (items vs) → Each (λ v. HasType e v t) (items vs)
    members_in VNone t k = tt
    members_in (VMore v vs) t k = (typed_in v t k.0, members_in vs t k.1)

    fields_in : (fs : FieldValues) (ts : FieldTypes) → HaveTypes d fs ts → HaveTypes e fs ts
    fields_in VEnd TEnd k = k
    fields_in (VField l v fs) (TField m t ts) k = (k.0, typed_in v t k.1, fields_in fs ts k.2)
    fields_in _ _ k = absurd k

pub typed_reordered : (d e : Objects) → IsPermutation d e → (v : ValueTree) (t : TypeTree) → HasType d v t → HasType e v t
typed_reordered d e p v t k = typed_in d e (λ c w h. objects_reordered d e p c (same w) ∙ h) v t k

-- ---- a schema met

fits_reordered : (S : Classes) (d e : Objects) → IsPermutation d e → (o : Object) → FitsClass S d o → FitsClass S e o
fits_reordered S d e p o f = record {
  class = f.class;
  is = f.is;
  once = f.once;
  exactly = f.exactly;
  types = λ a t k. typed_reordered d e p (value_or_unit (look_up a o.values)) t (f.types a t k);
  id_low = f.id_low;
  id_high = f.id_high;
}

pub meets_reordered : (S : Classes) (d e : Objects) → IsPermutation d e → Meets S d → Meets S e
meets_reordered S d e p m =
    let back = IsPermutation-sym d e p in record {
      distinct = distinct_reordered d e p m.distinct;
      fits = each_reordered (FitsClass S e) d e p (each_from (FitsClass S d) (FitsClass S e) d (fits_reordered S d e p) m.fits);
      keys = λ c n key v w k tv tw agree.
          m.keys c n key v w k (typed_reordered e d back v (TClass c) tv) (typed_reordered e d back w (TClass c) tw) (sym (agree_reordered d e p m.distinct key v w) ∙ agree);
    }
