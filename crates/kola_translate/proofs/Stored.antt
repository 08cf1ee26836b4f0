-- The types of attributes, in a well-formed schema, have no struct and no pair: their values are their own encodings.
use Rattle.std.proofs.Common.{◌≡◌, ℕ, Bool, true, false, cond, ◌&&◌, List, [], ◌∷◌, Option, Some, None, refl, ap, ap₂, subst}
use Rattle.std.specs.List.{list_all}
use Rattle.std.specs.Str.{bytes_eq}
use Rattle.kola_values.specs.Values.{ValueTree, VInt, VBool, VStr, VObj, VSet, MemberValues, VNone, VMore, items}
use Rattle.kola_values.specs.Types.{TypeTree, TInt, TStr, TBool, TClass, TSet}
use Rattle.kola_values.specs.Sets.{Each}
use Rattle.kola_values.specs.Databases.{Class, Classes, Objects, HasType, attribute_type, look_up}
use Rattle.kola_schema.specs.Schemas.{is_stored_type, is_key, is_class, is_schema, are_distinct, names_of, class_names}
use Rattle.kola_schema.proofs.Schemas.{parts_of_schema}
use Rattle.kola_canon.specs.Encoding.{enc, enc_members, enc_type}
use Rattle.kola_term.proofs.Inversions.{and_true, some_same}

-- ---- from the schema to the types of its attributes

module _ (cs : List (List ℕ)) where
  abbrev IsStored : Option TypeTree → Type 0
  IsStored o = (t : TypeTree) → o ≡ Some t → is_stored_type cs t ≡ true

  chosen : (b : Bool) (o p : Option TypeTree) → IsStored o → IsStored p → IsStored (cond b o p)
  chosen true o p h k = h
  chosen false o p h k = k

  entry : (u : TypeTree) → is_stored_type cs u ≡ true → IsStored (Some u)
  entry u h t e = subst (λ z. is_stored_type cs z ≡ true) (some_same u t e) h

  none_stored : (t : TypeTree) → None ≡ Some t → ⊥
  none_stored t e = cc

  entries : (a : List ℕ) (es : List (List ℕ × TypeTree)) → list_all (λ (e : List ℕ × TypeTree). is_stored_type cs e.1) es ≡ true → IsStored (look_up a es)
  entries a [] h = λ t e. absurd (none_stored t e)
  entries a (e ∷ es) h =
      let p = and_true (is_stored_type cs e.1) (list_all (λ (f : List ℕ × TypeTree). is_stored_type cs f.1) es) h in
      chosen (bytes_eq a e.0) (Some e.1) (look_up a es) (entry e.1 p.0) (entries a es p.1)

  attributes_stored : (k : Class) → is_class cs k ≡ true → list_all (λ (e : List ℕ × TypeTree). is_stored_type cs e.1) k.attributes ≡ true
  attributes_stored k h =
      let p = and_true (are_distinct (names_of k.attributes)) (list_all (λ (e : List ℕ × TypeTree). is_stored_type cs e.1) k.attributes && list_all (is_key (names_of k.attributes)) k.keys) h in
      (and_true (list_all (λ (e : List ℕ × TypeTree). is_stored_type cs e.1) k.attributes) (list_all (is_key (names_of k.attributes)) k.keys) p.1).0

  classes : (c a : List ℕ) (ks : Classes) → list_all (is_class cs) ks ≡ true → IsStored (attribute_type ks c a)
  classes c a [] h = λ t e. absurd (none_stored t e)
  classes c a (k ∷ ks) h =
      let p = and_true (is_class cs k) (list_all (is_class cs) ks) h in
      chosen (bytes_eq c k.name) (look_up a k.attributes) (attribute_type ks c a) (entries a k.attributes (attributes_stored k p.0)) (classes c a ks p.1)

pub attribute_stored : (S : Classes) → is_schema S ≡ true → (c a : List ℕ) (t : TypeTree) → attribute_type S c a ≡ Some t → is_stored_type (class_names S) t ≡ true
attribute_stored S h c a = classes (class_names S) c a S (parts_of_schema S h).2

-- ---- stored types and their values

module _ (cs : List (List ℕ)) where
  pub stored_type : (t : TypeTree) → is_stored_type cs t ≡ true → enc_type t ≡ t
  stored_type TInt h = refl
  stored_type TStr h = refl
  stored_type TBool h = refl
  stored_type (TClass c) h = refl
  stored_type (TSet t) h = ap TSet (stored_type t h)
  stored_type _ h = absurd (cc)

  all_stored : (P : ValueTree → Type 0) (vs : MemberValues) → Each P (items vs) → ((v : ValueTree) → P v → enc v ≡ v) → enc_members vs ≡ vs
  all_stored P VNone h f = refl
  all_stored P (VMore v vs) h f = ap₂ VMore (f v h.0) (all_stored P vs h.1 f)

  pub stored_value : (d : Objects) (t : TypeTree) (v : ValueTree) → is_stored_type cs t ≡ true → HasType d v t → enc v ≡ v
  stored_value d TInt (VInt z) p h = refl
  stored_value d TStr (VStr s) p h = refl
  stored_value d TBool (VBool b) p h = refl
  stored_value d (TClass c) (VObj e i) p h = refl
  stored_value d (TSet t) (VSet vs) p h = ap VSet (all_stored (λ v. HasType d v t) vs h.1 (λ v k. stored_value d t v p k))
  stored_value d TInt _ p h = absurd h
  stored_value d TStr _ p h = absurd h
  stored_value d TBool _ p h = absurd h
  stored_value d (TClass c) _ p h = absurd h
  stored_value d (TSet t) _ p h = absurd h
  stored_value d _ _ p h = absurd (cc)

pub object_value : (d : Objects) (c : List ℕ) (v : ValueTree) → HasType d v (TClass c) → enc v ≡ v
object_value d c (VObj e i) h = refl
object_value d c _ h = absurd h
