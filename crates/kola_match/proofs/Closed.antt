-- The attributes' types of a well-formed schema have no type variable.
use Rattle.std.proofs.Common.{◌≡◌, ℕ, Bool, true, false, cond, ◌&&◌, Option, Some, refl, ap, subst, List, [], ◌∷◌}
use Rattle.std.specs.List.{list_all}
use Rattle.std.specs.Str.{bytes_eq}
use Rattle.kola_values.specs.Types.{TypeTree, TInt, TStr, TBool, TClass, TSet}
use Rattle.kola_values.specs.Databases.{Classes, attribute_type, look_up}
use Rattle.kola_schema.specs.Schemas.{is_stored_type, is_class, is_key, is_schema, are_distinct, names_of, class_names, extent_names}
use Rattle.kola_term.proofs.Inversions.{and_true, some_same}
use Rattle.kola_match.specs.Substitutions.{sub_type}

-- no substitution changes the type of an attribute
abbrev pub AttributesClosed : Classes → Type 0
AttributesClosed S = (s : List ℕ → TypeTree) (c a : List ℕ) (t : TypeTree) → attribute_type S c a ≡ Some t → sub_type s t ≡ t

stored_closed : (s : List ℕ → TypeTree) (cs : List (List ℕ)) (t : TypeTree) → is_stored_type cs t ≡ true → sub_type s t ≡ t
stored_closed s cs TInt h = refl
stored_closed s cs TStr h = refl
stored_closed s cs TBool h = refl
stored_closed s cs (TClass c) h = refl
stored_closed s cs (TSet t) h = ap TSet (stored_closed s cs t h)
stored_closed s cs _ h = absurd (cc)

entry_at : (s : List ℕ → TypeTree) (u t : TypeTree) (o : Option TypeTree) (b : Bool) → sub_type s u ≡ u → (o ≡ Some t → sub_type s t ≡ t) → cond b (Some u) o ≡ Some t → sub_type s t ≡ t
entry_at s u t o true h k e = subst (λ z. sub_type s z ≡ z) (some_same u t e) h
entry_at s u t o false h k e = k e

entries_closed : (s : List ℕ → TypeTree) (cs : List (List ℕ)) (a : List ℕ) (t : TypeTree) (es : List (List ℕ × TypeTree)) → list_all (λ (e : List ℕ × TypeTree). is_stored_type cs e.1) es ≡ true → look_up a es ≡ Some t → sub_type s t ≡ t
entries_closed s cs a t [] h e = absurd (cc)
entries_closed s cs a t (e0 ∷ es) h e =
    let p = and_true (is_stored_type cs e0.1) (list_all (λ (e : List ℕ × TypeTree). is_stored_type cs e.1) es) h in
    entry_at s e0.1 t (look_up a es) (bytes_eq a e0.0) (stored_closed s cs e0.1 p.0) (entries_closed s cs a t es p.1) e

class_at : (s : List ℕ → TypeTree) (t : TypeTree) (o r : Option TypeTree) (b : Bool) → (o ≡ Some t → sub_type s t ≡ t) → (r ≡ Some t → sub_type s t ≡ t) → cond b o r ≡ Some t → sub_type s t ≡ t
class_at s t o r true h k e = h e
class_at s t o r false h k e = k e

classes_closed : (s : List ℕ → TypeTree) (cs : List (List ℕ)) (c a : List ℕ) (t : TypeTree) (S : Classes) → list_all (is_class cs) S ≡ true → attribute_type S c a ≡ Some t → sub_type s t ≡ t
classes_closed s cs c a t [] h e = absurd (cc)
classes_closed s cs c a t (k ∷ ks) h e =
    let p = and_true (is_class cs k) (list_all (is_class cs) ks) h in
    let q = and_true (are_distinct (names_of k.attributes)) (list_all (λ (e : List ℕ × TypeTree). is_stored_type cs e.1) k.attributes && list_all (is_key (names_of k.attributes)) k.keys) p.0 in
    let r = and_true (list_all (λ (e : List ℕ × TypeTree). is_stored_type cs e.1) k.attributes) (list_all (is_key (names_of k.attributes)) k.keys) q.1 in
    class_at s t (look_up a k.attributes) (attribute_type ks c a) (bytes_eq c k.name) (entries_closed s cs a t k.attributes r.0) (classes_closed s cs c a t ks p.1) e

pub schema_closed : (S : Classes) → is_schema S ≡ true → AttributesClosed S
schema_closed S h = λ s c a t e.
    let p = and_true (are_distinct (class_names S)) (are_distinct (extent_names S) && list_all (is_class (class_names S)) S) h in
    let q = and_true (are_distinct (extent_names S)) (list_all (is_class (class_names S)) S) p.1 in
    classes_closed s (class_names S) c a t S q.1 e
