-- Functions that are keys.
use Rattle.std.proofs.Common.{◌≡◌, ℕ, zero, suc, Bool, true, false, ◌&&◌, ◌||◌, ◌==◌, List, [], ◌∷◌, Option, Some, None, length, slice_get, refl, sym, ap, ap₂, ◌∙◌, option_and_then, arith}
use Rattle.std.proofs.lemmas.Bool.Decides.{nat_tests}
use Rattle.std.specs.List.{list_any}
use Rattle.std.specs.Str.{bytes_eq}
use mathlib.Core.Bool.{or-true}
use Rattle.kola_values.specs.Types.{TypeTree, TClass}
use Rattle.kola_values.specs.Databases.{Class, Classes}
use Rattle.kola_schema.specs.Schemas.{class_named, key_at}
use Rattle.kola_term.specs.Terms.{FunTree, FAttr, FPair}
use Rattle.kola_term.specs.Typing.{Context}
use Rattle.kola_term.proofs.Inversions.{and_true, then_some, same_name-equal}
use Rattle.kola_term.proofs.Introductions.{same_name_itself}
use Rattle.kola_injective.specs.Derived.{paired, Derived, of_key}
use Rattle.kola_injective.specs.Inferring.{is_attribute, pairs_up, is_key_of, is_key}

-- ---- lists of keys

key_found : {A : Type 0} (q : A → Bool) (keys : List A) (n : ℕ) (key : A) → slice_get keys n ≡ Some key → q key ≡ true → list_any q keys ≡ true
key_found q [] n key h k = absurd (cc)
key_found q (x ∷ keys) zero key h k = let e : x ≡ key = cc in ap (λ b. b || list_any q keys) (ap q e ∙ k)
key_found q (x ∷ keys) (suc n) key h k = ap (λ b. q x || b) (key_found q keys n key h k) ∙ or-true (q x)

key_place : {A : Type 0} (q : A → Bool) (keys : List A) → list_any q keys ≡ true → (n : ℕ) × (key : A) × (slice_get keys n ≡ Some key) × (q key ≡ true)
key_place q [] h = absurd (cc)
key_place {A} q (x ∷ keys) h = at (q x) refl h (λ k. key_place q keys k)
  where
    at : (b : Bool) → q x ≡ b → (b || list_any q keys) ≡ true → (list_any q keys ≡ true → (n : ℕ) × (key : A) × (slice_get keys n ≡ Some key) × (q key ≡ true)) → (n : ℕ) × (key : A) × (slice_get (x ∷ keys) n ≡ Some key) × (q key ≡ true)
    at true e h r = (0, x, refl, e)
    at false e h r = let s = r h in (suc s.0, s.1, s.2, s.3)

-- ---- attributes paired to the right

attribute_is : (f : FunTree) (n : List ℕ) → is_attribute f n ≡ true → FAttr n ≡ f
attribute_is (FAttr a) n e = ap FAttr (sym (same_name-equal a n e))
attribute_is _ n e = absurd (cc)

pairs_are : (f : FunTree) (key : List (List ℕ)) → pairs_up f key ≡ true → (a : List ℕ) × (bs : List (List ℕ)) × (key ≡ a ∷ bs) × (paired a bs ≡ f)
pairs_are f [] e = absurd (cc)
pairs_are (FPair f g) (n ∷ ns) e =
    let q = and_true (is_attribute f n) (pairs_up g ns) e in
    let r = pairs_are g ns q.1 in
    (n, ns, refl, ap (paired n) r.2 ∙ ap₂ FPair (attribute_is f n q.0) r.3)
pairs_are (FAttr a) (n ∷ []) e = let q = and_true (bytes_eq a n) true e in (n, [], refl, attribute_is (FAttr a) n q.0)
pairs_are (FAttr a) (n ∷ m ∷ ns) e =
    let q = and_true (bytes_eq a n) (length (m ∷ ns) == 0) e in
    let h : (length (m ∷ ns) == 0) ≡ true = q.1 in
    absurd (grind (arith, nat_tests))
pairs_are _ (n ∷ ns) e = absurd (cc)

paired_up : (a : List ℕ) (bs : List (List ℕ)) → pairs_up (paired a bs) (a ∷ bs) ≡ true
paired_up a [] = ap (λ b. b && true) (same_name_itself a)
paired_up a (b ∷ bs) = ap₂ (λ x y. x && y) (same_name_itself a) (paired_up b bs)

-- ---- keys of a class

module _ (S : Classes) (x : Context) (hyps : List (List ℕ)) where
  class_key : (f : FunTree) (c : List ℕ) (o : Option Class) → class_named S c ≡ o → is_key_of f o ≡ true → Derived S x hyps f (TClass c)
  class_key f c (Some k) e h =
      let p = key_place (λ key. pairs_up f key) k.keys h in
      let r = pairs_are f p.1 p.3 in
      of_key p.0 r.0 r.1 (ap (option_and_then (λ (j : Class). slice_get j.keys p.0)) e ∙ (p.2 ∙ ap Some r.2)) r.3
  class_key f c None e h = absurd (cc)

  pub key_derived : (f : FunTree) (t : TypeTree) → is_key S f t ≡ true → Derived S x hyps f t
  key_derived f (TClass c) e = class_key f c (class_named S c) refl e
  key_derived f _ e = absurd (cc)

pub key_is : (S : Classes) (c : List ℕ) (n : ℕ) (a : List ℕ) (bs : List (List ℕ)) → key_at S c n ≡ Some (a ∷ bs) → is_key S (paired a bs) (TClass c) ≡ true
key_is S c n a bs e =
    let k = then_some (λ (j : Class). slice_get j.keys n) (class_named S c) (a ∷ bs) e in
    ap (is_key_of (paired a bs)) k.1 ∙ key_found (λ key. pairs_up (paired a bs) key) k.0.keys n (a ∷ bs) k.2 (paired_up a bs)
