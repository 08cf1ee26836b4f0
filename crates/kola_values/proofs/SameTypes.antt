-- The test of two types decides whether they are the same, and a loop over their fields computes it.
use Rattle.std.proofs.Common.{◌≡◌, ℕ, ◌+◌, ◌<◌, ◌≤◌, Bool, true, false, ◌&&◌, List, [], ◌∷◌, ◌++◌, length, get_or, map, take, drop, refl, ap, ◌∙◌, arith}
use Rattle.std.specs.Str.{bytes_eq}
use Rattle.std.proofs.lemmas.Slice.Eq.{bytes_eq-Decides}
use Rattle.std.proofs.lemmas.List.{drop_all}
use Rattle.kola_core.specs.declared.name.Name.{Name}
use Rattle.kola_core.proofs.Lists.{left_less, taken_more, length_seen}
use Rattle.kola_values.specs.Types.{TypeTree, TInt, TStr, TBool, TUnit, TClass, TVar, TSet, TPair, TStruct, FieldTypes, TEnd, TField, of_type_fields, same_type, same_types, type_nodes, types_nodes}
use Rattle.kola_values.specs.Views.{type_tree, type_entry}
use Rattle.kola_values.specs.declared.ty.Ty.{Ty}

pub name_itself : (n : List ℕ) → bytes_eq n n ≡ true
name_itself n = (bytes_eq-Decides n n).1 refl

pub name_equal : (m n : List ℕ) → bytes_eq m n ≡ true → m ≡ n
name_equal m n h = (bytes_eq-Decides m n).0 h

pub both_true : (a b : Bool) → (a && b) ≡ true → (a ≡ true) × (b ≡ true)
both_true true b h = (refl, h)
both_true false b h = absurd (cc)

pub and_true : (a b : Bool) → a ≡ true → b ≡ true → (a && b) ≡ true
and_true a b h k = rw (h, k)

mutual
  pub same_type_itself : (t : TypeTree) → same_type t t ≡ true
  same_type_itself TInt = refl
  same_type_itself TStr = refl
  same_type_itself TBool = refl
  same_type_itself TUnit = refl
  same_type_itself (TClass a) = name_itself a
  same_type_itself (TVar a) = name_itself a
  same_type_itself (TSet t) = same_type_itself t
  same_type_itself (TPair t u) = and_true _ _ (same_type_itself t) (same_type_itself u)
  same_type_itself (TStruct fs) = same_types_itself fs

  same_types_itself : (fs : FieldTypes) → same_types fs fs ≡ true
  same_types_itself TEnd = refl
  same_types_itself (TField l t fs) = and_true _ _ (and_true _ _ (name_itself l) (same_type_itself t)) (same_types_itself fs)

mutual
  -- the test answers true exactly at equal types
  pub same_type_equal : (t u : TypeTree) → same_type t u ≡ true → t ≡ u
  same_type_equal TInt TInt h = refl
  same_type_equal TStr TStr h = refl
  same_type_equal TBool TBool h = refl
  same_type_equal TUnit TUnit h = refl
  same_type_equal (TClass a) (TClass b) h = ap TClass (name_equal a b h)
  same_type_equal (TVar a) (TVar b) h = ap TVar (name_equal a b h)
  same_type_equal (TSet t) (TSet u) h = ap TSet (same_type_equal t u h)
  same_type_equal (TPair t u) (TPair x y) h =
      let p = both_true (same_type t x) (same_type u y) h in
      λ i. TPair (same_type_equal t x p.0 i) (same_type_equal u y p.1 i)
  same_type_equal (TStruct fs) (TStruct gs) h = ap TStruct (same_types_equal fs gs h)
  same_type_equal _ _ h = absurd (cc)

  pub same_types_equal : (fs gs : FieldTypes) → same_types fs gs ≡ true → fs ≡ gs
  same_types_equal TEnd TEnd h = refl
  same_types_equal (TField l t fs) (TField m u gs) h =
      let p = both_true (bytes_eq l m && same_type t u) (same_types fs gs) h in
      let q = both_true (bytes_eq l m) (same_type t u) p.0 in
      λ i. TField (name_equal l m q.0 i) (same_type_equal t u q.1 i) (same_types_equal fs gs p.1 i)
  same_types_equal _ _ h = absurd (cc)

-- ---- a loop over two lists of fields

and_false : (a : Bool) → (a && false) ≡ false
and_false true = refl
and_false false = refl

pub unequal_lengths : (us vs : List (List ℕ × TypeTree)) → (length us ≡ length vs → ⊥) → same_types (of_type_fields us) (of_type_fields vs) ≡ false
unequal_lengths [] [] n = absurd (n refl)
unequal_lengths [] (v ∷ vs) n = refl
unequal_lengths (u ∷ us) [] n = refl
unequal_lengths (u ∷ us) (v ∷ vs) n =
    ap (λ b. (bytes_eq u.0 v.0 && same_type u.1 v.1) && b) (unequal_lengths us vs (λ e. n (omega arith)))
    ∙ and_false (bytes_eq u.0 v.0 && same_type u.1 v.1)

-- the first i fields of both are the same
pub record IsSameBelow (us vs : List (List ℕ × TypeTree)) (i : ℕ) : Type 0 where
  pub lengths : length us ≡ length vs
  pub rest : same_types (of_type_fields us) (of_type_fields vs) ≡ same_types (of_type_fields (drop i us)) (of_type_fields (drop i vs))

module _ (xs ys : List (Name × Ty)) (us vs : List (List ℕ × TypeTree)) (i : ℕ) (e : map type_entry xs ≡ us) (f : map type_entry ys ≡ vs) (b : IsSameBelow us vs i) where
  at_step : (x y : Name × Ty) → i < length xs → i < length ys → x ≡ get_or xs i x → y ≡ get_or ys i y
      → same_types (of_type_fields us) (of_type_fields vs) ≡ ((bytes_eq x.0 y.0 && same_type (type_tree x.1) (type_tree y.1)) && same_types (of_type_fields (drop (i + 1) us)) (of_type_fields (drop (i + 1) vs)))
  at_step x y p q g h =
      b.rest
      ∙ (λ j. same_types (of_type_fields (left_less type_entry xs us i x e p g j)) (of_type_fields (left_less type_entry ys vs i y f q h j)))

  pub same_more : (x y : Name × Ty) → i < length xs → i < length ys → x ≡ get_or xs i x → y ≡ get_or ys i y → bytes_eq x.0 y.0 ≡ true → same_type (type_tree x.1) (type_tree y.1) ≡ true → IsSameBelow us vs (i + 1)
  same_more x y p q g h l t = record {
    lengths = b.lengths;
    rest = at_step x y p q g h ∙ (λ j. (l j && t j) && same_types (of_type_fields (drop (i + 1) us)) (of_type_fields (drop (i + 1) vs)));
  }

  pub other_label : (x y : Name × Ty) → i < length xs → i < length ys → x ≡ get_or xs i x → y ≡ get_or ys i y → bytes_eq x.0 y.0 ≡ false → same_types (of_type_fields us) (of_type_fields vs) ≡ false
  other_label x y p q g h l = at_step x y p q g h ∙ (λ j. (l j && same_type (type_tree x.1) (type_tree y.1)) && same_types (of_type_fields (drop (i + 1) us)) (of_type_fields (drop (i + 1) vs)))

  pub other_type : (x y : Name × Ty) → i < length xs → i < length ys → x ≡ get_or xs i x → y ≡ get_or ys i y → same_type (type_tree x.1) (type_tree y.1) ≡ false → same_types (of_type_fields us) (of_type_fields vs) ≡ false
  other_type x y p q g h t =
      at_step x y p q g h
      ∙ (λ j. (bytes_eq x.0 y.0 && t j) && same_types (of_type_fields (drop (i + 1) us)) (of_type_fields (drop (i + 1) vs)))
      ∙ ap (λ c. c && same_types (of_type_fields (drop (i + 1) us)) (of_type_fields (drop (i + 1) vs))) (and_false (bytes_eq x.0 y.0))

  pub same_end : length xs ≤ i → same_types (of_type_fields us) (of_type_fields vs) ≡ true
  same_end p =
      let m = length_seen type_entry xs us e in
      let k = b.lengths in
      b.rest ∙ (λ j. same_types (of_type_fields (drop_all i us (omega arith) j)) (of_type_fields (drop_all i vs (omega arith) j)))

-- ---- a loop that counts the nodes

types_nodes-append : (us : List (List ℕ × TypeTree)) (u : List ℕ × TypeTree) → types_nodes (of_type_fields (us ++ u ∷ [])) ≡ types_nodes (of_type_fields us) + type_nodes u.1
types_nodes-append [] u = omega arith
types_nodes-append (v ∷ us) u = omega (arith, types_nodes-append us u)

pub types_nodes_more : (xs : List (Name × Ty)) (us : List (List ℕ × TypeTree)) (i : ℕ) (x : Name × Ty) → map type_entry xs ≡ us → i < length xs → x ≡ get_or xs i x → types_nodes (of_type_fields (take (i + 1) us)) ≡ types_nodes (of_type_fields (take i us)) + type_nodes (type_tree x.1)
types_nodes_more xs us i x e p h = ap (λ l. types_nodes (of_type_fields l)) (taken_more type_entry xs us i x e p h) ∙ types_nodes-append (take i us) (type_entry x)
