-- A loop that decodes the fields of a struct from the first to the last, and the members of a set.
use Rattle.std.proofs.Common.{◌≡◌, ℕ, ◌+◌, ◌<◌, List, [], ◌∷◌, ◌++◌, length, get_or, map, drop, refl, sym, ap, ◌∙◌, subst, arith}
use Rattle.std.proofs.lemmas.List.{drop_all, length-drop, append_assoc}
use Rattle.kola_core.specs.declared.name.Name.{Name}
use Rattle.kola_core.proofs.Lists.{length_seen, left_less}
use Rattle.kola_values.specs.Types.{TypeTree, TSet, of_type_fields}
use Rattle.kola_values.specs.Values.{ValueTree, VUnit, VInt, VBool, VStr, VObj, VPair, VStruct, VSet, FieldValues, VEnd, VField, of_items, fields, of_fields}
use Rattle.kola_values.specs.Sets.{Rising, Each}
use Rattle.kola_values.specs.WellFormed.{WellFormed, WellFormedMembers}
use Rattle.kola_canon.specs.Encoding.{dec, dec_fields}
use Rattle.kola_values.specs.Views.{type_tree, type_entry, value_tree}
use Rattle.kola_values.specs.declared.ty.Ty.{Ty}
use Rattle.kola_values.specs.declared.value.Value.{Value}
use Rattle.kola_values.specs.declared.value.Value.TheVariants as value
use Rattle.kola_values.specs.declared.value.BoxedValue.{BoxedValue}
use Rattle.kola_values.proofs.Anys.{items-of_items}

pub of_fields-fields : (fs : FieldValues) → of_fields (fields fs) ≡ fs
of_fields-fields VEnd = refl
of_fields-fields (VField l v fs) = ap (VField l v) (of_fields-fields fs)

append_none : {A : Type 0} (xs : List A) → xs ++ [] ≡ xs
append_none [] = refl
append_none (x ∷ xs) = ap (λ l. x ∷ l) (append_none xs)

-- nothing is left to decode
pub all_done : (done : List (List ℕ × ValueTree)) (rest all : FieldValues) → rest ≡ VEnd → done ++ fields rest ≡ fields all → of_fields done ≡ all
all_done done rest all n e = ap of_fields (sym (append_none done) ∙ (ap (λ r. done ++ fields r) (sym n) ∙ e)) ∙ of_fields-fields all

-- one more field is decoded
pub field_done : (done : List (List ℕ × ValueTree)) (l : List ℕ) (v : ValueTree) (rest others all : FieldValues) → rest ≡ VField l v others → done ++ fields rest ≡ fields all → (done ++ (l, v) ∷ []) ++ fields others ≡ fields all
field_done done l v rest others all n e = append_assoc done ((l, v) ∷ []) (fields others) ∙ (ap (λ r. done ++ fields r) (sym n) ∙ e)

pairs_apart : (f : List ℕ × TypeTree) (fs : List (List ℕ × TypeTree)) (a b : ValueTree) → 0 < length fs → dec_fields (of_type_fields (f ∷ fs)) (VPair a b) ≡ VField f.0 (dec f.1 a) (dec_fields (of_type_fields fs) b)
pairs_apart f [] a b p = absurd (omega arith)
pairs_apart f (g ∷ fs) a b p = refl

nothing_apart : (f : List ℕ × TypeTree) (fs : List (List ℕ × TypeTree)) (v : ValueTree) → 0 < length fs → ((a b : ValueTree) → v ≡ VPair a b → ⊥) → dec_fields (of_type_fields (f ∷ fs)) v ≡ VEnd
nothing_apart f [] v p n = absurd (omega arith)
nothing_apart f (g ∷ fs) (VPair a b) p n = absurd (n a b refl)
nothing_apart f (g ∷ fs) VUnit p n = refl
nothing_apart f (g ∷ fs) (VInt x) p n = refl
nothing_apart f (g ∷ fs) (VBool x) p n = refl
nothing_apart f (g ∷ fs) (VStr x) p n = refl
nothing_apart f (g ∷ fs) (VObj c x) p n = refl
nothing_apart f (g ∷ fs) (VStruct x) p n = refl
nothing_apart f (g ∷ fs) (VSet x) p n = refl

module _ (xs : List (Name × Ty)) (us : List (List ℕ × TypeTree)) (i : ℕ) (x : Name × Ty) (e : map type_entry xs ≡ us) where
  pub last_decoded : (v : ValueTree) → i + 1 ≡ length xs → x ≡ get_or xs i x → dec_fields (of_type_fields (drop i us)) v ≡ VField x.0 (dec (type_tree x.1) v) VEnd
  last_decoded v p h =
      let n = length_seen type_entry xs us e in
      ap (λ l. dec_fields (of_type_fields l) v) (left_less type_entry xs us i x e (omega arith) h)
      ∙ ap (λ l. dec_fields (of_type_fields (type_entry x ∷ l)) v) (drop_all (i + 1) us (omega arith))

  pub one_more_decoded : (a b : ValueTree) → i + 1 < length xs → x ≡ get_or xs i x → dec_fields (of_type_fields (drop i us)) (VPair a b) ≡ VField x.0 (dec (type_tree x.1) a) (dec_fields (of_type_fields (drop (i + 1) us)) b)
  one_more_decoded a b p h =
      let n = length_seen type_entry xs us e in
      let m = length-drop (i + 1) us in
      ap (λ l. dec_fields (of_type_fields l) (VPair a b)) (left_less type_entry xs us i x e (omega arith) h)
      ∙ pairs_apart (type_entry x) (drop (i + 1) us) a b (omega arith)

pub none_decoded : (us : List (List ℕ × TypeTree)) (i : ℕ) (v : ValueTree) → i + 1 < length us → ((a b : ValueTree) → v ≡ VPair a b → ⊥) → dec_fields (of_type_fields (drop i us)) v ≡ VEnd
none_decoded us i v p n =
    let m = length-drop i us in
    at (drop i us) (omega arith)
  where
    at : (fs : List (List ℕ × TypeTree)) → 1 < length fs → dec_fields (of_type_fields fs) v ≡ VEnd
    at [] p = absurd (omega arith)
    at (f ∷ fs) p = nothing_apart f fs v (omega arith) n

-- a value that the program finds to be no pair
pub no_pair : (r : Value) → ((x y : BoxedValue) → r ≡ value.Pair x y → ⊥) → (a b : ValueTree) → value_tree r ≡ VPair a b → ⊥
no_pair (value.Pair x y) n a b e = n x y refl
no_pair value.Unit n a b e = cc
no_pair (value.Int z) n a b e = cc
no_pair (value.Bool z) n a b e = cc
no_pair (value.Str z) n a b e = cc
no_pair (value.Obj k z) n a b e = cc
no_pair (value.Struct z) n a b e = cc
no_pair (value.Set z) n a b e = cc

-- ---- the members of a set

pub set_decoded : (t : TypeTree) (vs : List ValueTree) → dec (TSet t) (VSet (of_items vs)) ≡ VSet (of_items (map (dec t) vs))
set_decoded t vs = ap (λ l. VSet (of_items (map (λ v. dec t v) l))) (items-of_items vs)

pub parts_of_set : (vs : List ValueTree) → WellFormed (VSet (of_items vs)) → Rising vs × Each WellFormed vs
parts_of_set vs w = (subst Rising (items-of_items vs) w.0, members_parts vs w.1)
  where
    members_parts : (ws : List ValueTree) → WellFormedMembers (of_items ws) → Each WellFormed ws
    members_parts [] w = tt
    members_parts (v ∷ ws) w = (w.0, members_parts ws w.1)
