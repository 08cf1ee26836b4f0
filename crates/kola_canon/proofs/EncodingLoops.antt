-- Loops from the last field of a struct to the first, and over the members of a set.
use Rattle.std.proofs.Common.{◌≡◌, ℕ, zero, suc, ◌+◌, ◌<◌, List, [], ◌∷◌, ◌++◌, length, get_or, map, take, drop, refl, sym, ap, ◌∙◌, subst, arith}
use Rattle.std.proofs.lemmas.List.{drop_all, length-drop, map-append}
use Rattle.kola_core.specs.declared.name.Name.{Name}
use Rattle.kola_core.proofs.Lists.{seen, longer, length_seen, left_less, taken_more}
use Rattle.kola_values.specs.Types.{TypeTree, TPair, of_type_fields}
use Rattle.kola_values.specs.Values.{ValueTree, VPair, VSet, of_items, of_fields}
use Rattle.kola_values.specs.Sets.{Rising, Each}
use Rattle.kola_values.specs.WellFormed.{WellFormed, WellFormedMembers}
use Rattle.kola_canon.specs.Encoding.{enc, enc_fields, enc_members, enc_type, enc_field_types}
use Rattle.kola_values.specs.Views.{type_tree, type_entry, value_tree, value_entry}
use Rattle.kola_values.proofs.Anys.{items-of_items}
use Rattle.kola_canon.proofs.EncodingOrder.{items-enc}
use Rattle.kola_values.specs.declared.ty.Ty.{Ty}
use Rattle.kola_values.specs.declared.value.Value.{Value}

-- ---- the fields of a type

types_joined : (f : List ℕ × TypeTree) (fs : List (List ℕ × TypeTree)) → 0 < length fs → enc_field_types (of_type_fields (f ∷ fs)) ≡ TPair (enc_type f.1) (enc_field_types (of_type_fields fs))
types_joined f [] p = absurd (omega arith)
types_joined f (g ∷ fs) p = refl

module _ (xs : List (Name × Ty)) (us : List (List ℕ × TypeTree)) (i : ℕ) (x : Name × Ty) (e : map type_entry xs ≡ us) where
  pub last_type : i + 1 ≡ length xs → x ≡ get_or xs i x → enc_field_types (of_type_fields (drop i us)) ≡ enc_type (type_tree x.1)
  last_type p h =
      let n = length_seen type_entry xs us e in
      ap (λ l. enc_field_types (of_type_fields l)) (left_less type_entry xs us i x e (omega arith) h)
      ∙ ap (λ l. enc_field_types (of_type_fields (type_entry x ∷ l))) (drop_all (i + 1) us (omega arith))

  pub one_more_type : i + 1 < length xs → x ≡ get_or xs i x → enc_field_types (of_type_fields (drop i us)) ≡ TPair (enc_type (type_tree x.1)) (enc_field_types (of_type_fields (drop (i + 1) us)))
  one_more_type p h =
      let n = length_seen type_entry xs us e in
      let m = length-drop (i + 1) us in
      ap (λ l. enc_field_types (of_type_fields l)) (left_less type_entry xs us i x e (omega arith) h)
      ∙ types_joined (type_entry x) (drop (i + 1) us) (omega arith)

-- ---- the fields of a value

values_joined : (f : List ℕ × ValueTree) (fs : List (List ℕ × ValueTree)) → 0 < length fs → enc_fields (of_fields (f ∷ fs)) ≡ VPair (enc f.1) (enc_fields (of_fields fs))
values_joined f [] p = absurd (omega arith)
values_joined f (g ∷ fs) p = refl

entry_well_formed : (us : List (List ℕ × ValueTree)) (i : ℕ) (u : List ℕ × ValueTree) → i < length us → WellFormed (enc_fields (of_fields us)) → WellFormed (enc (get_or us i u).1)
entry_well_formed [] i u p w = absurd (omega arith)
entry_well_formed (f ∷ []) zero u p w = w
entry_well_formed (f ∷ []) (suc i) u p w = absurd (omega arith)
entry_well_formed (f ∷ g ∷ us) zero u p w = w.0
entry_well_formed (f ∷ g ∷ us) (suc i) u p w = entry_well_formed (g ∷ us) i u (omega arith) w.1

module _ (xs : List (Name × Value)) (us : List (List ℕ × ValueTree)) (i : ℕ) (x : Name × Value) (e : map value_entry xs ≡ us) where
  pub last_value : i + 1 ≡ length xs → x ≡ get_or xs i x → enc_fields (of_fields (drop i us)) ≡ enc (value_tree x.1)
  last_value p h =
      let n = length_seen value_entry xs us e in
      ap (λ l. enc_fields (of_fields l)) (left_less value_entry xs us i x e (omega arith) h)
      ∙ ap (λ l. enc_fields (of_fields (value_entry x ∷ l))) (drop_all (i + 1) us (omega arith))

  pub one_more_value : i + 1 < length xs → x ≡ get_or xs i x → enc_fields (of_fields (drop i us)) ≡ VPair (enc (value_tree x.1)) (enc_fields (of_fields (drop (i + 1) us)))
  one_more_value p h =
      let n = length_seen value_entry xs us e in
      let m = length-drop (i + 1) us in
      ap (λ l. enc_fields (of_fields l)) (left_less value_entry xs us i x e (omega arith) h)
      ∙ values_joined (value_entry x) (drop (i + 1) us) (omega arith)

  pub value_well_formed : i < length xs → x ≡ get_or xs i x → WellFormed (enc_fields (of_fields us)) → WellFormed (enc (value_tree x.1))
  value_well_formed p h w = subst (λ f. WellFormed (enc f.1)) (seen value_entry xs us i x e p h) (entry_well_formed us i (value_entry x) (longer value_entry xs us i e p) w)

-- ---- the members of a set

-- one more member that a function makes
pub made_more : (f : ValueTree → ValueTree) (done xs : List Value) (i : ℕ) (x y : Value) → map value_tree done ≡ take i (map f (map value_tree xs)) → i < length xs → x ≡ get_or xs i x → value_tree y ≡ f (value_tree x) → map value_tree (done ++ y ∷ []) ≡ take (i + 1) (map f (map value_tree xs))
made_more f done xs i x y h p q k =
    map-append value_tree done (y ∷ [])
    ∙ (λ j. h j ++ k j ∷ [])
    ∙ sym (taken_more (λ v. f (value_tree v)) xs (map f (map value_tree xs)) i x (twice xs) p q)
  where
    twice : (ys : List Value) → map (λ v. f (value_tree v)) ys ≡ map f (map value_tree ys)
    twice [] = refl
    twice (y ∷ ys) = ap (λ l. f (value_tree y) ∷ l) (twice ys)

pub made_well_formed : (f : ValueTree → ValueTree) (xs : List Value) (i : ℕ) (x : Value) → i < length xs → x ≡ get_or xs i x → Each WellFormed (map f (map value_tree xs)) → WellFormed (f (value_tree x))
made_well_formed f (y ∷ xs) zero x p h w = subst (λ z. WellFormed (f (value_tree z))) (sym h) w.0
made_well_formed f (y ∷ xs) (suc i) x p h w = made_well_formed f xs i x (omega arith) h w.1
made_well_formed f [] i x p h w = absurd (omega arith)

-- what is asked of the members of a set, from what is asked of the set
pub set_parts : (vs : List ValueTree) → WellFormed (VSet (enc_members (of_items vs))) → Rising (map enc vs) × Each WellFormed (map enc vs)
set_parts vs w = (subst Rising (items-enc (of_items vs) ∙ ap (map enc) (items-of_items vs)) w.0, members_parts vs w.1)
  where
    members_parts : (ws : List ValueTree) → WellFormedMembers (enc_members (of_items ws)) → Each WellFormed (map enc ws)
    members_parts [] w = tt
    members_parts (v ∷ ws) w = (w.0, members_parts ws w.1)
