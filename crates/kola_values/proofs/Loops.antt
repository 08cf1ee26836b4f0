-- Loops over the fields of a type, and over the fields and members of a value: an entry weighs less than its list, and lists compare entry by entry.
use Rattle.std.proofs.Common.{◌≡◌, ℕ, zero, suc, ◌<◌, List, [], ◌∷◌, length, get_or, map, refl, sym, ap, ◌∙◌, arith}
use Rattle.std.specs.declared.cmp.Ordering.{Ordering}
use Rattle.std.specs.Ordering.{ordering_then}
use Rattle.std.specs.Cmp.Lexicographic.{slice_cmp}
use Rattle.kola_core.specs.declared.name.Name.{Name}
use Rattle.kola_core.proofs.Lists.{seen, longer}
use Rattle.kola_core.proofs.Compare.{then_assoc}
use Rattle.kola_values.specs.Types.{TypeTree, of_type_fields}
use Rattle.kola_values.specs.Values.{ValueTree, of_items, of_fields}
use Rattle.kola_values.specs.Order.{cmp, cmp_members, cmp_fields, name_cmp}
use Rattle.kola_values.specs.Views.{type_tree, type_entry, value_tree, value_entry}
use Rattle.kola_values.specs.Models.Weights.{type_weight, types_weight, weight, members_weight, fields_weight}
use Rattle.kola_values.specs.declared.ty.Ty.{Ty}
use Rattle.kola_values.specs.declared.value.Value.{Value}

-- the order of fields
abbrev pub cmp_entry : List ℕ × ValueTree → List ℕ × ValueTree → Ordering
cmp_entry f g = ordering_then (name_cmp f.0 g.0) (cmp f.1 g.1)

pub cmp_members-slices : (vs ws : List ValueTree) → cmp_members (of_items vs) (of_items ws) ≡ slice_cmp cmp vs ws
cmp_members-slices [] [] = refl
cmp_members-slices [] (w ∷ ws) = refl
cmp_members-slices (v ∷ vs) [] = refl
cmp_members-slices (v ∷ vs) (w ∷ ws) = ap (ordering_then (cmp v w)) (cmp_members-slices vs ws)

pub cmp_fields-slices : (fs gs : List (List ℕ × ValueTree)) → cmp_fields (of_fields fs) (of_fields gs) ≡ slice_cmp cmp_entry fs gs
cmp_fields-slices [] [] = refl
cmp_fields-slices [] (g ∷ gs) = refl
cmp_fields-slices (f ∷ fs) [] = refl
cmp_fields-slices (f ∷ fs) (g ∷ gs) =
    ap (λ o. ordering_then (name_cmp f.0 g.0) (ordering_then (cmp f.1 g.1) o)) (cmp_fields-slices fs gs)
    ∙ sym (then_assoc (name_cmp f.0 g.0) (cmp f.1 g.1) (slice_cmp cmp_entry fs gs))

type_entry_below : (fs : List (List ℕ × TypeTree)) (i : ℕ) (d : List ℕ × TypeTree) → i < length fs → type_weight (get_or fs i d).1 < types_weight (of_type_fields fs)
type_entry_below [] i d p = absurd (omega arith)
type_entry_below (f ∷ fs) zero d p = omega arith
type_entry_below (f ∷ fs) (suc i) d p = omega (arith, type_entry_below fs i d (omega arith))

member_below : (vs : List ValueTree) (i : ℕ) (d : ValueTree) → i < length vs → weight (get_or vs i d) < members_weight (of_items vs)
member_below [] i d p = absurd (omega arith)
member_below (v ∷ vs) zero d p = omega arith
member_below (v ∷ vs) (suc i) d p = omega (arith, member_below vs i d (omega arith))

value_entry_below : (fs : List (List ℕ × ValueTree)) (i : ℕ) (d : List ℕ × ValueTree) → i < length fs → weight (get_or fs i d).1 < fields_weight (of_fields fs)
value_entry_below [] i d p = absurd (omega arith)
value_entry_below (f ∷ fs) zero d p = omega arith
value_entry_below (f ∷ fs) (suc i) d p = omega (arith, value_entry_below fs i d (omega arith))

pub type_entry_falls : (xs : List (Name × Ty)) (us : List (List ℕ × TypeTree)) (i : ℕ) (x : Name × Ty) → map type_entry xs ≡ us → i < length xs → x ≡ get_or xs i x → type_weight (type_tree x.1) < types_weight (of_type_fields us)
type_entry_falls xs us i x e p h = omega (arith, ap (λ f. type_weight f.1) (seen type_entry xs us i x e p h), type_entry_below us i (type_entry x) (longer type_entry xs us i e p))

pub member_falls : (xs : List Value) (us : List ValueTree) (i : ℕ) (x : Value) → map value_tree xs ≡ us → i < length xs → x ≡ get_or xs i x → weight (value_tree x) < members_weight (of_items us)
member_falls xs us i x e p h = omega (arith, ap weight (seen value_tree xs us i x e p h), member_below us i (value_tree x) (longer value_tree xs us i e p))

pub value_entry_falls : (xs : List (Name × Value)) (us : List (List ℕ × ValueTree)) (i : ℕ) (x : Name × Value) → map value_entry xs ≡ us → i < length xs → x ≡ get_or xs i x → weight (value_tree x.1) < fields_weight (of_fields us)
value_entry_falls xs us i x e p h = omega (arith, ap (λ f. weight f.1) (seen value_entry xs us i x e p h), value_entry_below us i (value_entry x) (longer value_entry xs us i e p))
