-- That what is made of well-formed values is well formed.
use Rattle.std.proofs.Common.{◌≡◌, ℕ, ◌+◌, ◌<◌, List, [], ◌∷◌, ◌++◌, length, get_or, map, take, sym, subst}
use Rattle.kola_core.proofs.Lists.{taken_more}
use Rattle.kola_values.specs.Values.{ValueTree, VSet, of_items, of_fields}
use Rattle.kola_values.specs.Sets.{Rising, Each}
use Rattle.kola_values.specs.WellFormed.{WellFormed, WellFormedMembers, WellFormedFields}
use Rattle.kola_values.specs.Views.{value_tree}
use Rattle.kola_values.proofs.Anys.{items-of_items}
use Rattle.kola_values.specs.declared.value.Value.{Value}

pub members_well_formed : (vs : List ValueTree) → Each WellFormed vs → WellFormedMembers (of_items vs)
members_well_formed [] h = tt
members_well_formed (v ∷ vs) h = (h.0, members_well_formed vs h.1)

pub set_well_formed : (vs : List ValueTree) → Rising vs → Each WellFormed vs → WellFormed (VSet (of_items vs))
set_well_formed vs r h = (subst Rising (sym (items-of_items vs)) r, members_well_formed vs h)

pub fields_well_formed : (fs : List (List ℕ × ValueTree)) → Each (λ f. WellFormed f.1) fs → WellFormedFields (of_fields fs)
fields_well_formed [] h = tt
fields_well_formed (f ∷ fs) h = (h.0, fields_well_formed fs h.1)

pub each_push : {A : Type 0} (P : A → Type 0) (xs : List A) (x : A) → Each P xs → P x → Each P (xs ++ x ∷ [])
each_push P [] x h k = (k, tt)
each_push P (y ∷ xs) x h k = (h.0, each_push P xs x h.1 k)

-- one more member of a list is well formed
pub well_formed_more : (xs : List Value) (us : List ValueTree) (i : ℕ) (x : Value) → map value_tree xs ≡ us → i < length xs → x ≡ get_or xs i x → Each WellFormed (take i us) → WellFormed (value_tree x) → Each WellFormed (take (i + 1) us)
well_formed_more xs us i x e p h w k = subst (Each WellFormed) (sym (taken_more value_tree xs us i x e p h)) (each_push WellFormed (take i us) (value_tree x) w k)
