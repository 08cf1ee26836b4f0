-- The fields of two struct types, taken one by one.
use Rattle.std.proofs.Common.{◌≡◌, ◌↔◌, ℕ, ◌+◌, ◌<◌, ◌≤◌, Bool, true, false, refl, sym, ap, ◌∙◌, subst, List, [], ◌∷◌, length, drop, map, get_or, Option, Some, arith}
use Rattle.std.specs.Str.{bytes_eq}
use Rattle.std.proofs.lemmas.List.{drop_all}
use Rattle.kola_core.specs.declared.name.Name.{Name}
use Rattle.kola_core.proofs.Lists.{left_less}
use Rattle.kola_values.specs.Types.{TypeTree, TSet, TPair, TStruct, TField, of_type_fields}
use Rattle.kola_values.specs.Views.{type_tree, type_entry}
use Rattle.kola_values.specs.declared.ty.Ty.{Ty}
use Rattle.kola_term.proofs.Inversions.{some_same, same_name-equal}
use Rattle.kola_term.proofs.Introductions.{same_name_itself}
use Rattle.kola_match.specs.Substitutions.{Substitution, sub_type, sub_types}
use Rattle.kola_match.specs.Binds.{Binds}
use Rattle.kola_match.specs.Finding.{Finds, FieldsGive}
use Rattle.kola_match.proofs.BindLaws.{finds_same, finds_then, finds_nothing_more}

abbrev Entries : Type 0
Entries = List (List ℕ × TypeTree)

pub other_lengths : (us vs : Entries) → (length us ≡ length vs → ⊥) → (b c : Binds) → Finds false b c (λ s. FieldsGive s us vs)
other_lengths us vs n b c s x h = n (as_long us vs s h)
  where
    as_long : (us vs : Entries) (s : Substitution) → FieldsGive s us vs → length us ≡ length vs
    as_long [] [] s h = refl
    as_long (u ∷ us) (v ∷ vs) s h = let p = as_long us vs s (cc) in omega (arith, p)
    as_long [] (v ∷ vs) s h = absurd (cc)
    as_long (u ∷ us) [] s h = absurd (cc)

first_and_rest : (u v : List ℕ × TypeTree) (us vs : Entries) (s : Substitution) → (FieldsGive s (u ∷ us) (v ∷ vs) ↔ (((u.0 ≡ v.0) × (sub_type s.types u.1 ≡ v.1)) × FieldsGive s us vs))
first_and_rest u v us vs s = (λ h. ((cc, cc), cc), λ h. λ i. TField (h.0.0 i) (h.0.1 i) (h.1 i))

-- what is found for the fields from the i-th on is found for all
pub record FieldsLeft (us vs : Entries) (i : ℕ) (old now : Binds) : Type 0 where
  pub lengths : length us ≡ length vs
  pub rest : (r : Bool) (b : Binds) → Finds r now b (λ s. FieldsGive s (drop i us) (drop i vs)) → Finds r old b (λ s. FieldsGive s us vs)

pub fields_start : (us vs : Entries) (old : Binds) → length us ≡ length vs → FieldsLeft us vs 0 old old
fields_start us vs old e = record { lengths = e; rest = λ r b f. f }

module _ (xs ys : List (Name × Ty)) (us vs : Entries) (i : ℕ) (old now : Binds) (e : map type_entry xs ≡ us) (f : map type_entry ys ≡ vs) (l : FieldsLeft us vs i old now)
    (x y : Name × Ty) (p : i < length xs) (q : i < length ys) (g : x ≡ get_or xs i x) (h : y ≡ get_or ys i y) where
  at_step : (r : Bool) (b : Binds) → Finds r now b (λ s. FieldsGive s (type_entry x ∷ drop (i + 1) us) (type_entry y ∷ drop (i + 1) vs)) → Finds r old b (λ s. FieldsGive s us vs)
  at_step r b k = l.rest r b (subst (λ z. Finds r now b (λ s. FieldsGive s z (drop i vs))) (sym (left_less type_entry xs us i x e p g)) (subst (λ z. Finds r now b (λ s. FieldsGive s (type_entry x ∷ drop (i + 1) us) z)) (sym (left_less type_entry ys vs i y f q h)) k))

  pub other_label : bytes_eq x.0 y.0 ≡ false → (b : Binds) → Finds false old b (λ s. FieldsGive s us vs)
  other_label n b = at_step false b (λ s z k.
      let c : x.0 ≡ y.0 = ((first_and_rest (type_entry x) (type_entry y) (drop (i + 1) us) (drop (i + 1) vs) s).0 k).0.0 in
      let d : false ≡ true = sym n ∙ (ap (bytes_eq x.0) (sym c) ∙ same_name_itself x.0) in absurd (cc))

  pub other_type : (b : Binds) → Finds false now b (λ s. sub_type s.types (type_tree x.1) ≡ type_tree y.1) → Finds false old b (λ s. FieldsGive s us vs)
  other_type b k = at_step false b (λ s z h. k s z ((first_and_rest (type_entry x) (type_entry y) (drop (i + 1) us) (drop (i + 1) vs) s).0 h).0.1)

  pub field_taken : bytes_eq x.0 y.0 ≡ true → (next : Binds) → Finds true now next (λ s. sub_type s.types (type_tree x.1) ≡ type_tree y.1) → FieldsLeft us vs (i + 1) old next
  field_taken n next k = record {
    lengths = l.lengths;
    rest = λ r b m. at_step r b (finds_same r now b (λ s. (sub_type s.types (type_tree x.1) ≡ type_tree y.1) × FieldsGive s (drop (i + 1) us) (drop (i + 1) vs)) (λ s. FieldsGive s (type_entry x ∷ drop (i + 1) us) (type_entry y ∷ drop (i + 1) vs))
        (λ s. let w = first_and_rest (type_entry x) (type_entry y) (drop (i + 1) us) (drop (i + 1) vs) s in (λ z. w.1 ((same_name-equal x.0 y.0 n, z.0), z.1), λ z. let o = w.0 z in (o.0.1, o.1)))
        (finds_then r now next b (λ s. sub_type s.types (type_tree x.1) ≡ type_tree y.1) (λ s. FieldsGive s (drop (i + 1) us) (drop (i + 1) vs)) k m));
  }

pub fields_end : (us vs : Entries) (i : ℕ) (old now : Binds) → FieldsLeft us vs i old now → length us ≤ i → Finds true old now (λ s. FieldsGive s us vs)
fields_end us vs i old now l p =
    let k = l.lengths in
    l.rest true now (finds_nothing_more now (λ s. FieldsGive s (drop i us) (drop i vs)) (λ s. λ j. ends s j))
  where
    ends : (s : Substitution) → FieldsGive s (drop i us) (drop i vs)
    ends s = let k = l.lengths in subst (λ z. FieldsGive s z (drop i vs)) (sym (drop_all i us p)) (subst (λ z. FieldsGive s [] z) (sym (drop_all i vs (omega (arith, k, p)))) refl)

-- ---- sets, pairs and structs by their parts

module _ (p t : TypeTree) (s : Substitution) where
  pub set_demand : (a b : TypeTree) → p ≡ TSet a → t ≡ TSet b → ((sub_type s.types a ≡ b) ↔ (sub_type s.types p ≡ t))
  set_demand a b e f = (
    λ h. ap (sub_type s.types) e ∙ (ap TSet h ∙ sym f),
    λ h. let k : TSet (sub_type s.types a) ≡ TSet b = sym (ap (sub_type s.types) e) ∙ (h ∙ f) in cc,
  )

  pub pair_demand : (a b c d : TypeTree) → p ≡ TPair a c → t ≡ TPair b d → (((sub_type s.types a ≡ b) × (sub_type s.types c ≡ d)) ↔ (sub_type s.types p ≡ t))
  pair_demand a b c d e f = (
    λ h. ap (sub_type s.types) e ∙ ((λ i. TPair (h.0 i) (h.1 i)) ∙ sym f),
    λ h. let k : TPair (sub_type s.types a) (sub_type s.types c) ≡ TPair b d = sym (ap (sub_type s.types) e) ∙ (h ∙ f) in (cc, cc),
  )

  pub struct_demand : (us vs : Entries) → p ≡ TStruct (of_type_fields us) → t ≡ TStruct (of_type_fields vs) → (FieldsGive s us vs ↔ (sub_type s.types p ≡ t))
  struct_demand us vs e f = (
    λ h. ap (sub_type s.types) e ∙ (ap TStruct h ∙ sym f),
    λ h. let k : TStruct (sub_types s.types (of_type_fields us)) ≡ TStruct (of_type_fields vs) = sym (ap (sub_type s.types) e) ∙ (h ∙ f) in cc,
  )

-- a type that is known, against what is demanded of it
pub known_demand : (o : Option TypeTree) (a u : TypeTree) (s : Substitution) → o ≡ Some u → ((sub_type s.types a ≡ u) ↔ (o ≡ Some (sub_type s.types a)))
known_demand o a u s e = (λ h. e ∙ ap Some (sym h), λ h. some_same (sub_type s.types a) u (sym h ∙ e))
