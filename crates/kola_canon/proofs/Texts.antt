-- A loop that adds the text of one entry after another.
use Rattle.std.proofs.Common.{◌≡◌, ℕ, ◌+◌, ◌<◌, List, [], ◌∷◌, ◌++◌, length, get_or, map, take, sym, ap, ◌∙◌, codes}
use Rattle.std.proofs.lemmas.List.{append_assoc, append-nil}
use Rattle.kola_core.proofs.Lists.{taken_more}
use Rattle.kola_values.specs.Values.{ValueTree, of_items, of_fields}
use Rattle.kola_values.specs.Types.{TypeTree, of_type_fields}
use Rattle.kola_canon.specs.Spelling.{value_spelling, further_members, further_fields, type_spelling, further_field_types}

pub further_members_push : (us : List ValueTree) (u : ValueTree) → further_members (of_items (us ++ u ∷ [])) ≡ further_members (of_items us) ++ (codes ", " ++ value_spelling u)
further_members_push [] u = append-nil (codes ", " ++ value_spelling u)
further_members_push (w ∷ us) u =
    ap (λ l. (codes ", " ++ value_spelling w) ++ l) (further_members_push us u)
    ∙ sym (append_assoc (codes ", " ++ value_spelling w) (further_members (of_items us)) (codes ", " ++ value_spelling u))

-- the text of one more field
abbrev pub value_field : List ℕ × ValueTree → List ℕ
value_field f = codes ", " ++ f.0 ++ codes ": " ++ value_spelling f.1

pub further_fields_push : (us : List (List ℕ × ValueTree)) (u : List ℕ × ValueTree) → further_fields (of_fields (us ++ u ∷ [])) ≡ further_fields (of_fields us) ++ value_field u
further_fields_push [] u = append-nil (value_field u)
further_fields_push (w ∷ us) u =
    ap (λ l. value_field w ++ l) (further_fields_push us u)
    ∙ sym (append_assoc (value_field w) (further_fields (of_fields us)) (value_field u))

abbrev pub type_field : List ℕ × TypeTree → List ℕ
type_field f = codes ", " ++ f.0 ++ codes ": " ++ type_spelling f.1

pub further_field_types_push : (us : List (List ℕ × TypeTree)) (u : List ℕ × TypeTree) → further_field_types (of_type_fields (us ++ u ∷ [])) ≡ further_field_types (of_type_fields us) ++ type_field u
further_field_types_push [] u = append-nil (type_field u)
further_field_types_push (w ∷ us) u =
    ap (λ l. type_field w ++ l) (further_field_types_push us u)
    ∙ sym (append_assoc (type_field w) (further_field_types (of_type_fields us)) (type_field u))

-- F adds the text of each entry to what stands before
module _ {X A : Type 0} (v : X → A) (F : List A → List ℕ) (text : A → List ℕ) (push : (us : List A) (u : A) → F (us ++ u ∷ []) ≡ F us ++ text u) where
  pub spelt_more : (start done : List ℕ) (xs : List X) (i : ℕ) (x : X) → done ≡ start ++ F (take i (map v xs)) → i < length xs → x ≡ get_or xs i x → done ++ text (v x) ≡ start ++ F (take (i + 1) (map v xs))
  spelt_more start done xs i x h p q =
      ap (λ l. l ++ text (v x)) h
      ∙ append_assoc start (F (take i (map v xs))) (text (v x))
      ∙ ap (λ l. start ++ l) (sym (push (take i (map v xs)) (v x)) ∙ ap F (sym (taken_more v xs (map v xs) i x (λ j. map v xs) p q)))

-- a comma, a label with its colon, and a text, added one after another
pub regroup : (done comma label colon text : List ℕ) → ((done ++ comma) ++ (label ++ colon)) ++ text ≡ done ++ (comma ++ label ++ colon ++ text)
regroup done comma label colon text = simp append_assoc
