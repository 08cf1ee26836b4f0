-- Fields under a substitution of types.
use Rattle.std.proofs.Common.{◌≡◌, ℕ, List, [], ◌∷◌, map, refl, ap}
use Rattle.kola_values.specs.Types.{TypeTree, TField, of_type_fields}
use Rattle.kola_match.specs.Substitutions.{sub_type, sub_types}

abbrev pub sub_entry : (List ℕ → TypeTree) → List ℕ × TypeTree → List ℕ × TypeTree
sub_entry s e = (e.0, sub_type s e.1)

pub fields_made : (s : List ℕ → TypeTree) (es : List (List ℕ × TypeTree)) → of_type_fields (map (sub_entry s) es) ≡ sub_types s (of_type_fields es)
fields_made s [] = refl
fields_made s (e ∷ es) = ap (TField e.0 (sub_type s e.1)) (fields_made s es)
