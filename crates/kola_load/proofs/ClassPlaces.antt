-- A class at a place of a schema is the class of its name.
use Rattle.std.proofs.Common.{◌≡◌, ℕ, ◌+◌, ◌<◌, true, false, cond, [], ◌∷◌, ◌++◌, Some, length, get_or, take, drop, sym, ap, ◌∙◌}
use Rattle.std.specs.Str.{bytes_eq}
use Rattle.std.proofs.lemmas.List.{take-map, take-append-drop, drop_more}
use Rattle.kola_values.specs.Databases.{Class, Classes}
use Rattle.kola_core.specs.NameLists.{is_listed}
use Rattle.kola_schema.specs.Schemas.{are_distinct, class_names, extent_names, class_named}
use Rattle.kola_values.proofs.Truth.{both_false}
use Rattle.kola_schema.proofs.Places.{fresh}
use Rattle.kola_values.proofs.SameTypes.{name_itself}

class_after : (T R : Classes) (k : Class) → is_listed k.name (class_names T) ≡ false → class_named (T ++ k ∷ R) k.name ≡ Some k
class_after [] R k n = ap (λ b. cond b (Some k) (class_named R k.name)) (name_itself k.name)
class_after (h ∷ T) R k n =
    let p = both_false (bytes_eq k.name h.name) (is_listed k.name (class_names T)) n in
    ap (λ b. cond b (Some h) (class_named (T ++ k ∷ R) k.name)) p.0 ∙ class_after T R k p.1

module _ (S : Classes) (i : ℕ) (k : Class) (p : i < length S) (e : k ≡ get_or S i k) (d : are_distinct (class_names S) ≡ true) where
  -- no class before it has the name
  pub new_name : is_listed k.name (class_names (take i S)) ≡ false
  new_name = ap (is_listed k.name) (sym (take-map (λ (c : Class). c.name) i S)) ∙ fresh (λ (c : Class). c.name) S i k p e d

  pub class_found : class_named S k.name ≡ Some k
  class_found =
      ap (λ T. class_named T k.name) (sym (take-append-drop i S) ∙ ap (λ l. take i S ++ l) (drop_more S i k p ∙ ap (λ c. c ∷ drop (i + 1) S) (sym e)))
      ∙ class_after (take i S) (drop (i + 1) S) k new_name

-- no class before it has the extent
pub new_extent : (S : Classes) (i : ℕ) (k : Class) → i < length S → k ≡ get_or S i k → are_distinct (extent_names S) ≡ true → is_listed k.extent (extent_names (take i S)) ≡ false
new_extent S i k p e d = ap (is_listed k.extent) (sym (take-map (λ (c : Class). c.extent) i S)) ∙ fresh (λ (c : Class). c.extent) S i k p e d
