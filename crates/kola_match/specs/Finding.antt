-- What a matcher that had found something says of a demand.
use Rattle.std.specs.Prelude.{◌≡◌, ◌↔◌, ℕ, Bool, true, false, List}
use Rattle.kola_values.specs.Types.{TypeTree, of_type_fields}
use Rattle.kola_match.specs.Substitutions.{Substitution, sub_types}
use Rattle.kola_match.specs.Binds.{Binds, Extends}

-- Of the substitutions that extend what was found before, exactly those that extend what is found now meet the demand; or none does.
abbrev pub Finds : Bool → Binds → Binds → (Substitution → Type 0) → Type 0
Finds true old new Q = (s : Substitution) → (Extends s new ↔ (Extends s old × Q s))
Finds false old new Q = (s : Substitution) → Extends s old → Q s → ⊥

-- the fields under s are the others
abbrev pub FieldsGive : Substitution → List (List ℕ × TypeTree) → List (List ℕ × TypeTree) → Type 0
FieldsGive s us vs = sub_types s.types (of_type_fields us) ≡ of_type_fields vs
