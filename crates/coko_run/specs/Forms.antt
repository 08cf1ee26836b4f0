-- When a term has the form of a pattern, in which each variable stands for any term of its kind.
use Rattle.std.specs.Prelude.{◌≡◌, true, false, List, [], ◌∷◌, Option, Some, None}
use Rattle.kola_term.specs.Terms.{TermTree}
use Rattle.kola_term.specs.Places.{children}
use Rattle.kola_match.specs.Alike.{same_kind}
use Rattle.kola_match.specs.Nodes.{is_variable, same_node}

mutual
  pub data HasForm : TermTree → TermTree → Type 0 where
    of_variable : {p t : TermTree} → is_variable p ≡ true → same_kind p t ≡ true → HasForm p t
    of_node : {p t : TermTree} → is_variable p ≡ false → same_node p t ≡ true → HaveForms (children p) (children t) → HasForm p t

  -- the terms of a list, each the pattern at its place
  pub data HaveForms : List TermTree → List TermTree → Type 0 where
    no_forms : HaveForms [] []
    more_forms : {p t : TermTree} {ps ts : List TermTree} → HasForm p t → HaveForms ps ts → HaveForms (p ∷ ps) (t ∷ ts)

-- there is a term, and it has the form
abbrev pub FormAt : TermTree → Option TermTree → Type 0
FormAt p (Some t) = HasForm p t
FormAt p None = ⊥
