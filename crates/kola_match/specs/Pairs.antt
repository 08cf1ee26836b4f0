-- Sides of a rule with the terms that they are to give.
use Rattle.std.specs.Prelude.{◌≡◌, List, [], ◌∷◌}
use Rattle.kola_term.specs.Terms.{TermTree}
use Rattle.kola_match.specs.Substitutions.{Substitution, inst}

abbrev pub Sides : Type 0
Sides = List (TermTree × TermTree)

-- what g makes of each side is the term beside it
abbrev pub Beside : (TermTree → TermTree) → Sides → Type 0
Beside g [] = Unit {0}
Beside g (p ∷ ps) = (g p.0 ≡ p.1) × Beside g ps

abbrev pub AllGive : Substitution → Sides → Type 0
AllGive s ps = Beside (inst s) ps
