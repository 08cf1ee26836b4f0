-- What a substitution gives for the variables of a list, one by one, as the program copies it.
use Rattle.std.specs.Prelude.{ℕ, List, Option, map}
use Rattle.kola_values.specs.Types.{TypeTree}
use Rattle.kola_term.specs.Terms.{TermTree}
use Rattle.kola_term.specs.Typing.{Context, MetaTree}
use Rattle.kola_match.specs.Substitutions.{Substitution}
use Rattle.kola_match.specs.Binds.{Found}
use Rattle.kola_match.specs.Instances.{given_by}

-- a variable's name with what s gives for it
abbrev pub given_entry : Substitution → List ℕ × MetaTree → List ℕ × (TermTree × Option TypeTree)
given_entry s v = (v.0, given_by s v.0 v.1)

abbrev pub given : Substitution → Context → Found (TermTree × Option TypeTree)
given s vs = map (given_entry s) vs
