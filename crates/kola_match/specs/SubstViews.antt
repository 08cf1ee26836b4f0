-- The program's substitutions, as the definitions have what was found.
use Rattle.std.specs.Prelude.{ℕ, List, Option, map, option_map}
use Rattle.std.specs.Borrow.{Bor}
use Rattle.kola_values.specs.Types.{TypeTree}
use Rattle.kola_values.specs.Views.{type_tree, type_entry}
use Rattle.kola_term.specs.Terms.{TermTree}
use Rattle.kola_term.specs.TermView.{term_tree}
use Rattle.kola_term.specs.declared.term.Term.{Term}
use Rattle.kola_match.specs.Binds.{Found, Binds, binds}
use Rattle.kola_match.specs.declared.given.Bound.{Bound}
use Rattle.kola_match.specs.declared.subst.Subst.{Subst}

-- a variable's name, and its term with its input type where it has one
abbrev pub bound_entry : Bound → List ℕ × (TermTree × Option TypeTree)
bound_entry b = (b.name, (term_tree b.term, option_map type_tree b.input))

-- what the substitution has for variables
abbrev pub bindings : Subst → Found (TermTree × Option TypeTree)
bindings s = map bound_entry s.bound

-- the same without the input types
abbrev pub terms_of : Found (TermTree × Option TypeTree) → Found TermTree
terms_of b = map (λ (e : List ℕ × (TermTree × Option TypeTree)). (e.0, e.1.0)) b

abbrev pub found_binds : Subst → Binds
found_binds s = binds (map type_entry s.types) (terms_of (bindings s))

abbrev pub term_at : Bor Term → TermTree
term_at t = term_tree t.now
