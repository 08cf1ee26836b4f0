-- A query with its type and its term, as the program keeps them.
use Rattle.std.specs.Prelude.{◌≡◌, List, ℕ, []}
use Rattle.kola_values.specs.Databases.{Classes}
use Rattle.kola_term.specs.Terms.{TermF}
use Rattle.kola_term.specs.TermView.{term_tree}
use Rattle.oql_check.specs.TypedQueries.{HasQueryType}
use Rattle.oql_syntax.specs.QueryAnswers.{SpellsQuery}
use Rattle.kola_translate.specs.Translation.{translation}
use Rattle.kola_translate.specs.TranslationAnswers.{FitsAtUnit}
use Rattle.kola_top.specs.declared.asked.Asked.{Asked}

-- the query has the type, and the term is its translation, which fits at the unit
pub record IsReady (S : Classes) (a : Asked) : Type 0 where
  pub typed : HasQueryType S [] a.typed.value.0 a.typed.value.1
  pub fits : FitsAtUnit S (translation S a.typed.value.0)
  pub term : term_tree a.term.value ≡ TermF (translation S a.typed.value.0)

-- the text spells that query
pub record IsAsked (S : Classes) (text : List ℕ) (a : Asked) : Type 0 where
  pub spells : SpellsQuery text a.typed.value.0
  pub ready : IsReady S a
