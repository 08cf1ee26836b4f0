-- What the program's answers on the value of a query say.
use Rattle.std.specs.Prelude.{◌≡◌, ◌≤◌, ℕ, Bool, true, false, List, [], Result, Ok, Err}
use Rattle.kola_values.specs.Values.{ValueTree, VUnit}
use Rattle.kola_values.specs.Types.{TypeTree}
use Rattle.kola_values.specs.Shapes.{Shaped}
use Rattle.kola_values.specs.Databases.{Classes, Objects}
use Rattle.kola_canon.specs.Encoding.{enc}
use Rattle.kola_canon.specs.Spelling.{value_spelling}
use Rattle.kola_term.specs.Terms.{TermTree, TermF}
use Rattle.kola_term.specs.Visits.{visits}
use Rattle.oql_tree.specs.QueryTrees.{QueryTree}
use Rattle.oql_check.specs.QueryMeaning.{mean}
use Rattle.kola_translate.specs.Translation.{translation}
use Rattle.kola_top.specs.declared.refusal.Refusal.{Refusal}
use Rattle.kola_top.specs.declared.valued.Valued.{Valued}
use Rattle.kola_top.specs.Stages.{visit_limit}
use Rattle.kola_top.specs.StageLine.{at_visits}
use Rattle.kola_top.specs.Refusals.{Refuses, IsOf}

abbrev pub is_function : TermTree → Bool
is_function (TermF f) = true
is_function _ = false

-- the text is that of the value of the type whose encoding is v
pub record IsText (t : TypeTree) (v : ValueTree) (text : List ℕ) : Type 0 where
  pub value : ValueTree
  pub encoded : enc value ≡ v
  pub shaped : Shaped value t
  pub spelled : text ≡ value_spelling value

-- the text of the query's value, and the members that its term visits
pub record IsValue (S : Classes) (os : Objects) (q : QueryTree) (v : Valued) : Type 0 where
  pub text : v.text.items ≡ value_spelling (mean S os q [])
  pub visited : v.visits ≡ visits S os (translation S q) VUnit
  pub within : visits S os (translation S q) VUnit ≤ visit_limit

abbrev pub IsValued : Classes → Objects → QueryTree → Result Valued Refusal → Type 0
IsValued S os q (Ok v) = IsValue S os q v
IsValued S os q (Err r) = Refuses (IsOf (at_visits S os (translation S q))) r
