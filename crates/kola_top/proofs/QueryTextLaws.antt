-- Each text spells a query or is at fault first at one place, for one cause, and not both.
use Rattle.std.proofs.Common.{◌≡◌, ◌⊎◌, ℕ, List}
use Rattle.kola_base.proofs.SpelledLaws.{one_spelled}
use Rattle.oql_syntax.specs.Limits.{greatest_query, QueryWithin, query_within}
use Rattle.oql_tree.specs.QueryTrees.{QueryTree}
use Rattle.oql_syntax.specs.QueryFaults.{QueryCause}
use Rattle.oql_syntax.specs.QueryAnswers.{SpellsQuery, IsQueryFault}
use Rattle.oql_syntax.proofs.QueryFaultLaws.{query_once, spelled_or_fault, one_query_fault}
use Rattle.oql_syntax.proofs.WholeQueries.{within_good}
use Rattle.oql_syntax.proofs.WholeQueryLaws.{always}

pub spelled_once : (text : List ℕ) → ((x : QueryTree) × SpellsQuery text x) ⊎ ((at : ℕ) × (c : QueryCause) × IsQueryFault text at c)
spelled_once text = query_once query_within QueryWithin always within_good greatest_query text

pub one_query_of : (text : List ℕ) (x y : QueryTree) → SpellsQuery text x → SpellsQuery text y → x ≡ y
one_query_of text x y h k = one_spelled query_within QueryWithin always within_good greatest_query text x y h k

pub spelled_or_at_fault : (text : List ℕ) (x : QueryTree) (at : ℕ) (c : QueryCause) → SpellsQuery text x → IsQueryFault text at c → ⊥
spelled_or_at_fault text x at c h k = spelled_or_fault query_within QueryWithin always within_good greatest_query text x at c h k

pub one_fault_of_query : (text : List ℕ) (at to : ℕ) (c d : QueryCause) → IsQueryFault text at c → IsQueryFault text to d → (at ≡ to) × (c ≡ d)
one_fault_of_query text at to c d h k = one_query_fault query_within QueryWithin always within_good greatest_query text at to c d h k
