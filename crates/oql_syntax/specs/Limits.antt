-- How long chains and how deep queries may be.
use Rattle.std.specs.Prelude.{ℕ, List}
use Rattle.kola_base.specs.Placed.{Placed}
use Rattle.oql_syntax.specs.Grammar.{QueryText}
use Rattle.oql_syntax.specs.QueryReaders.{Reader, query}
use Rattle.oql_tree.specs.QueryTrees.{QueryTree}

-- at most so many links in a chain, and so many levels below the whole query
abbrev pub greatest_query : ℕ
greatest_query = 100

-- both within one limit
abbrev pub QueryWithin : ℕ → QueryTree → List Placed → Type 0
QueryWithin n x = QueryText n n x

abbrev pub query_within : ℕ → Reader QueryTree
query_within n = query n n
