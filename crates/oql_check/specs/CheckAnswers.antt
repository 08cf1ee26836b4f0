-- What the check of queries answers.
use Rattle.std.specs.Prelude.{ℕ, List, [], Result, Ok, Err, ◌≡◌, codes}
use Rattle.kola_values.specs.Databases.{Classes}
use Rattle.kola_values.specs.Types.{TypeTree}
use Rattle.oql_tree.specs.QueryTrees.{QueryTree}
use Rattle.oql_tree.specs.QueryViews.{query_tree}
use Rattle.oql_tree.specs.declared.query.Expr.{Expr}
use Rattle.oql_check.specs.QueryTypes.{FirstFault}
use Rattle.oql_check.specs.TypedQueries.{HasQueryType}
use Rattle.oql_check.specs.declared.fault.CheckWhy.{CheckWhy}
use Rattle.oql_check.specs.declared.fault.CheckWhy.TheVariants as why
use Rattle.oql_check.specs.declared.fault.CheckFault.{CheckFault}
use Rattle.oql_check.specs.declared.fault.CheckFault.TheVariants.{At, Memory}

-- the name of a cause
abbrev pub check_name : CheckWhy → List ℕ
check_name why.UnknownName = codes "UnknownName"
check_name why.NoSuchAttribute = codes "NoSuchAttribute"
check_name why.NotASet = codes "NotASet"
check_name why.NotBool = codes "NotBool"
check_name why.TypesDiffer = codes "TypesDiffer"
check_name why.NotOrdered = codes "NotOrdered"
check_name why.RepeatedLabel = codes "RepeatedLabel"
check_name why.TooManyFields = codes "TooManyFields"
check_name why.TypeTooLarge = codes "TypeTooLarge"

-- a query has a type where no variable is in scope
abbrev pub IsTyped : Classes → QueryTree → Type 0
IsTyped S e = (t : TypeTree) × HasQueryType S [] e t

-- the first fault of a query, which then has no type; want of memory says nothing
abbrev pub FaultOf : Classes → QueryTree → CheckFault → Type 0
FaultOf S e (At at c) = FirstFault S [] e at c × (IsTyped S e → ⊥)
FaultOf S e Memory = Unit {0}

-- the query with its type, or its first fault; the query is handed back in both cases
abbrev pub IsChecked : Classes → QueryTree → Result (QueryTree × TypeTree) (CheckFault × Expr) → Type 0
IsChecked S e (Ok q) = (q.0 ≡ e) × HasQueryType S [] e q.1
IsChecked S e (Err f) = (query_tree f.1 ≡ e) × FaultOf S e f.0
