-- A number that falls from a query to its parts.
use Rattle.std.specs.Prelude.{ℕ, ◌+◌, Bool, List, [], ◌∷◌}
use Rattle.oql_tree.specs.QueryTrees.{QueryTree, QPath, QStruct, QFlatten, QSomeMember, QNot, QIntersect, QAnd, QOr, QUnionExcept, QCompare, QExists, QForAll, QSelect, QueryLinks, NoLinks, Link, SetLinks, NoSets, SetLink, QueryFields, NoFields, QField, QueryRanges, NoRanges, QRange, QueryWhere, NoWhere, Where}

abbrev mutual
  pub weight : QueryTree → ℕ
  weight (QPath at e ls) = 1 + weight e
  weight (QStruct at fs) = 1 + fields_weight fs
  weight (QFlatten at e) = 1 + weight e
  weight (QSomeMember at e) = 1 + weight e
  weight (QNot at e) = 1 + weight e
  weight (QIntersect at e ls) = 1 + weight e + links_weight ls
  weight (QAnd at e ls) = 1 + weight e + links_weight ls
  weight (QOr at e ls) = 1 + weight e + links_weight ls
  weight (QUnionExcept at e ls) = 1 + weight e + set_links_weight ls
  weight (QCompare at s a b) = 1 + weight a + weight b
  weight (QExists at x r b) = 1 + weight r + weight b
  weight (QForAll at x r b) = 1 + weight r + weight b
  weight (QSelect at h rs w) = 1 + weight h + ranges_weight rs + where_weight w
  weight _ = 1

  pub links_weight : QueryLinks → ℕ
  links_weight NoLinks = 1
  links_weight (Link at e ls) = 1 + weight e + links_weight ls

  pub set_links_weight : SetLinks → ℕ
  set_links_weight NoSets = 1
  set_links_weight (SetLink at b e ls) = 1 + weight e + set_links_weight ls

  pub fields_weight : QueryFields → ℕ
  fields_weight NoFields = 1
  fields_weight (QField l at e fs) = 1 + weight e + fields_weight fs

  pub ranges_weight : QueryRanges → ℕ
  ranges_weight NoRanges = 1
  ranges_weight (QRange x at e rs) = 1 + weight e + ranges_weight rs

  pub where_weight : QueryWhere → ℕ
  where_weight NoWhere = 1
  where_weight (Where at e) = 1 + weight e

-- the same of the entries of a list
abbrev pub link_entries_weight : List (ℕ × QueryTree) → ℕ
link_entries_weight [] = 1
link_entries_weight (l ∷ ls) = 1 + weight l.1 + link_entries_weight ls

abbrev pub set_entries_weight : List (ℕ × Bool × QueryTree) → ℕ
set_entries_weight [] = 1
set_entries_weight (l ∷ ls) = 1 + weight l.2 + set_entries_weight ls

abbrev pub named_entries_weight : List (List ℕ × ℕ × QueryTree) → ℕ
named_entries_weight [] = 1
named_entries_weight (f ∷ fs) = 1 + weight f.2 + named_entries_weight fs
