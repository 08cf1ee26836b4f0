-- Queries up to places: two are the same where they are so with 0 at each place.
use Rattle.std.specs.Prelude.{◌≡◌, ℕ, List, map}
use Rattle.oql_syntax.specs.QueryAnswers.{SpellsQuery}
use Rattle.oql_tree.specs.QueryTrees.{LitTree, QueryTree, QName, QLiteral, QSetOf, QPath, QStruct, QFlatten, QSomeMember, QNot, QIntersect, QAnd, QOr, QUnionExcept, QCompare, QExists, QForAll, QSelect, QueryLinks, NoLinks, Link, SetLinks, NoSets, SetLink, QueryFields, NoFields, QField, QueryRanges, NoRanges, QRange, QueryWhere, NoWhere, Where}

abbrev pub unplaced_literal : LitTree × ℕ → LitTree × ℕ
unplaced_literal l = (l.0, 0)

abbrev pub unplaced_label : List ℕ × ℕ → List ℕ × ℕ
unplaced_label l = (l.0, 0)

abbrev mutual
  -- the query with 0 at each place
  pub unplaced : QueryTree → QueryTree
  unplaced (QName at x) = QName 0 x
  unplaced (QLiteral at v) = QLiteral 0 v
  unplaced (QSetOf at vs) = QSetOf 0 (map unplaced_literal vs)
  unplaced (QPath at e ls) = QPath 0 (unplaced e) (map unplaced_label ls)
  unplaced (QStruct at fs) = QStruct 0 (unplaced_fields fs)
  unplaced (QFlatten at e) = QFlatten 0 (unplaced e)
  unplaced (QSomeMember at e) = QSomeMember 0 (unplaced e)
  unplaced (QNot at e) = QNot 0 (unplaced e)
  unplaced (QIntersect at e ls) = QIntersect 0 (unplaced e) (unplaced_links ls)
  unplaced (QAnd at e ls) = QAnd 0 (unplaced e) (unplaced_links ls)
  unplaced (QOr at e ls) = QOr 0 (unplaced e) (unplaced_links ls)
  unplaced (QUnionExcept at e ls) = QUnionExcept 0 (unplaced e) (unplaced_sets ls)
  unplaced (QCompare at s a b) = QCompare 0 s (unplaced a) (unplaced b)
  unplaced (QExists at x r e) = QExists 0 x (unplaced r) (unplaced e)
  unplaced (QForAll at x r e) = QForAll 0 x (unplaced r) (unplaced e)
  unplaced (QSelect at h rs c) = QSelect 0 (unplaced h) (unplaced_ranges rs) (unplaced_where c)

  pub unplaced_links : QueryLinks → QueryLinks
  unplaced_links NoLinks = NoLinks
  unplaced_links (Link at e ls) = Link 0 (unplaced e) (unplaced_links ls)

  pub unplaced_sets : SetLinks → SetLinks
  unplaced_sets NoSets = NoSets
  unplaced_sets (SetLink at b e ls) = SetLink 0 b (unplaced e) (unplaced_sets ls)

  pub unplaced_fields : QueryFields → QueryFields
  unplaced_fields NoFields = NoFields
  unplaced_fields (QField l at e fs) = QField l 0 (unplaced e) (unplaced_fields fs)

  pub unplaced_ranges : QueryRanges → QueryRanges
  unplaced_ranges NoRanges = NoRanges
  unplaced_ranges (QRange x at e rs) = QRange x 0 (unplaced e) (unplaced_ranges rs)

  pub unplaced_where : QueryWhere → QueryWhere
  unplaced_where NoWhere = NoWhere
  unplaced_where (Where at e) = Where 0 (unplaced e)

-- the text spells a query that is this one up to places
abbrev pub SpellsUpToPlaces : List ℕ → QueryTree → Type 0
SpellsUpToPlaces text x = (y : QueryTree) × SpellsQuery text y × (unplaced y ≡ unplaced x)
