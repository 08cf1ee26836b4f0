-- The one canonical spelling of a query: a part stands in parentheses exactly where the grammar does not take it bare.
use Rattle.std.specs.Prelude.{ℕ, Bool, true, false, ◌||◌, ◌&&◌, not, nat_le, List, [], ◌∷◌, ◌++◌, codes}
use Rattle.std.specs.Fmt.{signed_decimal}
use Rattle.std.specs.List.{flat_map}
use Rattle.kola_canon.specs.Spelling.{quoted, truth}
use Rattle.oql_tree.specs.QueryTrees.{LitTree, LitInt, LitStr, LitBool, QueryTree, QName, QLiteral, QSetOf, QPath, QStruct, QFlatten, QSomeMember, QNot, QIntersect, QAnd, QOr, QUnionExcept, QCompare, QExists, QForAll, QSelect, QueryLinks, NoLinks, Link, SetLinks, NoSets, SetLink, QueryFields, NoFields, QField, QueryRanges, NoRanges, QRange, QueryWhere, NoWhere, Where}
use Rattle.oql_tree.specs.declared.query.Sign.{Sign}
use Rattle.oql_tree.specs.declared.query.Sign.TheVariants as signs
use Rattle.oql_print.specs.declared.print.Class.{Class}
use Rattle.oql_print.specs.declared.print.Class.TheVariants as class

-- ---- classes

-- each class takes bare what those with a greater number take
abbrev pub class_number : Class → ℕ
class_number class.Full = 0
class_number class.Or = 1
class_number class.And = 2
class_number class.Not = 3
class_number class.Compared = 4
class_number class.Sets = 5
class_number class.Meet = 6
class_number class.Path = 7
class_number class.Prim = 8

-- the class of a query by its root
abbrev pub class_of : QueryTree → Class
class_of (QSelect at h rs c) = class.Full
class_of (QOr at e ls) = class.Or
class_of (QAnd at e ls) = class.And
class_of (QNot at e) = class.Not
class_of (QExists at x r e) = class.Not
class_of (QForAll at x r e) = class.Not
class_of (QCompare at s a b) = class.Compared
class_of (QUnionExcept at e ls) = class.Sets
class_of (QIntersect at e ls) = class.Meet
class_of (QPath at e ls) = class.Path
class_of _ = class.Prim

abbrev pub is_quantifier : QueryTree → Bool
is_quantifier (QExists at x r e) = true
is_quantifier (QForAll at x r e) = true
is_quantifier _ = false

-- whether a place of the class takes the query bare; a place that is not open takes no quantifier
abbrev pub takes : Class → Bool → QueryTree → Bool
takes c o e = nat_le (class_number c) (class_number (class_of e)) && (o || not (is_quantifier e))

abbrev pub bare_or_not : Bool → Bool → (Bool → List ℕ) → List ℕ
bare_or_not true o text = text o
bare_or_not false o text = codes "(" ++ text true ++ codes ")"

-- the query at a place of the class, bare or else in parentheses, where its end is open. text o is the query itself
abbrev pub placed : Class → Bool → QueryTree → (Bool → List ℕ) → List ℕ
placed c o e text = bare_or_not (takes c o e) o text

-- ---- what has no parts

abbrev pub literal_spelling : LitTree → List ℕ
literal_spelling (LitInt n) = signed_decimal n
literal_spelling (LitStr s) = quoted s
literal_spelling (LitBool b) = truth b

abbrev pub further_literal : LitTree × ℕ → List ℕ
further_literal l = codes ", " ++ literal_spelling l.0

abbrev pub literals_spelling : List (LitTree × ℕ) → List ℕ
literals_spelling [] = []
literals_spelling (l ∷ ls) = literal_spelling l.0 ++ flat_map further_literal ls

abbrev pub label_spelling : List ℕ × ℕ → List ℕ
label_spelling l = codes "." ++ l.0

abbrev pub comparison_spelling : Sign → List ℕ
comparison_spelling signs.Eq = codes " = "
comparison_spelling signs.Ne = codes " != "
comparison_spelling signs.Lt = codes " < "
comparison_spelling signs.Le = codes " <= "
comparison_spelling signs.Gt = codes " > "
comparison_spelling signs.Ge = codes " >= "
comparison_spelling signs.Member = codes " in "

abbrev pub union_spelling : Bool → List ℕ
union_spelling true = codes " except "
union_spelling false = codes " union "

-- ---- queries

abbrev mutual
  -- the query itself; o says whether its end is open. Of its parts only the one that ends it stands at that end
  pub spelling : Bool → QueryTree → List ℕ
  spelling o (QName at x) = x
  spelling o (QLiteral at l) = literal_spelling l
  spelling o (QSetOf at ls) = codes "set(" ++ literals_spelling ls ++ codes ")"
  spelling o (QPath at e ls) = placed class.Prim false e (λ o. spelling o e) ++ flat_map label_spelling ls
  spelling o (QStruct at fs) = codes "struct(" ++ fields_spelling fs ++ codes ")"
  spelling o (QFlatten at e) = codes "flatten(" ++ spelling true e ++ codes ")"
  spelling o (QSomeMember at e) = codes "exists(" ++ spelling true e ++ codes ")"
  spelling o (QNot at e) = codes "not " ++ placed class.Not o e (λ o. spelling o e)
  spelling o (QIntersect at e ls) = operands_spelling class.Path (codes " intersect ") false (λ o. placed class.Path o e (λ o. spelling o e)) ls
  spelling o (QAnd at e ls) = operands_spelling class.Not (codes " and ") o (λ o. placed class.Not o e (λ o. spelling o e)) ls
  spelling o (QOr at e ls) = operands_spelling class.And (codes " or ") o (λ o. placed class.And o e (λ o. spelling o e)) ls
  spelling o (QUnionExcept at e ls) = placed class.Meet false e (λ o. spelling o e) ++ set_links_spelling ls
  spelling o (QCompare at s a b) = placed class.Sets false a (λ o. spelling o a) ++ comparison_spelling s ++ placed class.Sets false b (λ o. spelling o b)
  spelling o (QExists at x r e) = codes "exists " ++ x ++ codes " in " ++ placed class.Sets false r (λ o. spelling o r) ++ codes " : " ++ spelling true e
  spelling o (QForAll at x r e) = codes "for all " ++ x ++ codes " in " ++ placed class.Sets false r (λ o. spelling o r) ++ codes " : " ++ spelling true e
  spelling o (QSelect at h rs c) = codes "select distinct " ++ spelling true h ++ codes " from " ++ ranges_spelling rs ++ where_spelling c

  -- operands, the first of which is given, with the word between each two; o says whether the end of the last one is open
  pub operands_spelling : Class → List ℕ → Bool → (Bool → List ℕ) → QueryLinks → List ℕ
  operands_spelling c word o first NoLinks = first o
  operands_spelling c word o first (Link at e ls) = first false ++ word ++ operands_spelling c word o (λ o. placed c o e (λ o. spelling o e)) ls

  pub set_links_spelling : SetLinks → List ℕ
  set_links_spelling NoSets = []
  set_links_spelling (SetLink at b e ls) = union_spelling b ++ placed class.Meet false e (λ o. spelling o e) ++ set_links_spelling ls

  pub fields_spelling : QueryFields → List ℕ
  fields_spelling NoFields = []
  fields_spelling (QField l at e fs) = l ++ codes ": " ++ spelling true e ++ further_fields fs

  pub further_fields : QueryFields → List ℕ
  further_fields NoFields = []
  further_fields (QField l at e fs) = codes ", " ++ l ++ codes ": " ++ spelling true e ++ further_fields fs

  pub ranges_spelling : QueryRanges → List ℕ
  ranges_spelling NoRanges = []
  ranges_spelling (QRange x at e rs) = x ++ codes " in " ++ placed class.Sets false e (λ o. spelling o e) ++ further_ranges rs

  pub further_ranges : QueryRanges → List ℕ
  further_ranges NoRanges = []
  further_ranges (QRange x at e rs) = codes ", " ++ x ++ codes " in " ++ placed class.Sets false e (λ o. spelling o e) ++ further_ranges rs

  pub where_spelling : QueryWhere → List ℕ
  where_spelling NoWhere = []
  where_spelling (Where at e) = codes " where " ++ spelling true e

abbrev pub spelling_at : Class → Bool → QueryTree → List ℕ
spelling_at c o e = placed c o e (λ o. spelling o e)

abbrev pub query_spelling : QueryTree → List ℕ
query_spelling e = spelling true e
