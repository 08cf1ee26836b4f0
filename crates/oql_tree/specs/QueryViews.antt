-- The plain tree of a query that the program holds.
use Rattle.std.specs.Prelude.{ℕ, Bool, List, [], ◌∷◌, Option, Some, None, map}
use Rattle.std.specs.Borrow.{Bor}
use Rattle.kola_core.specs.declared.name.Name.{Name}
use Rattle.oql_tree.specs.QueryTrees.{LitTree, LitInt, LitStr, LitBool, QueryTree, QName, QLiteral, QSetOf, QPath, QStruct, QFlatten, QSomeMember, QNot, QIntersect, QAnd, QOr, QUnionExcept, QCompare, QExists, QForAll, QSelect, QueryWhere, NoWhere, Where, of_links, of_set_links, of_fields, of_ranges}
use Rattle.oql_tree.specs.declared.query.Lit.{Lit}
use Rattle.oql_tree.specs.declared.query.Lit.TheVariants as lit
use Rattle.oql_tree.specs.declared.query.Expr.{Expr}
use Rattle.oql_tree.specs.declared.query.Form.{Form}
use Rattle.oql_tree.specs.declared.query.Form.TheVariants as form

abbrev pub lit_tree : Lit → LitTree
lit_tree (lit.Int n) = LitInt n
lit_tree (lit.Str s) = LitStr s
lit_tree (lit.Bool b) = LitBool b

-- a literal of a set, with its place
abbrev pub literal_entry : Lit × ℕ → LitTree × ℕ
literal_entry l = (lit_tree l.0, l.1)

abbrev pub literal_entries : List (Lit × ℕ) → List (LitTree × ℕ)
literal_entries ls = map literal_entry ls

abbrev pub where_of : Option (ℕ × QueryTree) → QueryWhere
where_of None = NoWhere
where_of (Some w) = Where w.0 w.1

abbrev pub form_tree : ℕ → Form → QueryTree
form_tree at (form.Name n) = QName at n
form_tree at (form.Literal l) = QLiteral at (lit_tree l)
form_tree at (form.SetOf ls) = QSetOf at (map literal_entry ls)
form_tree at (form.Path e ls) = QPath at e ls
form_tree at (form.Struct fs) = QStruct at (of_fields fs)
form_tree at (form.Flatten e) = QFlatten at e
form_tree at (form.SomeMember e) = QSomeMember at e
form_tree at (form.Not e) = QNot at e
form_tree at (form.Intersect e ls) = QIntersect at e (of_links ls)
form_tree at (form.And e ls) = QAnd at e (of_links ls)
form_tree at (form.Or e ls) = QOr at e (of_links ls)
form_tree at (form.UnionExcept e ls) = QUnionExcept at e (of_set_links ls)
form_tree at (form.Compare s a b) = QCompare at s a b
form_tree at (form.Exists x r b) = QExists at x r b
form_tree at (form.ForAll x r b) = QForAll at x r b
form_tree at (form.Select h rs w) = QSelect at h (of_ranges rs) (where_of w)

abbrev pub query_tree : Expr → QueryTree
query_tree e = form_tree e.at e.form

-- an operand behind the first one, with the place of its sign, and for `union` and `except` which of them it is
abbrev pub link_entry : ℕ × Expr → ℕ × QueryTree
link_entry l = (l.0, query_tree l.1)

abbrev pub set_link_entry : ℕ × Bool × Expr → ℕ × Bool × QueryTree
set_link_entry l = (l.0, l.1, query_tree l.2)

-- a label or a variable, its place, and its expression or range
abbrev pub named_entry : Name × ℕ × Expr → List ℕ × ℕ × QueryTree
named_entry f = (f.0, f.1, query_tree f.2)

-- the same behind a reference
abbrev pub link_entry_at : Bor (ℕ × Expr) → ℕ × QueryTree
link_entry_at l = link_entry l.now

abbrev pub set_link_entry_at : Bor (ℕ × Bool × Expr) → ℕ × Bool × QueryTree
set_link_entry_at l = set_link_entry l.now

abbrev pub named_entry_at : Bor (Name × ℕ × Expr) → List ℕ × ℕ × QueryTree
named_entry_at f = named_entry f.now

-- where the first sign of a chain stands, if there is one
abbrev pub first_place : List (ℕ × QueryTree) → Option ℕ
first_place [] = None
first_place (l ∷ ls) = Some l.0

abbrev pub first_set_place : List (ℕ × Bool × QueryTree) → Option ℕ
first_set_place [] = None
first_set_place (l ∷ ls) = Some l.0
