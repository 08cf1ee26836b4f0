-- The places of a query by what they take bare, each with the number of its class, and the place that takes a query by its root.
use Rattle.std.specs.Prelude.{◌≡◌, ℕ, Bool, ◌||◌, ◌&&◌, not, nat_le, List, refl}
use Rattle.oql_print.specs.QuerySpelling.{class_number, class_of, is_quantifier, bare_or_not, spelling}
use Rattle.oql_tree.specs.QueryTrees.{QueryTree, QName, QLiteral, QSetOf, QPath, QStruct, QFlatten, QSomeMember, QNot, QIntersect, QAnd, QOr, QUnionExcept, QCompare, QExists, QForAll, QSelect}

pub data Place : Type 0 where
  Full : Place
  Or : Place
  And : Place
  Not : Place
  Compared : Place
  Sets : Place
  Meet : Place
  Path : Place
  Prim : Place

abbrev pub place_number : Place → ℕ
place_number Full = 0
place_number Or = 1
place_number And = 2
place_number Not = 3
place_number Compared = 4
place_number Sets = 5
place_number Meet = 6
place_number Path = 7
place_number Prim = 8

abbrev pub place_of : QueryTree → Place
place_of (QSelect at h rs c) = Full
place_of (QOr at e ls) = Or
place_of (QAnd at e ls) = And
place_of (QNot at e) = Not
place_of (QExists at x r e) = Not
place_of (QForAll at x r e) = Not
place_of (QCompare at s a b) = Compared
place_of (QUnionExcept at e ls) = Sets
place_of (QIntersect at e ls) = Meet
place_of (QPath at e ls) = Path
place_of _ = Prim

pub same_number : (e : QueryTree) → class_number (class_of e) ≡ place_number (place_of e)
same_number (QSelect at h rs c) = refl
same_number (QOr at e ls) = refl
same_number (QAnd at e ls) = refl
same_number (QNot at e) = refl
same_number (QExists at x r e) = refl
same_number (QForAll at x r e) = refl
same_number (QCompare at s a b) = refl
same_number (QUnionExcept at e ls) = refl
same_number (QIntersect at e ls) = refl
same_number (QPath at e ls) = refl
same_number (QName at x) = refl
same_number (QLiteral at v) = refl
same_number (QSetOf at vs) = refl
same_number (QStruct at fs) = refl
same_number (QFlatten at e) = refl
same_number (QSomeMember at e) = refl

-- whether the place takes the query bare
abbrev pub taken : Place → Bool → QueryTree → Bool
taken c o e = nat_le (place_number c) (class_number (class_of e)) && (o || not (is_quantifier e))

-- what is printed of the query there
abbrev pub put : Place → Bool → QueryTree → List ℕ
put c o e = bare_or_not (taken c o e) o (λ o. spelling o e)
