-- Queries over the sample schema, each with its text above it.
use Rattle.std.proofs.Common.{ℕ, pos, true, List, [], ◌∷◌, codes}
use Rattle.oql_tree.specs.QueryTrees.{LitInt, QueryTree, QName, QLiteral, QSetOf, QPath, QStruct, QUnionExcept, QCompare, QExists, QForAll, QSelect, NoSets, SetLink, NoFields, QField, QueryRanges, NoRanges, QRange, NoWhere, Where}
use Rattle.oql_tree.specs.declared.query.Sign.TheVariants as sign

abbrev pub named : ℕ → List ℕ → QueryTree
named at x = QName at x

abbrev pub number : ℕ → ℕ → QueryTree
number at n = QLiteral at (LitInt (pos n))

abbrev pub one_label : ℕ → QueryTree → List ℕ → QueryTree
one_label at e l = QPath at e ((l, at) ∷ [])

abbrev pub one_range : List ℕ → ℕ → QueryTree → QueryRanges
one_range x at r = QRange x at r NoRanges

-- set(3, 1, 2, 3), with its first number at this place
abbrev pub numbers : ℕ → QueryTree
numbers at = QSetOf at ((LitInt (pos 3), 4) ∷ (LitInt (pos 1), 7) ∷ (LitInt (pos 2), 10) ∷ (LitInt (pos 3), 13) ∷ [])

abbrev pub ones : ℕ → QueryTree
ones at = QSetOf at ((LitInt (pos 1), at) ∷ [])

-- select distinct x from x in set(3, 1, 2, 3) where x < 3
abbrev pub below_three : QueryTree
below_three = QSelect 0 (named 16 (codes "x")) (one_range (codes "x") 23 (numbers 28)) (Where 44 (QCompare 52 sign.Lt (named 50 (codes "x")) (number 54 3)))

-- select distinct (select distinct x from x in x.cars) from x in Persons
abbrev pub shadowed : QueryTree
shadowed =
    QSelect 0 (QSelect 17 (named 33 (codes "x")) (one_range (codes "x") 40 (one_label 47 (named 45 (codes "x")) (codes "cars"))) NoWhere)
    (one_range (codes "x") 58 (named 63 (codes "Persons"))) NoWhere

-- select distinct Persons from Persons in Vehicles
abbrev pub hidden_extent : QueryTree
hidden_extent = QSelect 0 (named 16 (codes "Persons")) (one_range (codes "Persons") 29 (named 40 (codes "Vehicles"))) NoWhere

-- select distinct struct(v: v, owners: (select distinct p from p in Persons where v in p.cars)) from v in Vehicles
abbrev pub owners : QueryTree
owners =
    QSelect 0
    (QStruct 16 (QField (codes "v") 23 (named 26 (codes "v"))
    (QField (codes "owners") 29
    (QSelect 38 (named 54 (codes "p")) (one_range (codes "p") 61 (named 66 (codes "Persons"))) (Where 74 (QCompare 82 sign.Member (named 80 (codes "v")) (one_label 87 (named 85 (codes "p")) (codes "cars")))))
    NoFields)))
    (one_range (codes "v") 99 (named 104 (codes "Vehicles"))) NoWhere

-- select distinct c.year from p in Persons, c in p.cars
abbrev pub years : QueryTree
years =
    QSelect 0 (one_label 18 (named 16 (codes "c")) (codes "year"))
    (QRange (codes "p") 28 (named 33 (codes "Persons")) (one_range (codes "c") 42 (one_label 49 (named 47 (codes "p")) (codes "cars")))) NoWhere

-- Vehicles except Vehicles
abbrev pub no_vehicles : ℕ → QueryTree
no_vehicles at = QUnionExcept at (named 0 (codes "Vehicles")) (SetLink at true (named 0 (codes "Vehicles")) NoSets)

-- for all x in Vehicles except Vehicles : x.year < 0
abbrev pub all_of_none : QueryTree
all_of_none = QForAll 0 (codes "x") (no_vehicles 22) (QCompare 47 sign.Lt (one_label 42 (named 40 (codes "x")) (codes "year")) (number 49 0))

-- exists x in R : x.year < N
abbrev pub some_before : QueryTree → ℕ → QueryTree
some_before r n = QExists 0 (codes "x") r (QCompare 30 sign.Lt (one_label 25 (named 23 (codes "x")) (codes "year")) (number 32 n))

-- select distinct struct(p: p.first, q: p.ssn, r: p.last).q from p in Persons
abbrev pub picked : QueryTree
picked =
    QSelect 0
    (one_label 56 (QStruct 16 (QField (codes "p") 23 (one_label 28 (named 26 (codes "p")) (codes "first"))
    (QField (codes "q") 35 (one_label 40 (named 38 (codes "p")) (codes "ssn"))
    (QField (codes "r") 45 (one_label 50 (named 48 (codes "p")) (codes "last")) NoFields)))) (codes "q"))
    (one_range (codes "p") 63 (named 68 (codes "Persons"))) NoWhere

-- select distinct struct(l: p.last, s: p.ssn) from p in Persons
abbrev pub two_fields : QueryTree
two_fields =
    QSelect 0
    (QStruct 16 (QField (codes "l") 23 (one_label 28 (named 26 (codes "p")) (codes "last")) (QField (codes "s") 34 (one_label 39 (named 37 (codes "p")) (codes "ssn")) NoFields)))
    (one_range (codes "p") 49 (named 54 (codes "Persons"))) NoWhere

-- struct(only: 7)
abbrev pub one_field : QueryTree
one_field = QStruct 0 (QField (codes "only") 7 (number 13 7) NoFields)
