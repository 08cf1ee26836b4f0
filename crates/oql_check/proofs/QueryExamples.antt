-- Queries over the sample schema, each with its text above it.
use Rattle.std.proofs.Common.{ℕ, zero, suc, pos, true, List, [], ◌∷◌, codes}
use Rattle.oql_tree.specs.QueryTrees.{LitInt, LitStr, QueryTree, QName, QLiteral, QSetOf, QPath, QStruct, QUnionExcept, QCompare, QExists, QForAll, QSelect, NoSets, SetLink, QueryFields, NoFields, QField, QueryRanges, NoRanges, QRange, NoWhere, Where}
use Rattle.oql_tree.specs.declared.query.Sign.TheVariants as sign

abbrev pub named : ℕ → List ℕ → QueryTree
named at x = QName at x

abbrev pub number : ℕ → ℕ → QueryTree
number at n = QLiteral at (LitInt (pos n))

abbrev pub text : ℕ → List ℕ → QueryTree
text at s = QLiteral at (LitStr s)

abbrev pub one_label : ℕ → QueryTree → List ℕ → QueryTree
one_label at e l = QPath at e ((l, at) ∷ [])

abbrev pub one_range : List ℕ → ℕ → QueryTree → QueryRanges
one_range x at r = QRange x at r NoRanges

-- set(3, 1, 2, 3), with its first number at this place
abbrev pub numbers : ℕ → QueryTree
numbers at = QSetOf at ((LitInt (pos 3), 4) ∷ (LitInt (pos 1), 7) ∷ (LitInt (pos 2), 10) ∷ (LitInt (pos 3), 13) ∷ [])

abbrev pub ones : ℕ → QueryTree
ones at = QSetOf at ((LitInt (pos 1), at) ∷ [])

-- select distinct x from x in set(3, 1, 2, 3) where x < 3
abbrev pub below_three : QueryTree
below_three = QSelect 0 (named 16 (codes "x")) (one_range (codes "x") 23 (numbers 28)) (Where 44 (QCompare 52 sign.Lt (named 50 (codes "x")) (number 54 3)))

-- select distinct (select distinct x from x in x.cars) from x in Persons
abbrev pub shadowed : QueryTree
shadowed =
    QSelect 0 (QSelect 17 (named 33 (codes "x")) (one_range (codes "x") 40 (one_label 47 (named 45 (codes "x")) (codes "cars"))) NoWhere)
    (one_range (codes "x") 58 (named 63 (codes "Persons"))) NoWhere

-- select distinct Persons from Persons in Vehicles
abbrev pub hidden_extent : QueryTree
hidden_extent = QSelect 0 (named 16 (codes "Persons")) (one_range (codes "Persons") 29 (named 40 (codes "Vehicles"))) NoWhere

-- select distinct struct(v: v, owners: (select distinct p from p in Persons where v in p.cars)) from v in Vehicles
abbrev pub owners : QueryTree
owners =
    QSelect 0
    (QStruct 16 (QField (codes "v") 23 (named 26 (codes "v"))
    (QField (codes "owners") 29
    (QSelect 38 (named 54 (codes "p")) (one_range (codes "p") 61 (named 66 (codes "Persons"))) (Where 74 (QCompare 82 sign.Member (named 80 (codes "v")) (one_label 87 (named 85 (codes "p")) (codes "cars")))))
    NoFields)))
    (one_range (codes "v") 99 (named 104 (codes "Vehicles"))) NoWhere

-- select distinct c.year from p in Persons, c in p.cars
abbrev pub years : QueryTree
years =
    QSelect 0 (one_label 18 (named 16 (codes "c")) (codes "year"))
    (QRange (codes "p") 28 (named 33 (codes "Persons")) (one_range (codes "c") 42 (one_label 49 (named 47 (codes "p")) (codes "cars")))) NoWhere

-- Vehicles except Vehicles
abbrev pub no_vehicles : ℕ → QueryTree
no_vehicles at = QUnionExcept at (named 0 (codes "Vehicles")) (SetLink at true (named 0 (codes "Vehicles")) NoSets)

-- for all x in Vehicles except Vehicles : x.year < 0
abbrev pub all_of_none : QueryTree
all_of_none = QForAll 0 (codes "x") (no_vehicles 22) (QCompare 47 sign.Lt (one_label 42 (named 40 (codes "x")) (codes "year")) (number 49 0))

-- exists x in R : x.year < N
abbrev pub some_before : QueryTree → ℕ → QueryTree
some_before r n = QExists 0 (codes "x") r (QCompare 30 sign.Lt (one_label 25 (named 23 (codes "x")) (codes "year")) (number 32 n))

-- for all x in Vehicles : x.year < N
abbrev pub all_before : ℕ → QueryTree
all_before n = QForAll 0 (codes "x") (named 13 (codes "Vehicles")) (QCompare 31 sign.Lt (one_label 26 (named 24 (codes "x")) (codes "year")) (number 33 n))

-- select distinct struct(p: p.first, q: p.ssn, r: p.last).q from p in Persons
abbrev pub picked : QueryTree
picked =
    QSelect 0
    (one_label 56 (QStruct 16 (QField (codes "p") 23 (one_label 28 (named 26 (codes "p")) (codes "first"))
    (QField (codes "q") 35 (one_label 40 (named 38 (codes "p")) (codes "ssn"))
    (QField (codes "r") 45 (one_label 50 (named 48 (codes "p")) (codes "last")) NoFields)))) (codes "q"))
    (one_range (codes "p") 63 (named 68 (codes "Persons"))) NoWhere

-- select distinct struct(l: p.last, s: p.ssn) from p in Persons
abbrev pub two_fields : QueryTree
two_fields =
    QSelect 0
    (QStruct 16 (QField (codes "l") 23 (one_label 28 (named 26 (codes "p")) (codes "last")) (QField (codes "s") 34 (one_label 39 (named 37 (codes "p")) (codes "ssn")) NoFields)))
    (one_range (codes "p") 49 (named 54 (codes "Persons"))) NoWhere

-- select distinct x from x in set(9223372036854775807)
abbrev pub greatest : QueryTree
greatest = QSelect 0 (named 16 (codes "x")) (one_range (codes "x") 23 (QSetOf 28 ((LitInt (pos 9223372036854775807), 32) ∷ []))) NoWhere

-- select distinct x.wheels from x in Persons
abbrev pub wheels : QueryTree
wheels = QSelect 0 (one_label 18 (named 16 (codes "x")) (codes "wheels")) (one_range (codes "x") 30 (named 35 (codes "Persons"))) NoWhere

-- select distinct struct(a: 1, a: 2) from x in set(1)
abbrev pub repeated : QueryTree
repeated = QSelect 0 (QStruct 16 (QField (codes "a") 23 (number 26 1) (QField (codes "a") 29 (number 32 2) NoFields))) (one_range (codes "x") 40 (ones 45)) NoWhere

-- select distinct struct(a: x, b: y) from x in set(3, 1, 2, 3), y in set(3, 1, 2, 3) where y < x
abbrev pub falling : QueryTree
falling =
    QSelect 0 (QStruct 16 (QField (codes "a") 23 (named 26 (codes "x")) (QField (codes "b") 29 (named 32 (codes "y")) NoFields)))
    (QRange (codes "x") 40 (numbers 45) (one_range (codes "y") 62 (numbers 67))) (Where 83 (QCompare 91 sign.Lt (named 89 (codes "y")) (named 93 (codes "x"))))

-- struct(only: 7)
abbrev pub one_field : QueryTree
one_field = QStruct 0 (QField (codes "only") 7 (number 13 7) NoFields)

-- struct(a: 1, b: 2, .., more fields), each label at ten times its number
abbrev pub eight_fields_and : QueryFields → QueryTree
eight_fields_and fs =
    QStruct 0 (QField (codes "a") 10 (number 1 1) (QField (codes "b") 20 (number 1 2) (QField (codes "c") 30 (number 1 3) (QField (codes "d") 40 (number 1 4)
    (QField (codes "e") 50 (number 1 5) (QField (codes "f") 60 (number 1 6) (QField (codes "g") 70 (number 1 7) (QField (codes "h") 80 (number 1 8) fs))))))))

-- struct(a: E, b: E) in itself, n times round a number
abbrev pub doubled : ℕ → QueryTree
doubled zero = number 9 1
doubled (suc n) = QStruct n (QField (codes "a") 7 (doubled n) (QField (codes "b") 8 (doubled n) NoFields))
