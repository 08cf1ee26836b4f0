-- The spelling of queries, computed.
use Rattle.std.proofs.Common.{◌≡◌, pos, negsuc, [], ◌∷◌, true, false, refl, codes}
use Rattle.std.specs.Fmt.{digits}
use Rattle.oql_tree.specs.QueryTrees.{LitInt, LitStr, LitBool, QueryTree, QName, QLiteral, QSetOf, QPath, QStruct, QFlatten, QSomeMember, QNot, QIntersect, QAnd, QOr, QUnionExcept, QCompare, QExists, QForAll, QSelect, NoLinks, Link, NoSets, SetLink, NoFields, QField, NoRanges, QRange, NoWhere, Where}
use Rattle.oql_print.specs.QuerySpelling.{query_spelling}
use Rattle.oql_tree.specs.declared.query.Sign.TheVariants as sign

a : QueryTree
a = QName 1 (codes "a")

b : QueryTree
b = QName 2 (codes "b")

c : QueryTree
c = QName 3 (codes "c")

-- exists x in S : p
some_x : QueryTree
some_x = QExists 4 (codes "x") (QName 5 (codes "S")) (QName 6 (codes "p"))

-- select distinct y from y in T
all_y : QueryTree
all_y = QSelect 7 (QName 8 (codes "y")) (QRange (codes "y") 9 (QName 10 (codes "T")) NoRanges) NoWhere

a_condition : query_spelling (QSelect 1 (QPath 20 (QName 18 (codes "X")) ((codes "a", 20) ∷ [])) (QRange (codes "X") 33 (QName 28 (codes "E")) NoRanges) (Where 35 (QNot 41 (QOr 53 (QCompare 48 sign.Member (QName 46 (codes "X")) (QName 51 (codes "F"))) (Link 53 (QCompare 58 sign.Eq (QName 56 (codes "G")) (QName 60 (codes "H"))) NoLinks)))))
    ≡ codes "select distinct X.a from X in E where not (X in F or G = H)"
a_condition = refl

or_in_and : query_spelling (QAnd 1 (QOr 2 a (Link 3 b NoLinks)) (Link 4 c (Link 5 (QNot 6 b) NoLinks))) ≡ codes "(a or b) and c and not b"
unfolding a b c
or_in_and = refl

and_in_or : query_spelling (QOr 1 (QAnd 2 a (Link 3 b NoLinks)) (Link 4 c NoLinks)) ≡ codes "a and b or c"
unfolding a b c
and_in_or = refl

and_in_and : query_spelling (QAnd 1 (QAnd 2 a (Link 3 b NoLinks)) (Link 4 (QAnd 5 b (Link 6 c NoLinks)) NoLinks)) ≡ codes "(a and b) and (b and c)"
unfolding a b c
and_in_and = refl

-- a quantifier is bare as the last operand alone
quantifiers_in_and : query_spelling (QAnd 1 some_x (Link 2 some_x NoLinks)) ≡ codes "(exists x in S : p) and exists x in S : p"
unfolding some_x
quantifiers_in_and = refl

not_before_quantifiers : query_spelling (QOr 1 (QNot 2 some_x) (Link 3 (QNot 4 (QNot 5 some_x)) NoLinks)) ≡ codes "not (exists x in S : p) or not not exists x in S : p"
unfolding some_x
not_before_quantifiers = refl

-- the chain of `and` stands bare in that of `or`, and its end is open only at the end of the latter
chains_that_end_in_quantifiers : query_spelling (QOr 1 (QAnd 2 a (Link 3 some_x NoLinks)) (Link 4 (QAnd 5 b (Link 6 some_x NoLinks)) NoLinks))
    ≡ codes "a and (exists x in S : p) or b and exists x in S : p"
unfolding a b some_x
chains_that_end_in_quantifiers = refl

a_quantifier_in_a_comparison : query_spelling (QCompare 1 sign.Ne some_x (QCompare 2 sign.Le a b)) ≡ codes "(exists x in S : p) != (a <= b)"
unfolding a b some_x
a_quantifier_in_a_comparison = refl

-- selects are bare in bodies, heads, conditions, and the parentheses of a query
selects_where_all_may_stand : query_spelling (QSelect 1 all_y (QRange (codes "z") 2 all_y (QRange (codes "w") 3 (QFlatten 4 all_y) NoRanges)) (Where 5 (QForAll 6 (codes "v") (QSomeMember 7 all_y) all_y)))
    ≡ codes "select distinct select distinct y from y in T from z in (select distinct y from y in T), w in flatten(select distinct y from y in T) where for all v in exists(select distinct y from y in T) : select distinct y from y in T"
unfolding all_y
selects_where_all_may_stand = refl

a_select_as_an_operand : query_spelling (QUnionExcept 1 all_y (SetLink 2 true a (SetLink 3 false all_y NoSets))) ≡ codes "(select distinct y from y in T) except a union (select distinct y from y in T)"
unfolding a all_y
a_select_as_an_operand = refl

sets_in_sets : query_spelling (QIntersect 1 (QUnionExcept 2 a (SetLink 3 false b NoSets)) (Link 4 (QIntersect 5 b (Link 6 c NoLinks)) (Link 7 (QPath 8 a ((codes "b", 9) ∷ [])) NoLinks)))
    ≡ codes "(a union b) intersect (b intersect c) intersect a.b"
unfolding a b c
sets_in_sets = refl

meet_in_union : query_spelling (QUnionExcept 1 (QIntersect 2 a (Link 3 b NoLinks)) (SetLink 4 true (QUnionExcept 5 b (SetLink 6 false c NoSets)) NoSets)) ≡ codes "a intersect b except (b union c)"
unfolding a b c
meet_in_union = refl

a_struct : query_spelling (QStruct 1 (QField (codes "select") 2 all_y (QField (codes "n") 3 (QLiteral 4 (LitInt (negsuc 11))) (QField (codes "s") 5 (QLiteral 6 (LitStr (codes "a\"b"))) NoFields))))
    ≡ codes "struct(select: select distinct y from y in T, n: -12, s: \"a\\\"b\")"
unfolding digits all_y
a_struct = refl

paths_in_paths : query_spelling (QPath 1 (QPath 2 a ((codes "b", 3) ∷ (codes "c", 4) ∷ [])) ((codes "in", 5) ∷ [])) ≡ codes "(a.b.c).in"
unfolding a
paths_in_paths = refl

literals_in_their_order : query_spelling (QPath 1 (QSetOf 2 ((LitInt (pos 20), 3) ∷ (LitStr (codes "x"), 4) ∷ (LitBool true, 5) ∷ (LitInt (pos 3), 6) ∷ [])) ((codes "size", 7) ∷ [])) ≡ codes "set(20, \"x\", true, 3).size"
unfolding digits
literals_in_their_order = refl
