-- The values of queries over the sample database, computed.
use Rattle.std.proofs.Common.{◌≡◌, ℕ, pos, true, false, List, [], ◌∷◌, refl, codes}
use Rattle.kola_values.specs.Values.{ValueTree, VInt, VStr, VBool, VObj, VStruct, VSet, VEnd, VField, of_items}
use Rattle.kola_values.specs.Order.{same}
use Rattle.kola_values.specs.Sets.{any, all, set_of}
use Rattle.kola_term.proofs.Sample.{sample_schema, sample_database}
use Rattle.oql_tree.specs.QueryTrees.{LitBool, QueryTree, QLiteral, QFlatten, QSomeMember, QNot, QIntersect, QAnd, QOr, QUnionExcept, QCompare, QSelect, NoLinks, Link, NoSets, SetLink, QRange, NoWhere}
use Rattle.oql_tree.specs.declared.query.Sign.TheVariants as sign
use Rattle.oql_check.specs.QueryMeaning.{mean}
use Rattle.oql_check.proofs.QueryExamples.{named, number, one_label, one_range, numbers, ones, below_three, shadowed, hidden_extent, owners, years, no_vehicles, all_of_none, some_before, all_before, picked, two_fields, greatest, falling, one_field}

abbrev Means : QueryTree → ValueTree → Type 0
Means e v = mean sample_schema sample_database e [] ≡ v

abbrev person : ℕ → ValueTree
person i = VObj (codes "Person") i

abbrev vehicle : ℕ → ValueTree
vehicle i = VObj (codes "Vehicle") i

abbrev set : List ValueTree → ValueTree
set vs = VSet (of_items vs)

abbrev int : ℕ → ValueTree
int n = VInt (pos n)

below : Means below_three (set (int 1 ∷ int 2 ∷ []))
unfolding same any all set_of
below = refl

the_inner_name : Means shadowed (set (set (vehicle 1 ∷ []) ∷ []))
unfolding same any all set_of
the_inner_name = refl

a_variable_before_an_extent : Means hidden_extent (set (vehicle 1 ∷ vehicle 2 ∷ []))
unfolding same any all set_of
a_variable_before_an_extent = refl

a_select_in_a_struct :
    Means owners (set (
    VStruct (VField (codes "v") (vehicle 1) (VField (codes "owners") (set (person 1 ∷ person 2 ∷ [])) VEnd))
    ∷ VStruct (VField (codes "v") (vehicle 2) (VField (codes "owners") (set []) VEnd)) ∷ []))
unfolding same any all set_of
a_select_in_a_struct = refl

two_ranges : Means years (set (int 1990 ∷ []))
unfolding same any all set_of
two_ranges = refl

all_of_no_member : Means all_of_none (VBool true)
unfolding same any all set_of
all_of_no_member = refl

none_of_no_member : Means (some_before (no_vehicles 21) 3000) (VBool false)
unfolding same any all set_of
none_of_no_member = refl

some_of_two : Means (some_before (named 12 (codes "Vehicles")) 2000) (VBool true)
unfolding same any all set_of
some_of_two = refl

not_all_of_two : Means (all_before 2000) (VBool false)
unfolding same any all set_of
not_all_of_two = refl

all_of_two : Means (all_before 2002) (VBool true)
unfolding same any all set_of
all_of_two = refl

no_member : Means (QSomeMember 0 (no_vehicles 16)) (VBool false)
unfolding same any all set_of
no_member = refl

some_member : Means (QSomeMember 0 (named 7 (codes "Persons"))) (VBool true)
unfolding same any all set_of
some_member = refl

a_field : Means picked (set (VStr (codes "a") ∷ VStr (codes "b") ∷ []))
unfolding same any all set_of
a_field = refl

fields :
    Means two_fields (set (
    VStruct (VField (codes "l") (VStr (codes "Lee")) (VField (codes "s") (VStr (codes "a")) VEnd))
    ∷ VStruct (VField (codes "l") (VStr (codes "Lee")) (VField (codes "s") (VStr (codes "b")) VEnd)) ∷ []))
unfolding same any all set_of
fields = refl

numbers_of_64_bits : Means greatest (set (int 9223372036854775807 ∷ []))
unfolding same any all set_of
numbers_of_64_bits = refl

pair : ℕ → ℕ → ValueTree
pair m n = VStruct (VField (codes "a") (int m) (VField (codes "b") (int n) VEnd))

a_condition_behind_two_ranges : Means falling (set (pair 2 1 ∷ pair 3 1 ∷ pair 3 2 ∷ []))
unfolding same any all set_of pair
a_condition_behind_two_ranges = refl

a_struct_of_one : Means one_field (VStruct (VField (codes "only") (int 7) VEnd))
a_struct_of_one = refl

-- select distinct x from x in set(1), x in set(3, 1, 2, 3): the later of two equal names
the_later_variable : Means (QSelect 0 (named 16 (codes "x")) (QRange (codes "x") 23 (ones 28) (one_range (codes "x") 36 (numbers 41))) NoWhere) (set (int 1 ∷ int 2 ∷ int 3 ∷ []))
unfolding same any all set_of
the_later_variable = refl

-- set(3, 1, 2, 3) except set(1) union set(1) intersect set(3, 1, 2, 3)
sets : Means (QUnionExcept 16 (numbers 4) (SetLink 16 true (ones 27) (SetLink 30 false (QIntersect 43 (ones 40) (Link 43 (numbers 57) NoLinks)) NoSets))) (set (int 1 ∷ int 2 ∷ int 3 ∷ []))
unfolding same any all set_of
sets = refl

a_difference : Means (QUnionExcept 16 (numbers 4) (SetLink 16 true (ones 27) NoSets)) (set (int 2 ∷ int 3 ∷ []))
unfolding same any all set_of
a_difference = refl

-- true and false or not false
truths : Means (QOr 15 (QAnd 5 (QLiteral 0 (LitBool true)) (Link 5 (QLiteral 9 (LitBool false)) NoLinks)) (Link 15 (QNot 18 (QLiteral 22 (LitBool false))) NoLinks)) (VBool true)
truths = refl

a_union_of_the_cars : Means (QFlatten 0 (QSelect 8 (one_label 26 (named 24 (codes "x")) (codes "cars")) (one_range (codes "x") 36 (named 41 (codes "Persons"))) NoWhere)) (set (vehicle 1 ∷ []))
unfolding same any all set_of
a_union_of_the_cars = refl

greater : Means (QCompare 2 sign.Gt (number 0 2) (number 4 1)) (VBool true)
unfolding same
greater = refl

not_greater : Means (QCompare 2 sign.Gt (number 0 2) (number 4 2)) (VBool false)
unfolding same
not_greater = refl

at_least : Means (QCompare 2 sign.Ge (number 0 2) (number 5 2)) (VBool true)
unfolding same
at_least = refl

unequal : Means (QCompare 2 sign.Ne (number 0 2) (number 5 2)) (VBool false)
unfolding same
unequal = refl

a_member : Means (QCompare 2 sign.Member (number 0 2) (numbers 5)) (VBool true)
unfolding same any set_of
a_member = refl

not_a_member : Means (QCompare 2 sign.Member (number 0 4) (numbers 5)) (VBool false)
unfolding same any set_of
not_a_member = refl
