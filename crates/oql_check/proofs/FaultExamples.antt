-- First faults of queries over the sample schema, computed: each cause with its place, and queries of two faults of which the order tells the first.
use Rattle.std.proofs.Common.{ℕ, pos, true, false, [], ◌∷◌, refl, codes}
use Rattle.kola_term.proofs.Sample.{sample_schema}
use Rattle.oql_tree.specs.QueryTrees.{LitInt, LitStr, LitBool, QueryTree, QLiteral, QSetOf, QStruct, QFlatten, QSomeMember, QNot, QAnd, QUnionExcept, QCompare, QExists, QForAll, QSelect, NoLinks, Link, NoSets, SetLink, NoFields, QField, NoRanges, QRange, NoWhere, Where}
use Rattle.oql_tree.specs.declared.query.Sign.TheVariants as sign
use Rattle.oql_check.specs.declared.fault.CheckWhy.{CheckWhy}
use Rattle.oql_check.specs.declared.fault.CheckWhy.TheVariants as why
use Rattle.oql_check.specs.Limits.{small}
use Rattle.oql_check.specs.QueryTypes.{FirstFault}
use Rattle.oql_check.proofs.QueryExamples.{named, number, text, one_label, one_range, ones, wheels, repeated, eight_fields_and}

abbrev First : QueryTree → ℕ → CheckWhy → Type 0
First e at c = FirstFault sample_schema [] e at c

abbrev dogs : ℕ → QueryTree
dogs at = named at (codes "Dogs")

abbrev yes : ℕ → QueryTree
yes at = QLiteral at (LitBool true)

-- ---- one for each cause

unknown_name : First (dogs 3) 3 why.UnknownName
unknown_name = refl

no_attribute : First wheels 18 why.NoSuchAttribute
unfolding small
no_attribute = refl

no_object : First (one_label 2 (number 0 1) (codes "year")) 2 why.NoSuchAttribute
no_object = refl

no_field : First (one_label 15 (QStruct 0 (QField (codes "a") 7 (number 10 1) NoFields)) (codes "b")) 15 why.NoSuchAttribute
unfolding small
no_field = refl

a_range_of_no_set : First (QSelect 0 (named 16 (codes "x")) (one_range (codes "x") 23 (number 28 1)) NoWhere) 23 why.NotASet
a_range_of_no_set = refl

a_quantifier_over_no_set : First (QExists 5 (codes "x") (number 17 1) (yes 21)) 5 why.NotASet
a_quantifier_over_no_set = refl

a_union_with_no_set : First (QUnionExcept 8 (named 0 (codes "Persons")) (SetLink 8 false (number 14 1) NoSets)) 8 why.NotASet
a_union_with_no_set = refl

a_member_of_no_set : First (QCompare 2 sign.Member (number 0 1) (number 5 2)) 2 why.NotASet
a_member_of_no_set = refl

a_member_of_an_object : First (QSomeMember 6 (number 13 1)) 6 why.NotASet
a_member_of_an_object = refl

flat_objects : First (QFlatten 4 (named 12 (codes "Persons"))) 4 why.NotASet
flat_objects = refl

an_and_of_a_number : First (QAnd 5 (yes 0) (Link 5 (number 9 1) NoLinks)) 5 why.NotBool
an_and_of_a_number = refl

a_not_of_a_number : First (QNot 2 (number 6 1)) 2 why.NotBool
a_not_of_a_number = refl

a_condition_of_a_number : First (QSelect 0 (named 16 (codes "x")) (one_range (codes "x") 23 (ones 28)) (Where 35 (named 41 (codes "x")))) 35 why.NotBool
a_condition_of_a_number = refl

a_body_of_a_number : First (QForAll 1 (codes "x") (ones 14) (named 23 (codes "x"))) 1 why.NotBool
a_body_of_a_number = refl

literals_of_two_types : First (QSetOf 0 ((LitInt (pos 1), 4) ∷ (LitInt (pos 2), 7) ∷ (LitStr (codes "a"), 10) ∷ (LitBool true, 15) ∷ [])) 10 why.TypesDiffer
literals_of_two_types = refl

sets_of_two_types : First (QUnionExcept 8 (named 0 (codes "Persons")) (SetLink 8 true (named 15 (codes "Vehicles")) NoSets)) 8 why.TypesDiffer
sets_of_two_types = refl

sides_of_two_types : First (QCompare 2 sign.Eq (number 0 1) (text 4 (codes "a"))) 2 why.TypesDiffer
sides_of_two_types = refl

a_member_of_another_type : First (QCompare 4 sign.Member (text 0 (codes "a")) (ones 7)) 4 why.TypesDiffer
a_member_of_another_type = refl

-- struct(a: 1, b: 2) = struct(b: 1, a: 2)
labels_in_another_order :
    First (QCompare 19 sign.Eq (QStruct 0 (QField (codes "a") 7 (number 10 1) (QField (codes "b") 13 (number 16 2) NoFields))) (QStruct 21 (QField (codes "b") 28 (number 31 1) (QField (codes "a") 34 (number 37 2) NoFields)))) 19 why.TypesDiffer
unfolding small
labels_in_another_order = refl

truths_in_order : First (QCompare 5 sign.Lt (yes 0) (yes 7)) 5 why.NotOrdered
truths_in_order = refl

a_label_twice : First repeated 29 why.RepeatedLabel
a_label_twice = refl

nine_fields : First (eight_fields_and (QField (codes "i") 90 (number 1 9) NoFields)) 90 why.TooManyFields
nine_fields = refl

-- ---- the order

-- 1 union Dogs: parts come before tests
a_part_before_the_test : First (QUnionExcept 2 (number 0 1) (SetLink 2 false (dogs 8) NoSets)) 8 why.UnknownName
a_part_before_the_test = refl

-- 1 and true and Dogs: a chain goes from the left
a_chain_from_the_left : First (QAnd 2 (number 0 1) (Link 2 (yes 6) (Link 11 (dogs 15) NoLinks))) 2 why.NotBool
a_chain_from_the_left = refl

-- true and 1 and 2: the first word whose sides are wrong
the_first_word : First (QAnd 5 (yes 0) (Link 5 (number 9 1) (Link 11 (number 15 2) NoLinks))) 5 why.NotBool
the_first_word = refl

the_second_word : First (QAnd 5 (yes 0) (Link 5 (yes 9) (Link 14 (number 18 2) NoLinks))) 14 why.NotBool
the_second_word = refl

-- select distinct x.wheels from x in Persons where 1
the_condition_before_the_head :
    First (QSelect 0 (one_label 18 (named 16 (codes "x")) (codes "wheels")) (one_range (codes "x") 30 (named 35 (codes "Persons"))) (Where 43 (number 49 1))) 43 why.NotBool
the_condition_before_the_head = refl

-- select distinct Dogs from x in 1 where Dogs
the_range_first : First (QSelect 0 (dogs 16) (one_range (codes "x") 26 (number 31 1)) (Where 33 (dogs 39))) 26 why.NotASet
the_range_first = refl

-- select distinct x from x in 1, y in Dogs
each_range_with_its_test : First (QSelect 0 (named 16 (codes "x")) (QRange (codes "x") 23 (number 28 1) (one_range (codes "y") 31 (dogs 36))) NoWhere) 23 why.NotASet
each_range_with_its_test = refl

-- select distinct x from x in x: the variable is not bound in its own range
no_variable_in_its_own_range : First (QSelect 0 (named 16 (codes "x")) (one_range (codes "x") 23 (named 28 (codes "x"))) NoWhere) 28 why.UnknownName
no_variable_in_its_own_range = refl

-- exists x in 1 : Dogs
the_range_before_the_body : First (QExists 0 (codes "x") (number 12 1) (dogs 16)) 0 why.NotASet
the_range_before_the_body = refl

-- struct(a: 1, a: Dogs)
the_label_before_its_expression : First (QStruct 0 (QField (codes "a") 7 (number 10 1) (QField (codes "a") 13 (dogs 16) NoFields))) 13 why.RepeatedLabel
the_label_before_its_expression = refl

-- struct(a: Dogs, a: 1)
the_earlier_expression_first : First (QStruct 0 (QField (codes "a") 7 (dogs 10) (QField (codes "a") 16 (number 19 1) NoFields))) 10 why.UnknownName
the_earlier_expression_first = refl

a_ninth_that_repeats : First (eight_fields_and (QField (codes "h") 90 (number 1 9) NoFields)) 90 why.RepeatedLabel
a_ninth_that_repeats = refl

the_ninth_before_its_expression : First (eight_fields_and (QField (codes "i") 90 (dogs 99) NoFields)) 90 why.TooManyFields
the_ninth_before_its_expression = refl

types_before_order : First (QCompare 5 sign.Le (yes 0) (number 8 1)) 5 why.TypesDiffer
types_before_order = refl

-- 1 union set(1): the test of a set before that of one type
a_set_before_one_type : First (QUnionExcept 2 (number 0 1) (SetLink 2 false (text 8 (codes "a")) NoSets)) 2 why.NotASet
a_set_before_one_type = refl

-- ---- forms that no text writes

a_set_of_none : First (QSetOf 4 []) 4 why.TypesDiffer
a_set_of_none = refl

a_struct_of_none : First (QStruct 4 NoFields) 4 why.TooManyFields
a_struct_of_none = refl

a_select_of_no_range : First (QSelect 4 (number 20 1) NoRanges NoWhere) 4 why.NotASet
a_select_of_no_range = refl
