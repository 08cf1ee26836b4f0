-- The types of queries over the sample schema, computed: one for each form.
use Rattle.std.proofs.Common.{◌≡◌, true, false, [], ◌∷◌, Ok, refl, codes}
use Rattle.kola_values.specs.Types.{TypeTree, TInt, TStr, TBool, TClass, TSet, TStruct, TEnd, TField}
use Rattle.kola_term.proofs.Sample.{sample_schema}
use Rattle.oql_tree.specs.QueryTrees.{LitBool, QueryTree, QLiteral, QPath, QStruct, QFlatten, QSomeMember, QNot, QIntersect, QAnd, QOr, QUnionExcept, QCompare, NoLinks, Link, NoSets, SetLink, NoFields, QField, QSelect, NoWhere}
use Rattle.oql_tree.specs.declared.query.Sign.TheVariants as sign
use Rattle.oql_check.specs.Limits.{small}
use Rattle.oql_check.specs.QueryTypes.{query_type}
use Rattle.oql_check.proofs.QueryExamples.{named, number, text, one_label, one_range, numbers, ones, below_three, shadowed, hidden_extent, owners, years, no_vehicles, all_of_none, some_before, picked, two_fields, greatest, falling, one_field, eight_fields_and}

abbrev HasType : QueryTree → TypeTree → Type 0
HasType e t = query_type sample_schema [] e ≡ Ok t

abbrev person : TypeTree
person = TClass (codes "Person")

abbrev vehicle : TypeTree
vehicle = TClass (codes "Vehicle")

below : HasType below_three (TSet TInt)
unfolding small
below = refl

the_inner_name : HasType shadowed (TSet (TSet vehicle))
unfolding small
the_inner_name = refl

a_variable_before_an_extent : HasType hidden_extent (TSet vehicle)
unfolding small
a_variable_before_an_extent = refl

a_select_in_a_struct : HasType owners (TSet (TStruct (TField (codes "v") vehicle (TField (codes "owners") (TSet person) TEnd))))
unfolding small
a_select_in_a_struct = refl

two_ranges : HasType years (TSet TInt)
unfolding small
two_ranges = refl

for_all : HasType all_of_none TBool
unfolding small
for_all = refl

exists : HasType (some_before (named 12 (codes "Vehicles")) 2000) TBool
unfolding small
exists = refl

some_member : HasType (QSomeMember 0 (no_vehicles 16)) TBool
some_member = refl

a_field : HasType picked (TSet TStr)
unfolding small
a_field = refl

fields : HasType two_fields (TSet (TStruct (TField (codes "l") TStr (TField (codes "s") TStr TEnd))))
unfolding small
fields = refl

numbers_of_64_bits : HasType greatest (TSet TInt)
unfolding small
numbers_of_64_bits = refl

a_condition_behind_two_ranges : HasType falling (TSet (TStruct (TField (codes "a") TInt (TField (codes "b") TInt TEnd))))
unfolding small
a_condition_behind_two_ranges = refl

a_struct_of_one : HasType one_field (TStruct (TField (codes "only") TInt TEnd))
unfolding small
a_struct_of_one = refl

a_struct_of_eight :
    HasType (eight_fields_and NoFields) (TStruct (TField (codes "a") TInt (TField (codes "b") TInt (TField (codes "c") TInt (TField (codes "d") TInt
    (TField (codes "e") TInt (TField (codes "f") TInt (TField (codes "g") TInt (TField (codes "h") TInt TEnd)))))))))
unfolding small
a_struct_of_eight = refl

-- Persons.. of the cars of each person, in one set: flatten(select distinct x.cars from x in Persons)
flat : HasType (QFlatten 0 (QSelect 8 (one_label 26 (named 24 (codes "x")) (codes "cars")) (one_range (codes "x") 36 (named 41 (codes "Persons"))) NoWhere)) (TSet vehicle)
unfolding small
flat = refl

a_chain_of_sets : HasType (QUnionExcept 8 (named 0 (codes "Persons")) (SetLink 8 false (named 14 (codes "Persons")) (SetLink 22 true (named 29 (codes "Persons")) NoSets))) (TSet person)
a_chain_of_sets = refl

an_intersection : HasType (QIntersect 7 (ones 4) (Link 7 (numbers 21) (Link 30 (ones 44) NoLinks))) (TSet TInt)
an_intersection = refl

-- true and false or not true
truths : HasType (QOr 15 (QAnd 5 (QLiteral 0 (LitBool true)) (Link 5 (QLiteral 9 (LitBool false)) NoLinks)) (Link 15 (QNot 18 (QLiteral 22 (LitBool true))) NoLinks)) TBool
truths = refl

equal_sets : HasType (QCompare 9 sign.Ne (named 0 (codes "Vehicles")) (named 12 (codes "Vehicles"))) TBool
equal_sets = refl

ordered_texts : HasType (QCompare 4 sign.Ge (text 0 (codes "a")) (text 7 (codes "b"))) TBool
ordered_texts = refl

a_member : HasType (QCompare 2 sign.Member (number 0 3) (numbers 5)) TBool
a_member = refl

-- struct(a: struct(b: Persons)).a.b
labels_in_turn :
    HasType (QPath 30 (QStruct 0 (QField (codes "a") 7 (QStruct 10 (QField (codes "b") 17 (named 20 (codes "Persons")) NoFields)) NoFields)) ((codes "a", 30) ∷ (codes "b", 32) ∷ []))
    (TSet person)
unfolding small
labels_in_turn = refl
