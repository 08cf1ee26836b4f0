-- The definitions at values that can be computed by hand.
use Rattle.std.proofs.Common.{◌≡◌, pos, negsuc, true, false, [], ◌∷◌, codes, refl}
use Rattle.std.specs.declared.cmp.Ordering.TheVariants.{Less, Equal, Greater}
use Rattle.kola_values.specs.Values.{ValueTree, VUnit, VInt, VBool, VStr, VObj, VPair, VStruct, VSet, VNone, VMore, VEnd, VField, of_items}
use Rattle.kola_values.specs.Types.{TInt, TBool, TClass, TVar, TSet, TPair, TStruct, TEnd, TField, same_type, type_nodes}
use Rattle.kola_values.specs.Order.{cmp, same}
use Rattle.kola_values.specs.Sets.{canon, any, has, set_of}
use Rattle.kola_values.specs.Merging.{merged}

abbrev one : ValueTree
one = VInt (pos 1)

abbrev two : ValueTree
two = VInt (pos 2)

abbrev three : ValueTree
three = VInt (pos 3)

-- ---- the order

unit_before_integers : cmp VUnit (VInt (negsuc 99)) ≡ Less
unit_before_integers = refl

integers_before_truth : cmp (VInt (pos 7)) (VBool false) ≡ Less
integers_before_truth = refl

truth_before_strings : cmp (VBool true) (VStr []) ≡ Less
truth_before_strings = refl

strings_before_objects : cmp (VStr (codes "z")) (VObj (codes "A") 1) ≡ Less
strings_before_objects = refl

objects_before_pairs : cmp (VObj (codes "Z") 9) (VPair one one) ≡ Less
objects_before_pairs = refl

pairs_before_structs : cmp (VPair three three) (VStruct VEnd) ≡ Less
pairs_before_structs = refl

structs_before_sets : cmp (VStruct (VField (codes "z") three VEnd)) (VSet VNone) ≡ Less
structs_before_sets = refl

negative_before_positive : cmp (VInt (negsuc 4)) (VInt (pos 0)) ≡ Less
negative_before_positive = refl

false_before_true : cmp (VBool false) (VBool true) ≡ Less
false_before_true = refl

strings_by_bytes : cmp (VStr (codes "Zoe")) (VStr (codes "ann")) ≡ Less
strings_by_bytes = refl

a_front_of_a_string_first : cmp (VStr (codes "an")) (VStr (codes "ann")) ≡ Less
a_front_of_a_string_first = refl

objects_by_class : cmp (VObj (codes "Person") 9) (VObj (codes "Vehicle") 1) ≡ Less
objects_by_class = refl

objects_of_a_class_by_id : cmp (VObj (codes "Person") 9) (VObj (codes "Person") 10) ≡ Less
objects_of_a_class_by_id = refl

pairs_by_first_part : cmp (VPair one three) (VPair two one) ≡ Less
pairs_by_first_part = refl

pairs_by_second_part : cmp (VPair two three) (VPair two one) ≡ Greater
pairs_by_second_part = refl

structs_by_label : cmp (VStruct (VField (codes "a") three VEnd)) (VStruct (VField (codes "b") one VEnd)) ≡ Less
structs_by_label = refl

structs_by_value : cmp (VStruct (VField (codes "a") three VEnd)) (VStruct (VField (codes "a") one (VField (codes "b") one VEnd))) ≡ Greater
structs_by_value = refl

sets_by_members : cmp (VSet (of_items (one ∷ three ∷ []))) (VSet (of_items (two ∷ []))) ≡ Less
sets_by_members = refl

a_front_of_a_set_first : cmp (VSet (of_items (one ∷ []))) (VSet (of_items (one ∷ two ∷ []))) ≡ Less
a_front_of_a_set_first = refl

equal_sets : cmp (VSet (of_items (one ∷ two ∷ []))) (VSet (of_items (one ∷ two ∷ []))) ≡ Equal
equal_sets = refl

-- ---- sets

in_order_once : canon (three ∷ one ∷ three ∷ []) ≡ one ∷ three ∷ []
in_order_once = refl

set_of_three : set_of (two ∷ three ∷ one ∷ two ∷ []) ≡ VSet (VMore one (VMore two (VMore three VNone)))
unfolding set_of
set_of_three = refl

is_member : has two (one ∷ two ∷ []) ≡ true
unfolding any same
is_member = refl

is_no_member : has (VBool true) (one ∷ two ∷ []) ≡ false
unfolding any same
is_no_member = refl

taken_from_either : merged true true true (one ∷ two ∷ []) (two ∷ three ∷ []) ≡ one ∷ two ∷ three ∷ []
unfolding any same
taken_from_either = refl

taken_from_both : merged false true false (one ∷ two ∷ []) (two ∷ three ∷ []) ≡ two ∷ []
unfolding any same
taken_from_both = refl

taken_from_the_first_alone : merged true false false (one ∷ two ∷ []) (two ∷ three ∷ []) ≡ one ∷ []
unfolding any same
taken_from_the_first_alone = refl

-- ---- types

same_structs : same_type (TStruct (TField (codes "a") TInt TEnd)) (TStruct (TField (codes "a") TInt TEnd)) ≡ true
same_structs = refl

other_labels : same_type (TStruct (TField (codes "a") TInt TEnd)) (TStruct (TField (codes "b") TInt TEnd)) ≡ false
other_labels = refl

class_and_variable : same_type (TClass (codes "a")) (TVar (codes "a")) ≡ false
class_and_variable = refl

nodes_of_a_type : type_nodes (TPair (TSet (TClass (codes "Person"))) (TStruct (TField (codes "a") TBool (TField (codes "b") TInt TEnd)))) ≡ 6
nodes_of_a_type = refl
