-- The encoding at values and types that can be computed by hand.
use Rattle.std.proofs.Common.{◌≡◌, pos, true, [], ◌∷◌, codes, refl}
use Rattle.kola_values.specs.Values.{ValueTree, VInt, VBool, VStr, VPair, VStruct, VSet, VEnd, VField, of_items}
use Rattle.kola_values.specs.Types.{TypeTree, TInt, TStr, TBool, TSet, TPair, TStruct, TEnd, TField}
use Rattle.kola_canon.specs.Encoding.{enc, enc_type, dec}

abbrev one : ValueTree
one = VInt (pos 1)

abbrev two : ValueTree
two = VInt (pos 2)

abbrev three : ValueTree
three = VInt (pos 3)

abbrev only : ValueTree → ValueTree
only v = VStruct (VField (codes "a") v VEnd)

abbrev both : ValueTree → ValueTree → ValueTree
both v w = VStruct (VField (codes "a") v (VField (codes "b") w VEnd))

abbrev type_of_both : TypeTree
type_of_both = TStruct (TField (codes "a") TInt (TField (codes "b") TStr TEnd))

-- ---- values

a_struct_of_one_field_as_the_field : enc (only one) ≡ one
a_struct_of_one_field_as_the_field = refl

a_struct_of_two_fields_as_a_pair : enc (both one two) ≡ VPair one two
a_struct_of_two_fields_as_a_pair = refl

a_struct_of_three_fields_nests_to_the_right : enc (VStruct (VField (codes "a") one (VField (codes "b") two (VField (codes "c") three VEnd)))) ≡ VPair one (VPair two three)
a_struct_of_three_fields_nests_to_the_right = refl

labels_are_lost : enc (both one two) ≡ enc (VStruct (VField (codes "x") one (VField (codes "y") two VEnd)))
labels_are_lost = refl

a_struct_in_a_struct : enc (both (both one two) three) ≡ VPair (VPair one two) three
a_struct_in_a_struct = refl

a_struct_in_a_pair : enc (VPair one (only (both two three))) ≡ VPair one (VPair two three)
a_struct_in_a_pair = refl

a_set_of_structs : enc (VSet (of_items (both one two ∷ both one three ∷ []))) ≡ VSet (of_items (VPair one two ∷ VPair one three ∷ []))
a_set_of_structs = refl

a_set_in_a_struct : enc (only (VSet (of_items (only one ∷ only two ∷ [])))) ≡ VSet (of_items (one ∷ two ∷ []))
a_set_in_a_struct = refl

others_stand_as_they_are : enc (VPair (VBool true) (VStr (codes "x"))) ≡ VPair (VBool true) (VStr (codes "x"))
others_stand_as_they_are = refl

-- ---- types

a_type_of_one_field : enc_type (TStruct (TField (codes "a") TInt TEnd)) ≡ TInt
a_type_of_one_field = refl

a_type_of_two_fields : enc_type type_of_both ≡ TPair TInt TStr
a_type_of_two_fields = refl

a_type_of_three_fields : enc_type (TStruct (TField (codes "a") TInt (TField (codes "b") TStr (TField (codes "c") TBool TEnd)))) ≡ TPair TInt (TPair TStr TBool)
a_type_of_three_fields = refl

a_type_of_a_set_of_structs : enc_type (TSet type_of_both) ≡ TSet (TPair TInt TStr)
a_type_of_a_set_of_structs = refl

-- ---- and back

a_pair_as_a_struct : dec type_of_both (VPair one (VStr (codes "x"))) ≡ both one (VStr (codes "x"))
a_pair_as_a_struct = refl

a_pair_stays_a_pair : dec (TPair TInt TInt) (VPair one two) ≡ VPair one two
a_pair_stays_a_pair = refl

a_set_of_pairs_as_one_of_structs : dec (TSet type_of_both) (VSet (of_items (VPair one (VStr (codes "x")) ∷ []))) ≡ VSet (of_items (both one (VStr (codes "x")) ∷ []))
a_set_of_pairs_as_one_of_structs = refl
