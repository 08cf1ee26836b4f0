-- What rises, what is well formed, and which values are of a type and of its shape, at values that can be read at a glance.
use Rattle.std.proofs.Common.{pos, negsuc, true, false, List, [], ◌∷◌, get_or, codes, refl, ap, arith}
use Rattle.kola_values.specs.Values.{ValueTree, VUnit, VInt, VBool, VStr, VObj, VPair, VStruct, VSet, VEnd, VField, of_items}
use Rattle.kola_values.specs.Types.{TInt, TStr, TBool, TUnit, TClass, TVar, TSet, TPair, TStruct, TEnd, TField}
use Rattle.kola_values.specs.Order.{same}
use Rattle.kola_values.specs.Sets.{Rising, any}
use Rattle.kola_values.specs.WellFormed.{WellFormed}
use Rattle.kola_values.specs.Databases.{Object, Objects, HasType}
use Rattle.kola_values.specs.Shapes.{Shaped}

abbrev one : ValueTree
one = VInt (pos 1)

abbrev two : ValueTree
two = VInt (pos 2)

abbrev set : List ValueTree → ValueTree
set vs = VSet (of_items vs)

-- ---- rising lists

no_value_rises : Rising []
no_value_rises = tt

two_values_rise : Rising (one ∷ two ∷ [])
two_values_rise = (refl, (tt, tt))

turned_round_they_do_not : Rising (two ∷ one ∷ []) → ⊥
turned_round_they_do_not h = absurd (cc)

a_repeat_does_not_rise : Rising (one ∷ one ∷ []) → ⊥
a_repeat_does_not_rise h = absurd (cc)

-- ---- well-formed values

the_least_integer : WellFormed (VInt (negsuc 9223372036854775807))
the_least_integer = (omega arith, omega arith)

one_below_it : WellFormed (VInt (negsuc 9223372036854775808)) → ⊥
one_below_it h = omega arith

the_greatest_integer : WellFormed (VInt (pos 9223372036854775807))
the_greatest_integer = (omega arith, omega arith)

one_above_it : WellFormed (VInt (pos 9223372036854775808)) → ⊥
one_above_it h = omega arith

the_greatest_id : WellFormed (VObj (codes "Person") 4294967295)
the_greatest_id = omega arith

an_id_above_it : WellFormed (VObj (codes "Person") 4294967296) → ⊥
an_id_above_it h = omega arith

a_set_in_a_struct_in_a_pair : WellFormed (VPair VUnit (VStruct (VField (codes "a") (set (VBool false ∷ VBool true ∷ [])) VEnd)))
a_set_in_a_struct_in_a_pair = (tt, (((refl, (tt, tt)), (tt, (tt, tt))), tt))

a_set_in_a_set_that_falls : WellFormed (set (set (VBool true ∷ VBool false ∷ []) ∷ [])) → ⊥
a_set_in_a_set_that_falls h = absurd (cc)

-- ---- values of a type

abbrev ann : Object
ann = record { class = codes "Person"; id = 1; values = [] }

abbrev here : Objects
here = ann ∷ []

an_object_that_is_there : HasType here (VObj (codes "Person") 1) (TClass (codes "Person"))
unfolding any same
an_object_that_is_there = (refl, refl)

an_object_of_another_id : HasType here (VObj (codes "Person") 2) (TClass (codes "Person")) → ⊥
unfolding any same
an_object_of_another_id h = absurd (cc)

an_object_of_another_class : HasType here (VObj (codes "Person") 1) (TClass (codes "Vehicle")) → ⊥
an_object_of_another_class h = absurd (cc)

a_set_of_what_is_there : HasType here (set (VObj (codes "Person") 1 ∷ [])) (TSet (TClass (codes "Person")))
unfolding any same
a_set_of_what_is_there = ((tt, tt), ((refl, refl), tt))

a_set_that_falls : HasType here (set (two ∷ one ∷ [])) (TSet TInt) → ⊥
a_set_that_falls h = absurd (cc)

a_set_of_other_values : HasType here (set (VBool true ∷ [])) (TSet TInt) → ⊥
a_set_of_other_values h = h.1.0

a_struct : HasType here (VStruct (VField (codes "a") (VStr (codes "x")) (VField (codes "b") VUnit VEnd))) (TStruct (TField (codes "a") TStr (TField (codes "b") TUnit TEnd)))
a_struct = (refl, tt, (refl, tt, tt))

a_struct_of_another_label : HasType here (VStruct (VField (codes "a") (VBool true) VEnd)) (TStruct (TField (codes "b") TBool TEnd)) → ⊥
a_struct_of_another_label h = omega (arith, ap (λ l. get_or l 0 0) h.0)

a_struct_without_a_field : HasType here (VStruct VEnd) (TStruct (TField (codes "a") TBool TEnd)) → ⊥
a_struct_without_a_field h = h

a_pair : HasType here (VPair (VBool true) VUnit) (TPair TBool TUnit)
a_pair = (tt, tt)

a_pair_turned_round : HasType here (VPair VUnit (VBool true)) (TPair TBool TUnit) → ⊥
a_pair_turned_round h = h.0

too_great_an_integer : HasType here (VInt (pos 9223372036854775808)) TInt → ⊥
too_great_an_integer h = omega arith

no_value_of_a_variable : HasType here VUnit (TVar (codes "a")) → ⊥
no_value_of_a_variable h = h

-- ---- values of a type's shape

an_object_of_any_id : Shaped (VObj (codes "Person") 7) (TClass (codes "Person"))
an_object_of_any_id = refl

the_shape_of_another_class : Shaped (VObj (codes "Person") 1) (TClass (codes "Vehicle")) → ⊥
the_shape_of_another_class h = absurd (cc)

a_set_of_any_objects : Shaped (set (VObj (codes "Person") 1 ∷ VObj (codes "Person") 7 ∷ [])) (TSet (TClass (codes "Person")))
a_set_of_any_objects = ((refl, (tt, tt)), (refl, (refl, tt)))

the_shape_of_a_set_that_falls : Shaped (set (two ∷ one ∷ [])) (TSet TInt) → ⊥
the_shape_of_a_set_that_falls h = absurd (cc)

the_shape_of_a_struct : Shaped (VStruct (VField (codes "a") (VPair (VBool true) VUnit) VEnd)) (TStruct (TField (codes "a") (TPair TBool TUnit) TEnd))
the_shape_of_a_struct = (refl, (tt, tt), tt)

the_shape_of_another_label : Shaped (VStruct (VField (codes "a") VUnit VEnd)) (TStruct (TField (codes "b") TUnit TEnd)) → ⊥
the_shape_of_another_label h = omega (arith, ap (λ l. get_or l 0 0) h.0)
