-- The typing of each constructor, computed: an input type at which it is typed, and one at which it is not.
use Rattle.std.proofs.Common.{◌≡◌, ℕ, Option, Some, None, pos, [], ◌∷◌, Bool, true, false, refl, codes}
use Rattle.kola_values.specs.Types.{TypeTree, TInt, TStr, TBool, TUnit, TClass, TSet, TPair}
use Rattle.kola_values.specs.Values.{VInt, VBool, VStr}
use Rattle.kola_term.specs.Terms.{CInt, CBool, CStr, CSet, CExtent, CMeta, FunTree, FId, FFst, FSnd, FFlat, FUnion, FIsect, FMinus, FAttr, FComp, FPair, FTimes, FK, FC, FIf, FIterate, FIter, FJoin, FNest, FUnnest, FMeta, PredTree, PEq, PLt, PLe, PMember, PAt, PAnd, POr, PNot, PInv, PKP, PCP, PEx, PFa, PMeta}
use Rattle.kola_term.specs.Typing.{out, is_typed}
use Rattle.kola_term.proofs.Sample.{sample_schema}

abbrev Typed : FunTree → TypeTree → TypeTree → Type 0
Typed f t u = out sample_schema [] f t ≡ Some u

abbrev Untyped : FunTree → TypeTree → Type 0
Untyped f t = out sample_schema [] f t ≡ None

abbrev Checked : PredTree → TypeTree → Bool → Type 0
Checked p t b = is_typed sample_schema [] p t ≡ b

-- (int, str), (set int, set str), (int, set int)
abbrev mixed : TypeTree
mixed = TPair TInt TStr

abbrev ints : TypeTree
ints = TSet TInt

abbrev mixed_sets : TypeTree
mixed_sets = TPair ints (TSet TStr)

abbrev int_with_ints : TypeTree
int_with_ints = TPair TInt ints

identity : Typed FId TStr TStr
identity = refl

first_part : Typed FFst mixed TInt
first_part = refl

second_part : Typed FSnd mixed TStr
second_part = refl

no_second_part : Untyped FSnd ints
no_second_part = refl

flat : Typed FFlat (TSet ints) ints
flat = refl

flat_of_no_sets : Untyped FFlat ints
flat_of_no_sets = refl

union : Typed FUnion (TPair ints ints) ints
union = refl

intersection : Typed FIsect (TPair ints ints) ints
intersection = refl

difference : Typed FMinus (TPair ints ints) ints
difference = refl

union_of_two_types : Untyped FUnion mixed_sets
union_of_two_types = refl

union_of_no_sets : Untyped FUnion (TPair TInt TInt)
union_of_no_sets = refl

attribute : Typed (FAttr (codes "year")) (TClass (codes "Vehicle")) TInt
attribute = refl

attribute_of_another_class : Untyped (FAttr (codes "year")) (TClass (codes "Person"))
attribute_of_another_class = refl

composition : Typed (FComp FFst FSnd) (TPair TBool mixed) TInt
composition = refl

composition_turned : Untyped (FComp FSnd FFst) (TPair TBool mixed)
composition_turned = refl

pair : Typed (FPair FSnd FFst) mixed (TPair TStr TInt)
pair = refl

pair_of_an_untyped : Untyped (FPair FSnd FFlat) mixed
pair_of_an_untyped = refl

product : Typed (FTimes FFlat FFst) (TPair (TSet ints) mixed) (TPair ints TInt)
product = refl

product_of_no_pair : Untyped (FTimes FId FId) ints
product_of_no_pair = refl

a_number : Typed (FK (CInt (pos 1))) TUnit TInt
a_number = refl

a_truth : Typed (FK (CBool true)) TUnit TBool
a_truth = refl

a_string : Typed (FK (CStr (codes "a"))) TUnit TStr
a_string = refl

a_set : Typed (FK (CSet (VStr (codes "a") ∷ VStr (codes "b") ∷ []))) TUnit (TSet TStr)
a_set = refl

an_extent : Typed (FK (CExtent (codes "Persons"))) TUnit (TSet (TClass (codes "Person")))
an_extent = refl

no_extent : Untyped (FK (CExtent (codes "Person"))) TUnit
no_extent = refl

the_empty_set : Untyped (FK (CSet [])) TUnit
the_empty_set = refl

a_number_too_great : Untyped (FK (CInt (pos 9223372036854775808))) TUnit
a_number_too_great = refl

-- in C(f, c) the constant stands before the input
partial : Typed (FC (FPair FSnd FFst) (CInt (pos 1))) TStr (TPair TStr TInt)
partial = refl

choice : Typed (FIf PLt FFst FSnd) (TPair TInt TInt) TInt
choice = refl

choice_of_two_types : Untyped (FIf (PKP true) FFst FSnd) mixed
choice_of_two_types = refl

choice_by_an_untyped : Untyped (FIf PLt FFst FFst) mixed
choice_by_an_untyped = refl

iterate : Typed (FIterate (PKP true) FFst) (TSet mixed) ints
iterate = refl

iterate_of_no_set : Untyped (FIterate (PKP true) FFst) mixed
iterate_of_no_set = refl

iterate_by_an_untyped : Untyped (FIterate PEq FFst) (TSet mixed)
iterate_by_an_untyped = refl

iter : Typed (FIter PLt FSnd) int_with_ints ints
iter = refl

iter_of_two_sets : Untyped (FIter PLt FSnd) (TPair ints ints)
iter_of_two_sets = refl

join : Typed (FJoin (PKP true) FId) mixed_sets (TSet mixed)
join = refl

join_of_one_set : Untyped (FJoin (PKP true) FId) int_with_ints
join_of_one_set = refl

nest : Typed (FNest FFst FSnd) (TPair (TSet (TPair TStr TBool)) (TSet TStr)) (TSet (TPair TStr (TSet TBool)))
nest = refl

nest_of_another_second : Untyped (FNest FFst FSnd) (TPair (TSet mixed) (TSet TStr))
nest_of_another_second = refl

unnest : Typed (FUnnest FFst FSnd) (TSet (TPair TStr ints)) (TSet (TPair TStr TInt))
unnest = refl

unnest_of_no_set : Untyped (FUnnest FFst FSnd) (TSet mixed)
unnest_of_no_set = refl

unknown_variable : Untyped (FMeta (codes "f")) TInt
unknown_variable = refl

equal : Checked PEq (TPair mixed mixed) true
equal = refl

equal_of_two_types : Checked PEq mixed false
equal_of_two_types = refl

less : Checked PLt (TPair TStr TStr) true
less = refl

less_of_no_pair : Checked PLt TInt false
less_of_no_pair = refl

at_most : Checked PLe (TPair TStr TStr) true
at_most = refl

at_most_of_two_types : Checked PLe mixed false
at_most_of_two_types = refl

member : Checked PMember int_with_ints true
member = refl

member_of_another_set : Checked PMember (TPair TStr ints) false
member_of_another_set = refl

member_turned : Checked PMember (TPair ints TInt) false
member_turned = refl

after_a_function : Checked (PAt PLt (FTimes FFst FId)) (TPair mixed TInt) true
after_a_function = refl

after_another_output : Checked (PAt PLt (FTimes FSnd FId)) (TPair mixed TInt) false
after_another_output = refl

both : Checked (PAnd PEq PLt) (TPair TInt TInt) true
both = refl

both_by_an_untyped_second : Checked (PAnd (PKP true) PLt) mixed false
both_by_an_untyped_second = refl

both_by_an_untyped_first : Checked (PAnd PLt (PKP true)) mixed false
both_by_an_untyped_first = refl

either : Checked (POr PEq PLt) (TPair TInt TInt) true
either = refl

either_by_an_untyped_second : Checked (POr (PKP true) PLt) mixed false
either_by_an_untyped_second = refl

either_by_an_untyped_first : Checked (POr PLt (PKP true)) mixed false
either_by_an_untyped_first = refl

negation : Checked (PNot PEq) (TPair TInt TInt) true
negation = refl

negation_of_an_untyped : Checked (PNot PEq) mixed false
negation_of_an_untyped = refl

turned : Checked (PInv PMember) (TPair ints TInt) true
turned = refl

not_turned : Checked (PInv PMember) int_with_ints false
not_turned = refl

always : Checked (PKP false) mixed true
always = refl

partial_predicate : Checked (PCP PMember (CInt (pos 1))) ints true
partial_predicate = refl

partial_of_another : Checked (PCP PMember (CStr (codes "a"))) ints false
partial_of_another = refl

some : Checked (PEx PLt) int_with_ints true
some = refl

some_of_two_sets : Checked (PEx PLt) (TPair ints ints) false
some_of_two_sets = refl

every : Checked (PFa PLt) int_with_ints true
every = refl

every_of_two_sets : Checked (PFa PLt) (TPair ints ints) false
every_of_two_sets = refl

unknown_predicate : Checked (PMeta (codes "p")) TInt false
unknown_predicate = refl
