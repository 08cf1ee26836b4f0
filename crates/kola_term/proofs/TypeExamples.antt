-- The output types of the sample terms, computed.
use Rattle.std.proofs.Common.{◌≡◌, Option, Some, None, pos, [], ◌∷◌, true, false, refl, codes}
use Rattle.kola_values.specs.Types.{TypeTree, TInt, TStr, TBool, TUnit, TClass, TSet, TPair}
use Rattle.kola_values.specs.Values.{VInt, VBool}
use Rattle.kola_term.specs.Terms.{CInt, CSet, CMeta, FunTree, FFst, FSnd, FAttr, FComp, FK, FC, FUnnest, FMeta, PLt, PMember, PInv, PCP, PMeta, TermF, TermC}
use Rattle.kola_term.specs.Typing.{MFun, MPred, MConst, Context, out, is_typed}
use Rattle.kola_term.specs.Places.{sub_at, place}
use Rattle.kola_term.proofs.Sample.{sample_schema}
use Rattle.kola_term.proofs.Examples.{persons, below, cars_of_each, owners_nested, owners_hidden, years, each_of_none, same_persons, numbers}

abbrev sample_type : FunTree → Option TypeTree
sample_type f = out sample_schema [] f TUnit

abbrev person : TypeTree
person = TClass (codes "Person")

abbrev vehicle : TypeTree
vehicle = TClass (codes "Vehicle")

below_type : sample_type (below 3) ≡ Some (TSet TInt)
below_type = refl

cars_of_each_type : sample_type cars_of_each ≡ Some (TSet (TSet vehicle))
cars_of_each_type = refl

owners_nested_type : sample_type owners_nested ≡ Some (TSet (TPair vehicle (TSet person)))
owners_nested_type = refl

owners_hidden_type : sample_type owners_hidden ≡ Some (TSet (TPair vehicle (TSet person)))
owners_hidden_type = refl

years_type : sample_type years ≡ Some (TSet TInt)
years_type = refl

each_of_none_type : sample_type each_of_none ≡ Some TBool
each_of_none_type = refl

same_persons_type : sample_type same_persons ≡ Some (TSet (TPair person person))
same_persons_type = refl

numbers_type : sample_type numbers ≡ Some (TSet TStr)
numbers_type = refl

-- unnest(.ssn, .cars) at persons
cars_by_number : out sample_schema [] (FComp (FUnnest (FAttr (codes "ssn")) (FAttr (codes "cars"))) persons) TUnit ≡ Some (TSet (TPair TStr vehicle))
cars_by_number = refl

-- a set constant of two types, or whose members do not rise, has no type
two_types : sample_type (FK (CSet (VInt (pos 1) ∷ VBool true ∷ []))) ≡ None
two_types = refl

falling : sample_type (FK (CSet (VInt (pos 2) ∷ VInt (pos 1) ∷ []))) ≡ None
falling = refl

-- CP(in, 1) and inv(eq)
member_of : is_typed [] [] (PCP PMember (CInt (pos 1))) (TSet TInt) ≡ true
member_of = refl

turned : is_typed [] [] (PInv PMember) (TPair (TSet TStr) TStr) ≡ true
turned = refl

compared : is_typed [] [] PLt (TPair TInt TStr) ≡ false
compared = refl

-- variables have the types that the context declares
abbrev context : Context
context = (codes "f", MFun TInt TStr) ∷ (codes "p", MPred TStr) ∷ (codes "c", MConst TBool) ∷ []

function_variable : out [] context (FMeta (codes "f")) TInt ≡ Some TStr
function_variable = refl

function_elsewhere : out [] context (FMeta (codes "f")) TStr ≡ None
function_elsewhere = refl

predicate_variable : is_typed [] context (PMeta (codes "p")) TStr ≡ true
predicate_variable = refl

constant_variable : out [] context (FK (CMeta (codes "c"))) TInt ≡ Some TBool
constant_variable = refl

wrong_sort : out [] context (FK (CMeta (codes "f"))) TInt ≡ None
wrong_sort = refl

-- the places of (fst o snd) at (int, (bool, int))
abbrev pair : TypeTree
pair = TPair TInt (TPair TBool TInt)

outer_place : place [] [] (TermF (FComp FFst FSnd)) pair (1 ∷ []) ≡ Some (TPair TBool TInt)
outer_place = refl

inner_place : place [] [] (TermF (FComp FFst FSnd)) pair (2 ∷ []) ≡ Some pair
inner_place = refl

no_place : place [] [] (TermF (FComp FFst FSnd)) pair (3 ∷ []) ≡ None
no_place = refl

-- in C(fst, 1) the constant's type stands before the input type
partial_place : place [] [] (TermF (FC FFst (CInt (pos 1)))) TBool (1 ∷ []) ≡ Some (TPair TInt TBool)
partial_place = refl

-- (iter(KP(true), (.year o snd)) o ..): the place of .year in years
attribute_place : place sample_schema [] (TermF years) TUnit (2 ∷ 1 ∷ 2 ∷ 1 ∷ 2 ∷ 1 ∷ []) ≡ Some vehicle
attribute_place = refl

attribute_part : sub_at (TermF years) (2 ∷ 1 ∷ 2 ∷ 1 ∷ 2 ∷ 1 ∷ []) ≡ Some (TermF (FAttr (codes "year")))
attribute_part = refl

constant_part : sub_at (TermF (below 3)) (2 ∷ 2 ∷ 1 ∷ []) ≡ Some (TermC (CSet (VInt (pos 1) ∷ VInt (pos 2) ∷ VInt (pos 3) ∷ [])))
constant_part = refl
