-- First faults of typing: one for each cause, and terms with two faults of which the order of typing tells the first.
use Rattle.std.proofs.Common.{ℕ, zero, suc, pos, List, [], ◌∷◌, true, codes}
use Rattle.kola_values.specs.Types.{TypeTree, TInt, TBool, TUnit, TClass, TSet, TPair}
use Rattle.kola_term.specs.Terms.{CInt, CExtent, CMeta, FunTree, FId, FFst, FSnd, FAttr, FComp, FPair, FK, FC, FIf, FIter, FNest, FUnnest, PredTree, PEq, PAt, PAnd, PNot, PKP, PCP, PEx, PMeta, TermTree, TermF, TermP}
use Rattle.kola_term.specs.Faults.{TypeWhy, NotThisInput, OutputsDiffer, NoAttribute, NoExtent, WrongVariable, TypeTooLarge, FaultAt, small}
use Rattle.kola_term.proofs.Unique.{judged_says}
use Rattle.kola_term.proofs.Sample.{sample_schema}
use Rattle.kola_term.proofs.Examples.{persons}

-- the first fault of a term at an input type over the sample schema
abbrev First : TermTree → TypeTree → List ℕ → TypeWhy → Type 0
First t u q why = FaultAt sample_schema [] t u q why

abbrev Fault : FunTree → TypeTree → List ℕ → TypeWhy → Type 0
Fault f = First (TermF f)

abbrev PredFault : PredTree → TypeTree → List ℕ → TypeWhy → Type 0
PredFault p = First (TermP p)

-- each is faulty at every input type: K(Dogs) at its constant, the variables themselves
abbrev dogs : FunTree
dogs = FK (CExtent (codes "Dogs"))

abbrev unknown : PredTree
unknown = PMeta (codes "p")

-- ---- one for each cause

not_this_input : Fault FFst TInt [] NotThisInput
not_this_input = judged_says sample_schema [] (TermF FFst) TInt

no_attribute : Fault (FAttr (codes "age")) (TClass (codes "Person")) [] NoAttribute
no_attribute = judged_says sample_schema [] (TermF (FAttr (codes "age"))) (TClass (codes "Person"))

attribute_of_int : Fault (FAttr (codes "age")) TInt [] NotThisInput
attribute_of_int = judged_says sample_schema [] (TermF (FAttr (codes "age"))) TInt

no_extent : Fault dogs TUnit (1 ∷ []) NoExtent
no_extent = judged_says sample_schema [] (TermF dogs) TUnit

wrong_variable : PredFault unknown TInt [] WrongVariable
wrong_variable = judged_says sample_schema [] (TermP unknown) TInt

wrong_constant : Fault (FK (CMeta (codes "c"))) TInt (1 ∷ []) WrongVariable
wrong_constant = judged_says sample_schema [] (TermF (FK (CMeta (codes "c")))) TInt

-- if(KP(true), id, K(1)) at bool
outputs_differ : Fault (FIf (PKP true) FId (FK (CInt (pos 1)))) TBool [] OutputsDiffer
unfolding small
outputs_differ = judged_says sample_schema [] (TermF (FIf (PKP true) FId (FK (CInt (pos 1))))) TBool

-- ---- the order of typing

-- (K(Dogs) o fst): the inner function first
inner_first : Fault (FComp dogs FFst) TInt (2 ∷ []) NotThisInput
inner_first = judged_says sample_schema [] (TermF (FComp dogs FFst)) TInt

-- C(K(Dogs), c): the constant first
constant_first : Fault (FC dogs (CMeta (codes "c"))) TInt (2 ∷ []) WrongVariable
constant_first = judged_says sample_schema [] (TermF (FC dogs (CMeta (codes "c")))) TInt

-- CP(p, Dogs): the constant first
constant_before_predicate : PredFault (PCP unknown (CExtent (codes "Dogs"))) TInt (2 ∷ []) NoExtent
constant_before_predicate = judged_says sample_schema [] (TermP (PCP unknown (CExtent (codes "Dogs")))) TInt

-- (p @ fst): the function first
function_first : PredFault (PAt unknown FFst) TInt (2 ∷ []) NotThisInput
function_first = judged_says sample_schema [] (TermP (PAt unknown FFst)) TInt

-- <fst, K(Dogs)>, (p & q): from left to right
left_first : Fault (FPair FFst dogs) TInt (1 ∷ []) NotThisInput
left_first = judged_says sample_schema [] (TermF (FPair FFst dogs)) TInt

left_predicate_first : PredFault (PAnd (PNot unknown) PEq) TInt (1 ∷ 1 ∷ []) WrongVariable
left_predicate_first = judged_says sample_schema [] (TermP (PAnd (PNot unknown) PEq)) TInt

-- if(p, fst, K(Dogs)), with the predicate's fault, then without it, then with neither
predicate_first : Fault (FIf unknown FFst dogs) TInt (1 ∷ []) WrongVariable
predicate_first = judged_says sample_schema [] (TermF (FIf unknown FFst dogs)) TInt

first_branch : Fault (FIf (PKP true) FFst dogs) TInt (2 ∷ []) NotThisInput
first_branch = judged_says sample_schema [] (TermF (FIf (PKP true) FFst dogs)) TInt

second_branch : Fault (FIf (PKP true) FId dogs) TInt (3 ∷ 1 ∷ []) NoExtent
unfolding small
second_branch = judged_says sample_schema [] (TermF (FIf (PKP true) FId dogs)) TInt

-- iter(p, K(Dogs)) at int: the node's own input first
own_first : Fault (FIter unknown dogs) TInt [] NotThisInput
own_first = judged_says sample_schema [] (TermF (FIter unknown dogs)) TInt

own_predicate_first : PredFault (PEx unknown) TInt [] NotThisInput
own_predicate_first = judged_says sample_schema [] (TermP (PEx unknown)) TInt

-- nest(id, fst) at (set int, set bool): both children before the outputs
children_before_outputs : Fault (FNest FId FFst) (TPair (TSet TInt) (TSet TBool)) (2 ∷ []) NotThisInput
unfolding small
children_before_outputs = judged_says sample_schema [] (TermF (FNest FId FFst)) (TPair (TSet TInt) (TSet TBool))

-- nest(id, id) there: the output of the first is not the second set's type
nest_differs : Fault (FNest FId FId) (TPair (TSet TInt) (TSet TBool)) [] OutputsDiffer
unfolding small
nest_differs = judged_says sample_schema [] (TermF (FNest FId FId)) (TPair (TSet TInt) (TSet TBool))

-- unnest(id, id) at set int: the output of the second is no set
unnest_of_no_set : Fault (FUnnest FId FId) (TSet TInt) [] OutputsDiffer
unfolding small
unnest_of_no_set = judged_says sample_schema [] (TermF (FUnnest FId FId)) (TSet TInt)

-- (iter(KP(true), (.age o snd)) o <id, K(Persons)>)
deep_fault : Fault (FComp (FIter (PKP true) (FComp (FAttr (codes "age")) FSnd)) (FPair FId persons)) TUnit (1 ∷ 2 ∷ 1 ∷ []) NoAttribute
unfolding small
deep_fault = judged_says sample_schema [] (TermF (FComp (FIter (PKP true) (FComp (FAttr (codes "age")) FSnd)) (FPair FId persons))) TUnit

-- ---- large types

-- <id, id> after itself, n times: the output type has 2 ^ (n + 1) - 1 nodes at int
abbrev doubled : ℕ → FunTree
doubled zero = FId
doubled (suc n) = FComp (FPair FId FId) (doubled n)

type_too_large : Fault (doubled 12) TInt (1 ∷ []) TypeTooLarge
unfolding small
type_too_large = judged_says sample_schema [] (TermF (doubled 12)) TInt
