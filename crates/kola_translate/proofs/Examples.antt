-- The translations of queries over the sample schema, computed: each query's text and term stand above it.
use Rattle.std.proofs.Common.{◌≡◌, ℕ, pos, true, false, List, [], ◌∷◌, refl, codes}
use Rattle.kola_values.specs.Values.{ValueTree, VInt, VBool}
use Rattle.kola_term.specs.Terms.{CInt, CBool, CSet, CExtent, FunTree, FId, FFst, FSnd, FFlat, FUnion, FMinus, FAttr, FComp, FPair, FK, FIf, FIter, PredTree, PEq, PLt, PLe, PMember, PAt, PAnd, POr, PNot, PKP, PEx, PFa}
use Rattle.kola_term.proofs.Sample.{sample_schema}
use Rattle.oql_tree.specs.QueryTrees.{LitBool, QueryTree, QLiteral, QSetOf, QStruct, QFlatten, QSomeMember, QNot, QAnd, QOr, QUnionExcept, QCompare, QSelect, NoLinks, Link, NoSets, SetLink, NoFields, QField, QRange, NoWhere, Where}
use Rattle.oql_tree.specs.declared.query.Sign.{Sign}
use Rattle.oql_tree.specs.declared.query.Sign.TheVariants as sign
use Rattle.kola_translate.proofs.SampleQueries.{named, number, one_label, one_range, ones, below_three, shadowed, hidden_extent, owners, years, all_of_none, some_before, picked, two_fields, one_field}
use Rattle.kola_translate.specs.Translation.{translation, pr}

abbrev Gives : QueryTree → FunTree → Type 0
Gives e f = translation sample_schema e ≡ f

-- as a predicate, under no variable
abbrev Tests : QueryTree → PredTree → Type 0
Tests e p = pr sample_schema [] e ≡ p

abbrev int : ℕ → ValueTree
int n = VInt (pos n)

abbrev number_term : ℕ → FunTree
number_term n = FK (CInt (pos n))

abbrev extent : List ℕ → FunTree
extent e = FK (CExtent e)

abbrev attr : List ℕ → FunTree → FunTree
attr a f = FComp (FAttr a) f

abbrev each : PredTree → FunTree → FunTree → FunTree
each p h r = FComp (FIter p h) (FPair FId r)

-- (iter((lt @ <snd, K(3)>), snd) o <id, K({1, 2, 3})>)
below : Gives below_three (each (PAt PLt (FPair FSnd (number_term 3))) FSnd (FK (CSet (int 1 ∷ int 2 ∷ int 3 ∷ []))))
below = refl

-- (iter(KP(true), (iter(KP(true), snd) o <id, (.cars o snd)>)) o <id, K(Persons)>)
the_inner_name : Gives shadowed (each (PKP true) (each (PKP true) FSnd (attr (codes "cars") FSnd)) (extent (codes "Persons")))
the_inner_name = refl

-- (iter(KP(true), snd) o <id, K(Vehicles)>)
a_variable_before_an_extent : Gives hidden_extent (each (PKP true) FSnd (extent (codes "Vehicles")))
a_variable_before_an_extent = refl

-- (iter(KP(true), <snd, (iter((in @ <(snd o fst), (.cars o snd)>), snd) o <id, K(Persons)>)>) o <id, K(Vehicles)>)
a_select_in_a_struct :
    Gives owners (each (PKP true) (FPair FSnd (each (PAt PMember (FPair (FComp FSnd FFst) (attr (codes "cars") FSnd))) FSnd (extent (codes "Persons")))) (extent (codes "Vehicles")))
a_select_in_a_struct = refl

-- (flat o (iter(KP(true), (iter(KP(true), (.year o snd)) o <id, (.cars o snd)>)) o <id, K(Persons)>))
two_ranges : Gives years (FComp FFlat (each (PKP true) (each (PKP true) (attr (codes "year") FSnd) (attr (codes "cars") FSnd)) (extent (codes "Persons"))))
two_ranges = refl

-- if((fa((lt @ <(.year o snd), K(0)>)) @ <id, (minus o <K(Vehicles), K(Vehicles)>)>), K(true), K(false))
for_all :
    Gives all_of_none
    (FIf (PAt (PFa (PAt PLt (FPair (attr (codes "year") FSnd) (number_term 0)))) (FPair FId (FComp FMinus (FPair (extent (codes "Vehicles")) (extent (codes "Vehicles"))))))
    (FK (CBool true)) (FK (CBool false)))
for_all = refl

-- exists x in Vehicles : x.year < 2000, as a predicate: (ex((lt @ <(.year o snd), K(2000)>)) @ <id, K(Vehicles)>)
exists : Tests (some_before (named 12 (codes "Vehicles")) 2000) (PAt (PEx (PAt PLt (FPair (attr (codes "year") FSnd) (number_term 2000)))) (FPair FId (extent (codes "Vehicles"))))
exists = refl

-- exists(Persons), as a predicate: (ex(KP(true)) @ <id, K(Persons)>)
some_member : Tests (QSomeMember 0 (named 7 (codes "Persons"))) (PAt (PEx (PKP true)) (FPair FId (extent (codes "Persons"))))
some_member = refl

-- (iter(KP(true), ((fst o snd) o <(.first o snd), <(.ssn o snd), (.last o snd)>>)) o <id, K(Persons)>)
a_field :
    Gives picked
    (each (PKP true) (FComp (FComp FFst FSnd) (FPair (attr (codes "first") FSnd) (FPair (attr (codes "ssn") FSnd) (attr (codes "last") FSnd)))) (extent (codes "Persons")))
a_field = refl

-- (iter(KP(true), <(.last o snd), (.ssn o snd)>) o <id, K(Persons)>)
fields : Gives two_fields (each (PKP true) (FPair (attr (codes "last") FSnd) (attr (codes "ssn") FSnd)) (extent (codes "Persons")))
fields = refl

-- K(7), and struct(only: 7).only is the same
a_struct_of_one : Gives one_field (number_term 7)
a_struct_of_one = refl

the_only_field : Gives (one_label 16 one_field (codes "only")) (number_term 7)
the_only_field = refl

-- struct(a: 1, b: 2, c: 3), and its fields: (fst o T), ((fst o snd) o T), ((snd o snd) o T)
abbrev three : QueryTree
three = QStruct 0 (QField (codes "a") 7 (number 10 1) (QField (codes "b") 13 (number 16 2) (QField (codes "c") 19 (number 22 3) NoFields)))

abbrev three_term : FunTree
three_term = FPair (number_term 1) (FPair (number_term 2) (number_term 3))

the_first_of_three : Gives (one_label 25 three (codes "a")) (FComp FFst three_term)
the_first_of_three = refl

the_second_of_three : Gives (one_label 25 three (codes "b")) (FComp (FComp FFst FSnd) three_term)
the_second_of_three = refl

the_last_of_three : Gives (one_label 25 three (codes "c")) (FComp (FComp FSnd FSnd) three_term)
the_last_of_three = refl

-- select distinct a from a in set(1), b in set(1), c in set(1): the oldest of three variables is ((snd o fst) o fst)
abbrev oldest : QueryTree
oldest = QSelect 0 (named 16 (codes "a")) (QRange (codes "a") 23 (ones 28) (QRange (codes "b") 36 (ones 41) (one_range (codes "c") 49 (ones 54)))) NoWhere

abbrev one_term : FunTree
one_term = FK (CSet (int 1 ∷ []))

the_oldest_of_three :
    Gives oldest (FComp FFlat (each (PKP true) (FComp FFlat (each (PKP true) (each (PKP true) (FComp (FComp FSnd FFst) FFst) one_term) one_term)) one_term))
the_oldest_of_three = refl

-- select distinct x from x in set(true, false) where x: a variable of truth values as a predicate, (eq @ <snd, K(true)>)
a_truth_value_as_a_test :
    Gives (QSelect 0 (named 16 (codes "x")) (one_range (codes "x") 23 (QSetOf 28 ((LitBool true, 32) ∷ (LitBool false, 38) ∷ []))) (Where 45 (named 51 (codes "x"))))
    (each (PAt PEq (FPair FSnd (FK (CBool true)))) FSnd (FK (CSet (VBool false ∷ VBool true ∷ []))))
a_truth_value_as_a_test = refl

-- true, as a function and as a predicate
truth : Gives (QLiteral 0 (LitBool true)) (FK (CBool true))
truth = refl

truth_as_a_test : Tests (QLiteral 0 (LitBool true)) (PKP true)
truth_as_a_test = refl

abbrev compared : Sign → QueryTree
compared s = QCompare 2 s (number 0 1) (number 4 2)

differ : Tests (compared sign.Ne) (PNot (PAt PEq (FPair (number_term 1) (number_term 2))))
differ = refl

greater : Tests (compared sign.Gt) (PAt PLt (FPair (number_term 2) (number_term 1)))
greater = refl

not_less : Tests (compared sign.Ge) (PAt PLe (FPair (number_term 2) (number_term 1)))
not_less = refl

-- 1 < 2 and 1 = 2 and not 1 <= 2, from the left: ((p & q) & ~r)
a_chain :
    Tests (QAnd 6 (compared sign.Lt) (Link 6 (compared sign.Eq) (Link 16 (QNot 20 (compared sign.Le)) NoLinks)))
    (PAnd (PAnd (PAt PLt (FPair (number_term 1) (number_term 2))) (PAt PEq (FPair (number_term 1) (number_term 2)))) (PNot (PAt PLe (FPair (number_term 1) (number_term 2)))))
a_chain = refl

-- true or 1 = 2: (KP(true) | (eq @ <K(1), K(2)>))
either : Tests (QOr 5 (QLiteral 0 (LitBool true)) (Link 5 (compared sign.Eq) NoLinks)) (POr (PKP true) (PAt PEq (FPair (number_term 1) (number_term 2))))
either = refl

-- Vehicles except Vehicles union Vehicles, from the left: (union o <(minus o <V, V>), V>)
sets_from_the_left :
    Gives (QUnionExcept 9 (named 0 (codes "Vehicles")) (SetLink 9 true (named 16 (codes "Vehicles")) (SetLink 25 false (named 31 (codes "Vehicles")) NoSets)))
    (FComp FUnion (FPair (FComp FMinus (FPair (extent (codes "Vehicles")) (extent (codes "Vehicles")))) (extent (codes "Vehicles"))))
sets_from_the_left = refl

-- flatten(select distinct p.cars from p in Persons)
joined :
    Gives (QFlatten 0 (QSelect 8 (one_label 26 (named 24 (codes "p")) (codes "cars")) (one_range (codes "p") 36 (named 41 (codes "Persons"))) NoWhere))
    (FComp FFlat (each (PKP true) (attr (codes "cars") FSnd) (extent (codes "Persons"))))
joined = refl
