-- The value and the visits of terms, computed: what the definitions say of queries over the sample database.
use Rattle.std.proofs.Common.{◌≡◌, ℕ, pos, [], ◌∷◌, true, false, refl, codes}
use Rattle.kola_values.specs.Values.{ValueTree, VUnit, VInt, VBool, VStr, VObj, VPair, VSet, of_items}
use Rattle.kola_values.specs.Order.{same}
use Rattle.kola_values.specs.Sets.{any, all, set_of}
use Rattle.kola_term.specs.Terms.{CInt, CBool, CSet, CExtent, FunTree, FId, FFst, FSnd, FFlat, FMinus, FAttr, FComp, FPair, FK, FIf, FIter, FJoin, FNest, PEq, PLt, PMember, PAt, PKP, PEx, PFa}
use Rattle.kola_term.specs.Meaning.{den, holds_at}
use Rattle.kola_term.specs.Visits.{visits, pred_visits}
use Rattle.kola_term.proofs.Sample.{sample_schema, sample_database}

abbrev sample_value : FunTree → ValueTree
sample_value f = den sample_schema sample_database f VUnit

abbrev sample_visits : FunTree → ℕ
sample_visits f = visits sample_schema sample_database f VUnit

abbrev pub persons : FunTree
persons = FK (CExtent (codes "Persons"))

abbrev pub vehicles : FunTree
vehicles = FK (CExtent (codes "Vehicles"))

abbrev car : ℕ → ValueTree
car id = VObj (codes "Vehicle") id

abbrev owner : ℕ → ValueTree
owner id = VObj (codes "Person") id

-- (iter((lt @ <snd, K(n)>), snd) o <id, K({1, 2, 3})>)
abbrev pub below : ℕ → FunTree
below n = FComp (FIter (PAt PLt (FPair FSnd (FK (CInt (pos n))))) FSnd) (FPair FId (FK (CSet (VInt (pos 1) ∷ VInt (pos 2) ∷ VInt (pos 3) ∷ []))))

below_three : sample_value (below 3) ≡ VSet (of_items (VInt (pos 1) ∷ VInt (pos 2) ∷ []))
unfolding set_of
below_three = refl

below_none : sample_value (below 0) ≡ VSet (of_items [])
unfolding set_of
below_none = refl

below_visits : sample_visits (below 3) ≡ 3
unfolding set_of
below_visits = refl

-- (iter(KP(true), (iter(KP(true), snd) o <id, (.cars o snd)>)) o <id, K(Persons)>)
abbrev pub cars_of_each : FunTree
cars_of_each = FComp (FIter (PKP true) (FComp (FIter (PKP true) FSnd) (FPair FId (FComp (FAttr (codes "cars")) FSnd)))) (FPair FId persons)

cars_of_each_value : sample_value cars_of_each ≡ VSet (of_items (VSet (of_items (car 1 ∷ [])) ∷ []))
unfolding set_of same any
cars_of_each_value = refl

cars_of_each_visits : sample_visits cars_of_each ≡ 4
unfolding set_of same any
cars_of_each_visits = refl

-- ((nest(fst, snd) o <join((in @ <fst, (.cars o snd)>), id), fst>) o <K(Vehicles), K(Persons)>)
abbrev pub owners_nested : FunTree
owners_nested = FComp (FComp (FNest FFst FSnd) (FPair (FJoin (PAt PMember (FPair FFst (FComp (FAttr (codes "cars")) FSnd))) FId) FFst)) (FPair vehicles persons)

-- (iter(KP(true), <snd, (iter((in @ <(snd o fst), (.cars o snd)>), snd) o <id, K(Persons)>)>) o <id, K(Vehicles)>)
abbrev pub owners_hidden : FunTree
owners_hidden = FComp (FIter (PKP true) (FPair FSnd (FComp (FIter (PAt PMember (FPair (FComp FSnd FFst) (FComp (FAttr (codes "cars")) FSnd))) FSnd) (FPair FId persons)))) (FPair FId vehicles)

-- a vehicle without an owner keeps the empty set
abbrev owners : ValueTree
owners = VSet (of_items (VPair (car 1) (VSet (of_items (owner 1 ∷ owner 2 ∷ []))) ∷ VPair (car 2) (VSet (of_items [])) ∷ []))

owners_nested_value : sample_value owners_nested ≡ owners
unfolding set_of same any
owners_nested_value = refl

owners_hidden_value : sample_value owners_hidden ≡ owners
unfolding set_of same any
owners_hidden_value = refl

owners_nested_visits : sample_visits owners_nested ≡ 8
unfolding set_of same any
owners_nested_visits = refl

owners_hidden_visits : sample_visits owners_hidden ≡ 6
unfolding set_of same any
owners_hidden_visits = refl

-- (flat o (iter(KP(true), (iter(KP(true), (.year o snd)) o <id, (.cars o snd)>)) o <id, K(Persons)>))
abbrev pub years : FunTree
years = FComp FFlat (FComp (FIter (PKP true) (FComp (FIter (PKP true) (FComp (FAttr (codes "year")) FSnd)) (FPair FId (FComp (FAttr (codes "cars")) FSnd)))) (FPair FId persons))

years_value : sample_value years ≡ VSet (of_items (VInt (pos 1990) ∷ []))
unfolding set_of same any
years_value = refl

years_visits : sample_visits years ≡ 5
unfolding set_of same any
years_visits = refl

-- if((fa((lt @ <(.year o snd), K(0)>)) @ <id, (minus o <K(Vehicles), K(Vehicles)>)>), K(true), K(false))
abbrev pub none_left : FunTree
none_left = FPair FId (FComp FMinus (FPair vehicles vehicles))

abbrev pub each_of_none : FunTree
each_of_none = FIf (PAt (PFa (PAt PLt (FPair (FComp (FAttr (codes "year")) FSnd) (FK (CInt (pos 0)))))) none_left) (FK (CBool true)) (FK (CBool false))

each_of_none_value : sample_value each_of_none ≡ VBool true
unfolding set_of same any all
each_of_none_value = refl

each_of_none_visits : sample_visits each_of_none ≡ 0
unfolding set_of same any all
each_of_none_visits = refl

some_of_none : holds_at sample_schema sample_database (PAt (PEx (PKP true)) none_left) VUnit ≡ false
unfolding set_of same any
some_of_none = refl

-- (flat o (iter(KP(true), (iter((eq @ <(snd o fst), snd>), <(snd o fst), snd>) o <id, K(Persons)>)) o <id, K(Persons)>))
abbrev pub same_persons : FunTree
same_persons = FComp FFlat (FComp (FIter (PKP true) (FComp (FIter (PAt PEq (FPair (FComp FSnd FFst) FSnd)) (FPair (FComp FSnd FFst) FSnd)) (FPair FId persons))) (FPair FId persons))

same_persons_value : sample_value same_persons ≡ VSet (of_items (VPair (owner 1) (owner 1) ∷ VPair (owner 2) (owner 2) ∷ []))
unfolding set_of same any
same_persons_value = refl

same_persons_visits : sample_visits same_persons ≡ 8
unfolding set_of same any
same_persons_visits = refl

-- the first member that decides ends the visits
first_decides : pred_visits [] [] (PEx (PAt PEq (FPair FFst FSnd))) (VPair (VInt (pos 1)) (VSet (of_items (VInt (pos 1) ∷ VInt (pos 2) ∷ [])))) ≡ 1
unfolding same
first_decides = refl

each_is_looked_at : pred_visits [] [] (PFa (PAt PEq (FPair FFst FSnd))) (VPair (VInt (pos 1)) (VSet (of_items (VInt (pos 1) ∷ VInt (pos 2) ∷ [])))) ≡ 2
unfolding same
each_is_looked_at = refl

-- (iter(KP(true), ((fst o snd) o <(.first o snd), <(.ssn o snd), (.last o snd)>>)) o <id, K(Persons)>): a field of a struct of three
abbrev pub numbers : FunTree
numbers =
    FComp (FIter (PKP true) (FComp (FComp FFst FSnd) (FPair (FComp (FAttr (codes "first")) FSnd) (FPair (FComp (FAttr (codes "ssn")) FSnd) (FComp (FAttr (codes "last")) FSnd))))) (FPair FId persons)

numbers_value : sample_value numbers ≡ VSet (of_items (VStr (codes "a") ∷ VStr (codes "b") ∷ []))
unfolding set_of same any
numbers_value = refl

numbers_visits : sample_visits numbers ≡ 2
unfolding set_of same any
numbers_visits = refl
