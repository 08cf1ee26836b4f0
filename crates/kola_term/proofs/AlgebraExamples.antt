-- One example of each function and predicate of the algebra, computed: its value, or truth, and its visits.
use Rattle.std.proofs.Common.{◌≡◌, ℕ, pos, List, [], ◌∷◌, Bool, true, false, refl, codes}
use Rattle.kola_values.specs.Values.{ValueTree, VInt, VObj, VPair, VSet, of_items}
use Rattle.kola_values.specs.Order.{same}
use Rattle.kola_values.specs.Sets.{any, all, set_of}
use Rattle.kola_term.specs.Terms.{CInt, CSet, FunTree, FId, FFst, FSnd, FFlat, FUnion, FIsect, FMinus, FAttr, FComp, FPair, FTimes, FK, FC, FIf, FIterate, FIter, FJoin, FNest, FUnnest, PredTree, PEq, PLt, PLe, PMember, PAt, PAnd, POr, PNot, PInv, PKP, PCP, PEx, PFa}
use Rattle.kola_term.specs.Meaning.{den, holds_at}
use Rattle.kola_term.specs.Visits.{visits, pred_visits}
use Rattle.kola_term.proofs.Sample.{sample_schema, sample_database}

-- the value of f at v and its visits
abbrev Gives : FunTree → ValueTree → ValueTree → ℕ → Type 0
Gives f v w n = (den sample_schema sample_database f v ≡ w) × (visits sample_schema sample_database f v ≡ n)

-- the truth of p at v and its visits
abbrev Says : PredTree → ValueTree → Bool → ℕ → Type 0
Says p v b n = (holds_at sample_schema sample_database p v ≡ b) × (pred_visits sample_schema sample_database p v ≡ n)

abbrev int : ℕ → ValueTree
int n = VInt (pos n)

abbrev ints : ℕ → ℕ → ValueTree
ints m n = VPair (int m) (int n)

abbrev set : List ValueTree → ValueTree
set vs = VSet (of_items vs)

abbrev one : ValueTree → ValueTree
one v = set (v ∷ [])

abbrev two : ValueTree → ValueTree → ValueTree
two v w = set (v ∷ w ∷ [])

abbrev one_two_three : ValueTree
one_two_three = set (int 1 ∷ int 2 ∷ int 3 ∷ [])

identity : Gives FId (int 5) (int 5) 0
identity = (refl, refl)

composition : Gives (FComp FFst FSnd) (VPair (int 1) (ints 2 3)) (int 2) 0
composition = (refl, refl)

attribute : Gives (FAttr (codes "year")) (VObj (codes "Vehicle") 1) (int 1990) 0
unfolding same
attribute = (refl, refl)

pair : Gives (FPair FSnd FFst) (ints 1 2) (ints 2 1) 0
pair = (refl, refl)

product : Gives (FTimes FFst FId) (VPair (ints 1 2) (int 3)) (ints 1 3) 0
product = (refl, refl)

constant : Gives (FK (CSet (int 1 ∷ int 2 ∷ []))) (int 5) (two (int 1) (int 2)) 0
unfolding set_of
constant = (refl, refl)

partial : Gives (FC FFst (CInt (pos 7))) (int 5) (int 7) 0
partial = (refl, refl)

choice : Gives (FIf PLt FFst FSnd) (ints 2 1) (int 1) 0
choice = (refl, refl)

-- the branch that is not taken is not visited
the_branch_taken : Gives (FIf (PKP false) FFlat (FK (CSet (int 1 ∷ [])))) (two (one (int 1)) (two (int 1) (int 2))) (one (int 1)) 0
unfolding set_of
the_branch_taken = (refl, refl)

flat : Gives FFlat (two (one (int 1)) (two (int 1) (int 2))) (two (int 1) (int 2)) 2
unfolding set_of
flat = (refl, refl)

abbrev overlapping : ValueTree
overlapping = VPair (two (int 1) (int 2)) (two (int 2) (int 3))

union : Gives FUnion overlapping one_two_three 0
unfolding set_of
union = (refl, refl)

intersection : Gives FIsect overlapping (one (int 2)) 0
unfolding set_of same any
intersection = (refl, refl)

difference : Gives FMinus overlapping (one (int 1)) 0
unfolding set_of same any
difference = (refl, refl)

iterate : Gives (FIterate (PCP PLt (CInt (pos 1))) FId) one_two_three (two (int 2) (int 3)) 3
unfolding set_of
iterate = (refl, refl)

iter : Gives (FIter PLt FSnd) (VPair (int 1) one_two_three) (two (int 2) (int 3)) 3
unfolding set_of
iter = (refl, refl)

join : Gives (FJoin PLt FId) (VPair (two (int 1) (int 2)) (one (int 2))) (one (ints 1 2)) 2
unfolding set_of
join = (refl, refl)

nest : Gives (FNest FFst FSnd) (VPair (two (ints 1 5) (ints 1 6)) (two (int 1) (int 2))) (two (VPair (int 1) (two (int 5) (int 6))) (VPair (int 2) (set []))) 4
unfolding set_of same
nest = (refl, refl)

unnest : Gives (FUnnest FFst FSnd) (one (VPair (int 1) (two (int 5) (int 6)))) (two (ints 1 5) (ints 1 6)) 3
unfolding set_of
unnest = (refl, refl)

after_a_function : Says (PAt PLt (FPair FFst FSnd)) (ints 1 2) true 0
after_a_function = (refl, refl)

both : Says (PAnd PLt (PNot PEq)) (ints 1 2) true 0
unfolding same
both = (refl, refl)

either : Says (POr PLt PEq) (ints 1 1) true 0
unfolding same
either = (refl, refl)

-- what the first leaves decided is not looked at
false_decides : Says (PAnd (PKP false) (PEx PEq)) (VPair (int 1) (two (int 1) (int 2))) false 0
false_decides = (refl, refl)

true_decides : Says (POr (PKP true) (PEx PEq)) (VPair (int 1) (two (int 1) (int 2))) true 0
true_decides = (refl, refl)

turned_round : Says (PInv PLt) (ints 2 1) true 0
turned_round = (refl, refl)

partial_predicate : Says (PCP PMember (CInt (pos 1))) (two (int 1) (int 2)) true 0
unfolding same any
partial_predicate = (refl, refl)

always : Says (PKP true) (int 5) true 0
always = (refl, refl)

some : Says (PEx PEq) (VPair (int 1) (two (int 1) (int 2))) true 1
unfolding same any
some = (refl, refl)

every : Says (PFa PLe) (VPair (int 1) (two (int 1) (int 2))) true 2
unfolding all
every = (refl, refl)
