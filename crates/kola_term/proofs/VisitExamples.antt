-- The visits of each constructor with parts, computed at values where every part of the sum is not zero and differs from the others; with the value, or the truth, beside them.
use Rattle.std.proofs.Common.{◌≡◌, ℕ, pos, List, [], ◌∷◌, Bool, true, false, refl}
use Rattle.kola_values.specs.Values.{ValueTree, VInt, VPair, VSet, of_items}
use Rattle.kola_values.specs.Order.{same}
use Rattle.kola_values.specs.Sets.{any, all, set_of}
use Rattle.kola_term.specs.Terms.{CInt, FunTree, FId, FFst, FSnd, FFlat, FComp, FPair, FTimes, FK, FC, FIf, FIterate, FIter, FJoin, FNest, FUnnest, PredTree, PEq, PLt, PLe, PMember, PAt, PAnd, POr, PNot, PInv, PKP, PCP, PEx, PFa}
use Rattle.kola_term.specs.Meaning.{den, holds_at}
use Rattle.kola_term.specs.Visits.{visits, pred_visits}

-- the value of f at v and its visits
abbrev Gives : FunTree → ValueTree → ValueTree → ℕ → Type 0
Gives f v w n = (den [] [] f v ≡ w) × (visits [] [] f v ≡ n)

-- the truth of p at v and its visits
abbrev Says : PredTree → ValueTree → Bool → ℕ → Type 0
Says p v b n = (holds_at [] [] p v ≡ b) × (pred_visits [] [] p v ≡ n)

abbrev int : ℕ → ValueTree
int n = VInt (pos n)

abbrev set : List ValueTree → ValueTree
set vs = VSet (of_items vs)

abbrev one : ℕ → ValueTree
one n = set (int n ∷ [])

abbrev two : ℕ → ℕ → ValueTree
two m n = set (int m ∷ int n ∷ [])

-- {1}, {2} and {3} in a set: `flat` visits three
abbrev three_sets : ValueTree
three_sets = set (one 1 ∷ one 2 ∷ one 3 ∷ [])

-- {1} and {2} in a set: `flat` visits two
abbrev two_sets : ValueTree
two_sets = set (one 1 ∷ one 2 ∷ [])

-- `ex(eq)` visits one and holds, `iter(lt, snd)` visits two and gives {2}
abbrev one_in : ValueTree
one_in = VPair (int 1) (two 1 2)

-- `ex(eq)` visits two and does not hold, `iter(lt, snd)` visits two and gives {}
abbrev three_out : ValueTree
three_out = VPair (int 3) (two 1 2)

abbrev found : PredTree
found = PEx PEq

abbrev greater : FunTree
greater = FIter PLt FSnd

-- (flat o flat): two of the inner, then three of the outer
composition : Gives (FComp FFlat FFlat) (set (two_sets ∷ set (one 3 ∷ []) ∷ [])) (set (int 1 ∷ int 2 ∷ int 3 ∷ [])) 5
unfolding set_of same any
composition = (refl, refl)

-- <flat, (flat o flat)>: two, and five
pair : Gives (FPair FFlat (FComp FFlat FFlat)) (set (two_sets ∷ set (one 3 ∷ []) ∷ [])) (VPair three_sets (set (int 1 ∷ int 2 ∷ int 3 ∷ []))) 7
unfolding set_of same any
pair = (refl, refl)

-- (flat * flat): two of the first, three of the second
product : Gives (FTimes FFlat FFlat) (VPair two_sets three_sets) (VPair (two 1 2) (set (int 1 ∷ int 2 ∷ int 3 ∷ []))) 5
unfolding set_of same any
product = (refl, refl)

-- C(iter(lt, snd), 1)
partial : Gives (FC greater (CInt (pos 1))) (two 1 2) (one 2) 2
unfolding set_of same any
partial = (refl, refl)

-- if(ex(eq), iter(lt, snd), iter(KP(true), snd)): one, and two of the branch taken
first_branch : Gives (FIf found greater (FIter (PKP true) FSnd)) one_in (one 2) 3
unfolding set_of same any
first_branch = (refl, refl)

-- if(ex(eq), iter(KP(true), snd), iter(lt, snd)): two, and two of the branch taken
second_branch : Gives (FIf found (FIter (PKP true) FSnd) greater) three_out (set []) 4
unfolding set_of same any
second_branch = (refl, refl)

-- of two members the first holds (itself, one, two), the second does not (itself, two)
iterate : Gives (FIterate found greater) (set (one_in ∷ three_out ∷ [])) (set (one 2 ∷ [])) 7
unfolding set_of same any
iterate = (refl, refl)

iter : Gives (FIter found greater) (VPair (int 1) (set (two 1 2 ∷ two 2 3 ∷ []))) (set (one 2 ∷ [])) 7
unfolding set_of same any
iter = (refl, refl)

-- four pairs: 1 with {1, 2} and 3 with {3} hold (four, three), 1 with {3} and 3 with {1, 2} do not (two, three)
join : Gives (FJoin found greater) (VPair (two 1 3) (set (two 1 2 ∷ one 3 ∷ []))) (set (set [] ∷ one 2 ∷ [])) 12
unfolding set_of same any
join = (refl, refl)

-- the one member with {1, 2}, its match (itself, two, two), and with {3} (itself, two)
nest : Gives (FNest FFlat FFlat) (VPair (set (two_sets ∷ [])) (set (two 1 2 ∷ one 3 ∷ []))) (set (VPair (two 1 2) (set (two 1 2 ∷ [])) ∷ VPair (one 3) (set []) ∷ [])) 8
unfolding set_of same any
nest = (refl, refl)

-- one member: itself, two of each function, and the three members of the second's value
unnest : Gives (FUnnest FFlat FFlat) (set (set (two 1 2 ∷ one 3 ∷ []) ∷ [])) (set (VPair (set (int 1 ∷ int 2 ∷ int 3 ∷ [])) (int 1) ∷ VPair (set (int 1 ∷ int 2 ∷ int 3 ∷ [])) (int 2) ∷ VPair (set (int 1 ∷ int 2 ∷ int 3 ∷ [])) (int 3) ∷ [])) 8
unfolding set_of same any
unnest = (refl, refl)

-- (ex(eq) @ (id * flat)): two of the function, one of the predicate
after_a_function : Says (PAt found (FTimes FId FFlat)) (VPair (int 1) two_sets) true 3
unfolding set_of same any
after_a_function = (refl, refl)

-- (ex(eq) & fa(le)): one and two; where the first does not hold its two alone
both : Says (PAnd found (PFa PLe)) one_in true 3
unfolding same any all
both = (refl, refl)

first_fails : Says (PAnd found (PFa PLe)) three_out false 2
unfolding same any all
first_fails = (refl, refl)

-- (ex(eq) | fa(le)): two, and one that decides; where the first holds its one alone
either : Says (POr found (PFa PLe)) three_out false 3
unfolding same any all
either = (refl, refl)

first_holds : Says (POr found (PFa PLe)) one_in true 1
unfolding same any all
first_holds = (refl, refl)

second_holds : Says (POr (PNot found) found) one_in true 2
unfolding same any
second_holds = (refl, refl)

second_fails : Says (PAnd found (PNot found)) one_in false 2
unfolding same any
second_fails = (refl, refl)

negation : Says (PNot found) one_in false 1
unfolding same any
negation = (refl, refl)

turned_round : Says (PInv found) (VPair (two 1 2) (int 2)) true 2
unfolding same any
turned_round = (refl, refl)

partial_predicate : Says (PCP found (CInt (pos 2))) (two 1 2) true 2
unfolding same any
partial_predicate = (refl, refl)

-- ex(ex(eq)) at 2: {1} does not hold (itself, one), {1, 2} does (itself, two), {2} is not looked at
some : Says (PEx found) (VPair (int 2) (set (one 1 ∷ two 1 2 ∷ one 2 ∷ []))) true 5
unfolding same any
some = (refl, refl)

-- fa(ex(eq)) at 1: {1} and {1, 2} hold (itself, one), {2} does not (itself, one), {3} is not looked at
every : Says (PFa found) (VPair (int 1) (set (one 1 ∷ two 1 2 ∷ one 2 ∷ one 3 ∷ []))) false 6
unfolding same any all
every = (refl, refl)

-- ---- what does not hold

not_equal : Says PEq (VPair (int 1) (int 2)) false 0
unfolding same
not_equal = (refl, refl)

not_less : Says PLt (VPair (int 1) (int 1)) false 0
not_less = (refl, refl)

equal_is_not_more : Says PLe (VPair (int 1) (int 1)) true 0
equal_is_not_more = (refl, refl)

more : Says PLe (VPair (int 2) (int 1)) false 0
more = (refl, refl)

no_member : Says PMember three_out false 0
unfolding same any
no_member = (refl, refl)

never : Says (PKP false) (int 5) false 0
never = (refl, refl)

not_turned_round : Says (PInv PLt) (VPair (int 1) (int 2)) false 0
not_turned_round = (refl, refl)

not_after_a_function : Says (PAt PLt (FPair FSnd FFst)) (VPair (int 1) (int 2)) false 0
not_after_a_function = (refl, refl)

not_of_the_constant : Says (PCP PLt (CInt (pos 2))) (int 1) false 0
not_of_the_constant = (refl, refl)

not_some : Says (PEx PEq) three_out false 2
unfolding same any
not_some = (refl, refl)

-- fa(le) at (2, {1, 2, 3}): the first member decides
not_every : Says (PFa PLe) (VPair (int 2) (set (int 1 ∷ int 2 ∷ int 3 ∷ []))) false 1
unfolding all
not_every = (refl, refl)
