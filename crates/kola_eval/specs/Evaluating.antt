-- The value and the visits of a term in the database that an evaluation runs on, and what the parts of a pair that a term gives add up to.
use Rattle.std.specs.Prelude.{◌≡◌, ℕ, ◌+◌, Bool, cond, List, [], ◌∷◌, map, filter, flat_map, sum_by, length}
use Rattle.kola_values.specs.Order.{same}
use Rattle.kola_values.specs.Sets.{members, set_of}
use Rattle.kola_values.specs.Values.{ValueTree, VPair}
use Rattle.kola_values.specs.Databases.{Classes, Objects}
use Rattle.kola_term.specs.Terms.{ConstTree, FunTree, FComp, FPair, FTimes, FC, FIf, FIterate, FIter, FJoin, FNest, FUnnest, PredTree, PAt, PAnd, POr, PNot, PInv, PCP, PEx, PFa}
use Rattle.kola_term.specs.TermView.{fun_tree}
use Rattle.kola_term.specs.Meaning.{constant, den, holds_at}
use Rattle.kola_term.specs.Visits.{until, visits, pred_visits}
use Rattle.kola_eval.specs.Lending.{lent_tree}
use Rattle.kola_eval.specs.declared.lent.Lent.{Lent}
use Rattle.kola_eval.specs.declared.run.Run.{Run}
use Rattle.kola_eval.specs.declared.parts.Parts.{Parts}

abbrev pub constant_in : Run → ConstTree → ValueTree
constant_in r c = constant r.schema.now r.db.now.objects c

abbrev pub den_in : Run → FunTree → ValueTree → ValueTree
den_in r f v = den r.schema.now r.db.now.objects f v

abbrev pub holds_in : Run → PredTree → ValueTree → Bool
holds_in r p v = holds_at r.schema.now r.db.now.objects p v

abbrev pub visits_in : Run → FunTree → ValueTree → ℕ
visits_in r f v = visits r.schema.now r.db.now.objects f v

abbrev pub checks_in : Run → PredTree → ValueTree → ℕ
checks_in r p v = pred_visits r.schema.now r.db.now.objects p v

-- the visits of a member: one, those of the predicate, and those of the function where the predicate holds
abbrev pub member_visits : Run → PredTree → FunTree → ValueTree → ℕ
member_visits r p f v = 1 + checks_in r p v + cond (holds_in r p v) (visits_in r f v) 0

-- the pair of two values that are lent
abbrev pub pair_tree : Lent → Lent → ValueTree
pair_tree v w = VPair (lent_tree v) (lent_tree w)

-- the pair that two functions give, each at its value, and what they visit
abbrev pub parts_value : Run → Parts → ValueTree
parts_value r s = VPair (den_in r (fun_tree s.f.now) (lent_tree s.x)) (den_in r (fun_tree s.g.now) (lent_tree s.y))

abbrev pub parts_visits : Run → Parts → ℕ
parts_visits r s = visits_in r (fun_tree s.f.now) (lent_tree s.x) + visits_in r (fun_tree s.g.now) (lent_tree s.y)

-- the value of the function at a member, if the predicate holds there
abbrev pub one_picked : Run → PredTree → FunTree → ValueTree → List ValueTree
one_picked r p f x = cond (holds_in r p x) (den_in r f x ∷ []) []

-- the values of the function at the members where the predicate holds
abbrev pub picked : Run → PredTree → FunTree → List ValueTree → List ValueTree
picked r p f us = map (λ x. den_in r f x) (filter (λ x. holds_in r p x) us)

abbrev pub picked_visits : Run → PredTree → FunTree → List ValueTree → ℕ
picked_visits r p f us = sum_by (λ x. member_visits r p f x) us

-- the same at the pairs of a value with the members
abbrev pub paired : Run → PredTree → FunTree → ValueTree → List ValueTree → List ValueTree
paired r p f x us = map (λ y. den_in r f (VPair x y)) (filter (λ y. holds_in r p (VPair x y)) us)

abbrev pub paired_visits : Run → PredTree → FunTree → ValueTree → List ValueTree → ℕ
paired_visits r p f x us = sum_by (λ y. member_visits r p f (VPair x y)) us

-- the same at the pairs of the members of two lists
abbrev pub crossed : Run → PredTree → FunTree → List ValueTree → List ValueTree → List ValueTree
crossed r p f us ws = flat_map (λ x. paired r p f x ws) us

abbrev pub crossed_visits : Run → PredTree → FunTree → List ValueTree → List ValueTree → ℕ
crossed_visits r p f us ws = sum_by (λ x. paired_visits r p f x ws) us

-- the visits of a member that is looked at as a match of a value
abbrev pub match_visits : Run → FunTree → FunTree → ValueTree → ValueTree → ℕ
match_visits r f g y x = 1 + visits_in r f x + cond (same (den_in r f x) y) (visits_in r g x) 0

-- the value of `g` at a member, if that of `f` is the value there
abbrev pub one_matched : Run → FunTree → FunTree → ValueTree → ValueTree → List ValueTree
one_matched r f g y x = cond (same (den_in r f x) y) (den_in r g x ∷ []) []

-- the values of `g` at the members at which that of `f` is the value
abbrev pub matched : Run → FunTree → FunTree → ValueTree → List ValueTree → List ValueTree
matched r f g y us = map (λ x. den_in r g x) (filter (λ x. same (den_in r f x) y) us)

abbrev pub matched_visits : Run → FunTree → FunTree → ValueTree → List ValueTree → ℕ
matched_visits r f g y us = sum_by (λ x. match_visits r f g y x) us

-- a value with the set of its matches
abbrev pub with_matches : Run → FunTree → FunTree → List ValueTree → ValueTree → ValueTree
with_matches r f g us y = VPair y (set_of (matched r f g y us))

-- the value of `f` at a member, paired with each member of that of `g`
abbrev pub unnested : Run → FunTree → FunTree → ValueTree → List ValueTree
unnested r f g x = map (λ y. VPair (den_in r f x) y) (members (den_in r g x))

abbrev pub unnested_visits : Run → FunTree → FunTree → ValueTree → ℕ
unnested_visits r f g x = 1 + visits_in r f x + visits_in r g x + length (members (den_in r g x))

-- the visits of a quantifier that stops where the test says
abbrev pub until_visits : Run → (Bool → Bool) → PredTree → ValueTree → List ValueTree → ℕ
until_visits r stops p x us = until (λ y. stops (holds_in r p (VPair x y))) (λ y. 1 + checks_in r p (VPair x y)) us

-- a number that falls from a term to its parts
abbrev mutual
  pub fun_weight : FunTree → ℕ
  fun_weight (FComp f g) = 1 + fun_weight f + fun_weight g
  fun_weight (FPair f g) = 1 + fun_weight f + fun_weight g
  fun_weight (FTimes f g) = 1 + fun_weight f + fun_weight g
  fun_weight (FC f c) = 1 + fun_weight f
  fun_weight (FIf p f g) = 1 + pred_weight p + fun_weight f + fun_weight g
  fun_weight (FIterate p f) = 1 + pred_weight p + fun_weight f
  fun_weight (FIter p f) = 1 + pred_weight p + fun_weight f
  fun_weight (FJoin p f) = 1 + pred_weight p + fun_weight f
  fun_weight (FNest f g) = 1 + fun_weight f + fun_weight g
  fun_weight (FUnnest f g) = 1 + fun_weight f + fun_weight g
  fun_weight _ = 1

  pub pred_weight : PredTree → ℕ
  pred_weight (PAt p f) = 1 + pred_weight p + fun_weight f
  pred_weight (PAnd p q) = 1 + pred_weight p + pred_weight q
  pred_weight (POr p q) = 1 + pred_weight p + pred_weight q
  pred_weight (PNot p) = 1 + pred_weight p
  pred_weight (PInv p) = 1 + pred_weight p
  pred_weight (PCP p c) = 1 + pred_weight p
  pred_weight (PEx p) = 1 + pred_weight p
  pred_weight (PFa p) = 1 + pred_weight p
  pred_weight _ = 1

-- the term gives a pair: the value of one part at one value, and of the other at another
pub record Splits (g : FunTree) (v : ValueTree) (parts : Parts) : Type 0 where
  pub value : (S : Classes) (d : Objects) → den S d g v ≡ VPair (den S d (fun_tree parts.f.now) (lent_tree parts.x)) (den S d (fun_tree parts.g.now) (lent_tree parts.y))
  pub visits : (S : Classes) (d : Objects) → visits S d g v ≡ visits S d (fun_tree parts.f.now) (lent_tree parts.x) + visits S d (fun_tree parts.g.now) (lent_tree parts.y)
  pub weight : fun_weight g ≡ 1 + fun_weight (fun_tree parts.f.now) + fun_weight (fun_tree parts.g.now)
