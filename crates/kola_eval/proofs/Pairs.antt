-- What terms over two sets give and visit, where the members of both are at hand.
use Rattle.std.proofs.Common.{◌≡◌, ◌+◌, cond, List, map, filter, flat_map, length}
use Rattle.std.specs.Prelude.{sum_by}
use Rattle.kola_values.specs.Values.{ValueTree, VPair}
use Rattle.kola_values.specs.Order.{same}
use Rattle.kola_values.specs.Sets.{members, set_of}
use Rattle.kola_term.specs.Terms.{FunTree, PredTree, FJoin, FNest, FUnnest}
use Rattle.kola_term.specs.Meaning.{left, right}
use Rattle.kola_eval.specs.Evaluating.{den_in, holds_in, visits_in, member_visits}
use Rattle.kola_eval.specs.declared.run.Run.{Run}

module _ (r : Run) (v : ValueTree) (us ws : List ValueTree) (a : us ≡ members (left v)) (b : ws ≡ members (right v)) where
  pub join_value : (p : PredTree) (f : FunTree) → set_of (flat_map (λ x. map (λ y. den_in r f (VPair x y)) (filter (λ y. holds_in r p (VPair x y)) ws)) us) ≡ den_in r (FJoin p f) v
  join_value p f k = set_of (flat_map (λ x. map (λ y. den_in r f (VPair x y)) (filter (λ y. holds_in r p (VPair x y)) (b k))) (a k))

  pub join_visits : (p : PredTree) (f : FunTree) → sum_by (λ x. sum_by (λ y. member_visits r p f (VPair x y)) ws) us ≡ visits_in r (FJoin p f) v
  join_visits p f k = sum_by (λ x. sum_by (λ y. member_visits r p f (VPair x y)) (b k)) (a k)

  pub nest_value : (f g : FunTree) → set_of (map (λ y. VPair y (set_of (map (λ x. den_in r g x) (filter (λ x. same (den_in r f x) y) us)))) ws) ≡ den_in r (FNest f g) v
  nest_value f g k = set_of (map (λ y. VPair y (set_of (map (λ x. den_in r g x) (filter (λ x. same (den_in r f x) y) (a k))))) (b k))

  pub nest_visits : (f g : FunTree) → sum_by (λ y. sum_by (λ x. 1 + visits_in r f x + cond (same (den_in r f x) y) (visits_in r g x) 0) us) ws ≡ visits_in r (FNest f g) v
  nest_visits f g k = sum_by (λ y. sum_by (λ x. 1 + visits_in r f x + cond (same (den_in r f x) y) (visits_in r g x) 0) (a k)) (b k)

module _ (r : Run) (v : ValueTree) (us : List ValueTree) (a : us ≡ members v) (f g : FunTree) where
  pub unnest_value : set_of (flat_map (λ x. map (λ y. VPair (den_in r f x) y) (members (den_in r g x))) us) ≡ den_in r (FUnnest f g) v
  unnest_value k = set_of (flat_map (λ x. map (λ y. VPair (den_in r f x) y) (members (den_in r g x))) (a k))

  pub unnest_visits : sum_by (λ x. 1 + visits_in r f x + visits_in r g x + length (members (den_in r g x))) us ≡ visits_in r (FUnnest f g) v
  unnest_visits k = sum_by (λ x. 1 + visits_in r f x + visits_in r g x + length (members (den_in r g x))) (a k)
