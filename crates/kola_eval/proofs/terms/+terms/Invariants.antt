use Rattle.std.proofs.Common.{◌+◌, ◌*◌, not, cond, [], drop, map, filter, flat_map, length}
use Rattle.std.specs.Prelude.{sum_by}
use Rattle.kola_values.specs.Values.{VPair}
use Rattle.kola_values.specs.Order.{same}
use Rattle.kola_values.specs.Sets.{members, set_of}
use Rattle.kola_values.specs.Views.{value_tree}
use Rattle.kola_term.specs.TermView.{fun_tree, pred_tree}
use Rattle.kola_eval.specs.Lending.{lent_tree}
use Rattle.kola_eval.specs.Evaluating.{den_in, holds_in, visits_in, checks_in, member_visits, fun_weight, pred_weight}
use Rattle.kola_eval.proofs.Taking.{Built, Seeking}
use Rattle.kola_eval.proofs.terms.+terms.Given as goal

abbrev pub decreases-fun_at : goal.decreases-fun_at
decreases-fun_at l = 8 * fun_weight (fun_tree l.f.now)

abbrev pub decreases-pred_at : goal.decreases-pred_at
decreases-pred_at l = 8 * pred_weight (pred_tree l.p.now)

abbrev pub decreases-beside : goal.decreases-beside
decreases-beside l = 8 * fun_weight (fun_tree l.f.now) + 1

abbrev pub decreases-behind : goal.decreases-behind
decreases-behind l = 8 * fun_weight (fun_tree l.f.now) + 1

abbrev pub decreases-composed : goal.decreases-composed
decreases-composed l = 8 * (fun_weight (fun_tree l.f.now) + fun_weight (fun_tree l.g.now)) + 3

abbrev pub decreases-composed_pair : goal.decreases-composed_pair
decreases-composed_pair l = 8 * (fun_weight (fun_tree l.f.now) + fun_weight (fun_tree l.parts.f.now) + fun_weight (fun_tree l.parts.g.now)) + 2

abbrev pub decreases-composed_whole : goal.decreases-composed_whole
decreases-composed_whole l = 8 * (fun_weight (fun_tree l.f.now) + fun_weight (fun_tree l.g.now)) + 2

abbrev pub decreases-boxed_at : goal.decreases-boxed_at
decreases-boxed_at l = 8 * fun_weight (fun_tree l.f.now) + 1

abbrev pub decreases-both : goal.decreases-both
decreases-both l = 8 * (fun_weight (fun_tree l.f.now) + fun_weight (fun_tree l.g.now)) + 2

abbrev pub decreases-chosen : goal.decreases-chosen
decreases-chosen l = 8 * (pred_weight (pred_tree l.p.now) + fun_weight (fun_tree l.f.now) + fun_weight (fun_tree l.g.now)) + 1

abbrev pub decreases-add : goal.decreases-add
decreases-add l = 8 * fun_weight (fun_tree l.f.now) + 1

abbrev pub decreases-visit : goal.decreases-visit
decreases-visit l = 8 * (pred_weight (pred_tree l.p.now) + fun_weight (fun_tree l.f.now)) + 2

abbrev pub decreases-visit_beside : goal.decreases-visit_beside
decreases-visit_beside l = 8 * (pred_weight (pred_tree l.p.now) + fun_weight (fun_tree l.f.now)) + 3

abbrev pub decreases-iterated : goal.decreases-iterated
decreases-iterated l = 8 * (pred_weight (pred_tree l.p.now) + fun_weight (fun_tree l.f.now)) + 4

abbrev pub decreases-visit_each : goal.decreases-visit_each
decreases-visit_each l = 8 * (pred_weight (pred_tree l.p.now) + fun_weight (fun_tree l.f.now)) + 4

abbrev pub decreases-paired_with : goal.decreases-paired_with
decreases-paired_with l = 8 * (pred_weight (pred_tree l.p.now) + fun_weight (fun_tree l.f.now)) + 5

abbrev pub decreases-crossed : goal.decreases-crossed
decreases-crossed l = 8 * (pred_weight (pred_tree l.p.now) + fun_weight (fun_tree l.f.now)) + 5

abbrev pub decreases-is_at : goal.decreases-is_at
decreases-is_at l = 8 * fun_weight (fun_tree l.f.now) + 1

abbrev pub decreases-visit_match : goal.decreases-visit_match
decreases-visit_match l = 8 * (fun_weight (fun_tree l.f.now) + fun_weight (fun_tree l.g.now)) + 2

abbrev pub decreases-matches_of : goal.decreases-matches_of
decreases-matches_of l = 8 * (fun_weight (fun_tree l.f.now) + fun_weight (fun_tree l.g.now)) + 3

abbrev pub decreases-add_matches : goal.decreases-add_matches
decreases-add_matches l = 8 * (fun_weight (fun_tree l.f.now) + fun_weight (fun_tree l.g.now)) + 4

abbrev pub decreases-nested : goal.decreases-nested
decreases-nested l = 8 * (fun_weight (fun_tree l.f.now) + fun_weight (fun_tree l.g.now)) + 5

abbrev pub decreases-add_pairs : goal.decreases-add_pairs
decreases-add_pairs l = 8 * fun_weight (fun_tree l.g.now) + 1

abbrev pub decreases-visit_pairs : goal.decreases-visit_pairs
decreases-visit_pairs l = 8 * (fun_weight (fun_tree l.f.now) + fun_weight (fun_tree l.g.now)) + 2

abbrev pub decreases-unnested : goal.decreases-unnested
decreases-unnested l = 8 * (fun_weight (fun_tree l.f.now) + fun_weight (fun_tree l.g.now)) + 3

abbrev pub decreases-conjunction : goal.decreases-conjunction
decreases-conjunction l = 8 * (pred_weight (pred_tree l.p.now) + pred_weight (pred_tree l.q.now)) + 1

abbrev pub decreases-disjunction : goal.decreases-disjunction
decreases-disjunction l = 8 * (pred_weight (pred_tree l.p.now) + pred_weight (pred_tree l.q.now)) + 1

abbrev pub decreases-pred_beside : goal.decreases-pred_beside
decreases-pred_beside l = 8 * pred_weight (pred_tree l.p.now) + 1

abbrev pub decreases-pred_behind : goal.decreases-pred_behind
decreases-pred_behind l = 8 * (pred_weight (pred_tree l.p.now) + fun_weight (fun_tree l.f.now)) + 3

abbrev pub decreases-pred_at_pair : goal.decreases-pred_at_pair
decreases-pred_at_pair l = 8 * (pred_weight (pred_tree l.p.now) + fun_weight (fun_tree l.parts.f.now) + fun_weight (fun_tree l.parts.g.now)) + 2

abbrev pub decreases-pred_at_whole : goal.decreases-pred_at_whole
decreases-pred_at_whole l = 8 * (pred_weight (pred_tree l.p.now) + fun_weight (fun_tree l.f.now)) + 2

abbrev pub decreases-passes : goal.decreases-passes
decreases-passes l = 8 * pred_weight (pred_tree l.p.now) + 2

abbrev pub decreases-some_passes : goal.decreases-some_passes
decreases-some_passes l = 8 * pred_weight (pred_tree l.p.now) + 3

abbrev pub decreases-each_passes : goal.decreases-each_passes
decreases-each_passes l = 8 * pred_weight (pred_tree l.p.now) + 3

abbrev pub invariant-iterated-loop-x : goal.invariant-iterated-loop-x
invariant-iterated-loop-x l = Built (λ xs. map (λ x. den_in l.run (fun_tree l.f) x) (filter (λ x. holds_in l.run (pred_tree l.p) x) xs)) (sum_by (λ x. member_visits l.run (pred_tree l.p) (fun_tree l.f) x)) (map value_tree l.members) (drop l.x-index (map value_tree l.members)) [] (map value_tree l.made.items) l.initial.left l.left

abbrev pub invariant-visit_each-loop-y : goal.invariant-visit_each-loop-y
invariant-visit_each-loop-y l = Built (λ ys. map (λ y. den_in l.run (fun_tree l.f) (VPair (lent_tree l.x) y)) (filter (λ y. holds_in l.run (pred_tree l.p) (VPair (lent_tree l.x) y)) ys)) (sum_by (λ y. member_visits l.run (pred_tree l.p) (fun_tree l.f) (VPair (lent_tree l.x) y))) (map value_tree l.members) (drop l.y-index (map value_tree l.members)) (map value_tree l.initial.made.items) (map value_tree l.made.items) l.initial.left l.left

abbrev pub invariant-crossed-loop-x : goal.invariant-crossed-loop-x
invariant-crossed-loop-x l = Built (flat_map (λ x. map (λ y. den_in l.run (fun_tree l.f) (VPair x y)) (filter (λ y. holds_in l.run (pred_tree l.p) (VPair x y)) (map value_tree l.second)))) (sum_by (λ x. sum_by (λ y. member_visits l.run (pred_tree l.p) (fun_tree l.f) (VPair x y)) (map value_tree l.second))) (map value_tree l.first) (drop l.x-index (map value_tree l.first)) [] (map value_tree l.made.items) l.initial.left l.left

abbrev pub invariant-matches_of-loop-x : goal.invariant-matches_of-loop-x
invariant-matches_of-loop-x l = Built (λ xs. map (λ x. den_in l.run (fun_tree l.g) x) (filter (λ x. same (den_in l.run (fun_tree l.f) x) (value_tree l.y)) xs)) (sum_by (λ x. 1 + visits_in l.run (fun_tree l.f) x + cond (same (den_in l.run (fun_tree l.f) x) (value_tree l.y)) (visits_in l.run (fun_tree l.g) x) 0)) (map value_tree l.members) (drop l.x-index (map value_tree l.members)) [] (map value_tree l.made.items) l.initial.left l.left

abbrev pub invariant-nested-loop-y : goal.invariant-nested-loop-y
invariant-nested-loop-y l = Built (map (λ y. VPair y (set_of (map (λ x. den_in l.run (fun_tree l.g) x) (filter (λ x. same (den_in l.run (fun_tree l.f) x) y) (map value_tree l.first)))))) (sum_by (λ y. sum_by (λ x. 1 + visits_in l.run (fun_tree l.f) x + cond (same (den_in l.run (fun_tree l.f) x) y) (visits_in l.run (fun_tree l.g) x) 0) (map value_tree l.first))) (map value_tree l.second) (drop l.y-index (map value_tree l.second)) [] (map value_tree l.made.items) l.initial.left l.left

abbrev pub invariant-unnested-loop-x : goal.invariant-unnested-loop-x
invariant-unnested-loop-x l = Built (flat_map (λ x. map (λ y. VPair (den_in l.run (fun_tree l.f) x) y) (members (den_in l.run (fun_tree l.g) x)))) (sum_by (λ x. 1 + visits_in l.run (fun_tree l.f) x + visits_in l.run (fun_tree l.g) x + length (members (den_in l.run (fun_tree l.g) x)))) (map value_tree l.values) (drop l.x-index (map value_tree l.values)) [] (map value_tree l.made.items) l.initial.left l.left

abbrev pub invariant-some_passes-loop-y : goal.invariant-some_passes-loop-y
invariant-some_passes-loop-y l = Seeking (λ y. holds_in l.run (pred_tree l.p) (VPair (lent_tree l.x) y)) (λ y. 1 + checks_in l.run (pred_tree l.p) (VPair (lent_tree l.x) y)) (map value_tree l.members) (drop l.y-index (map value_tree l.members)) l.initial.left l.left

abbrev pub invariant-each_passes-loop-y : goal.invariant-each_passes-loop-y
invariant-each_passes-loop-y l = Seeking (λ y. not (holds_in l.run (pred_tree l.p) (VPair (lent_tree l.x) y))) (λ y. 1 + checks_in l.run (pred_tree l.p) (VPair (lent_tree l.x) y)) (map value_tree l.members) (drop l.y-index (map value_tree l.members)) l.initial.left l.left
