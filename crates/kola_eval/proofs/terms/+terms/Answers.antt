use Rattle.std.proofs.Common.{rules, ◌≡◌, not, refl, sym, ap, ◌∙◌, subst, is_eq}
use Rattle.std.proofs.lemmas.Result.{IfOk-weaker}
use Rattle.std.proofs.lemmas.List.Sums.{sum_by-cons}
use Rattle.kola_values.specs.Order.{cmp, same}
use Rattle.kola_values.specs.Sets.{members}
use Rattle.kola_values.specs.Views.{value_tree}
use Rattle.kola_term.specs.Terms.{FJoin, FNest, FUnnest}
use Rattle.kola_term.specs.TermView.{fun_tree, pred_tree}
use Rattle.kola_eval.specs.Lending.{lent_tree, Paid}
use Rattle.kola_eval.specs.Evaluating.{den_in, visits_in}
use Rattle.kola_eval.proofs.Taking.{handed_on, at_next, past, built_more, built_stop, pick_step, each_more, seeking_more, seeking_found, seeking_paid, seeking_stop, seeking_none, all_any}
use Rattle.kola_eval.proofs.Pairs.{join_value, join_visits, nest_value, nest_visits, unnest_value, unnest_visits}
use Rattle.kola_eval.proofs.terms.+terms.Goals as goal

pub iterated-returns-in_err-visit-clause-paid : goal.iterated-returns-in_err-visit-clause-paid
iterated-returns-in_err-visit-clause-paid t c =
    handed_on _ _ _ c.from_residual.result _ c.from_residual.ensures.1
    (built_stop _ _ _ (sum_by-cons _) _ _ _ _ _ _ _ _ (at_next value_tree c.args.members.now c.loop-x.x-index c.x-item.result c.loop-x-test.true c.x-item.is) c.loop-x.invariant c.in_err-visit.ensures.paid)

pub iterated-loop-x-preserved : goal.iterated-loop-x-preserved
iterated-loop-x-preserved t c =
    built_more _ _ _ _ (pick_step _ _) (sum_by-cons _) _ _ _ _ _ _ _ _ _ (at_next value_tree c.args.members.now c.loop-x.x-index c.x-item.result c.loop-x-test.true c.x-item.is) c.loop-x.invariant c.in_ok-visit.ensures.made c.in_ok-visit.ensures.paid

pub visit_each-returns-in_err-visit_beside-clause-paid : goal.visit_each-returns-in_err-visit_beside-clause-paid
visit_each-returns-in_err-visit_beside-clause-paid t c =
    handed_on _ _ _ c.from_residual.result _ c.from_residual.ensures.1
    (built_stop _ _ _ (sum_by-cons _) _ _ _ _ _ _ _ _ (at_next value_tree c.args.members.now c.loop-y.y-index c.y-item.result c.loop-y-test.true c.y-item.is) c.loop-y.invariant c.in_err-visit_beside.ensures.paid)

pub visit_each-loop-y-preserved : goal.visit_each-loop-y-preserved
visit_each-loop-y-preserved t c =
    built_more _ _ _ _ (pick_step _ _) (sum_by-cons _) _ _ _ _ _ _ _ _ _ (at_next value_tree c.args.members.now c.loop-y.y-index c.y-item.result c.loop-y-test.true c.y-item.is) c.loop-y.invariant c.in_ok-visit_beside.ensures.made c.in_ok-visit_beside.ensures.paid

pub crossed-returns-in_err-visit_each-clause-paid : goal.crossed-returns-in_err-visit_each-clause-paid
crossed-returns-in_err-visit_each-clause-paid t c =
    handed_on _ _ _ c.from_residual.result _ c.from_residual.ensures.1
    (built_stop _ _ _ (sum_by-cons _) _ _ _ _ _ _ _ _ (at_next value_tree c.args.first.now c.loop-x.x-index c.x-item.result c.loop-x-test.true c.x-item.is) c.loop-x.invariant c.in_err-visit_each.ensures.paid)

pub crossed-loop-x-preserved : goal.crossed-loop-x-preserved
crossed-loop-x-preserved t c =
    built_more _ _ _ _ (λ _ _. refl) (sum_by-cons _) _ _ _ _ _ _ _ _ _ (at_next value_tree c.args.first.now c.loop-x.x-index c.x-item.result c.loop-x-test.true c.x-item.is) c.loop-x.invariant c.in_ok-visit_each.ensures.made c.in_ok-visit_each.ensures.paid

pub matches_of-returns-in_err-visit_match-clause-paid : goal.matches_of-returns-in_err-visit_match-clause-paid
matches_of-returns-in_err-visit_match-clause-paid t c =
    handed_on _ _ _ c.from_residual.result _ c.from_residual.ensures.1
    (built_stop _ _ _ (sum_by-cons _) _ _ _ _ _ _ _ _ (at_next value_tree c.args.members.now c.loop-x.x-index c.x-item.result c.loop-x-test.true c.x-item.is) c.loop-x.invariant c.in_err-visit_match.ensures.paid)

pub matches_of-loop-x-preserved : goal.matches_of-loop-x-preserved
matches_of-loop-x-preserved t c =
    built_more _ _ _ _ (pick_step _ _) (sum_by-cons _) _ _ _ _ _ _ _ _ _ (at_next value_tree c.args.members.now c.loop-x.x-index c.x-item.result c.loop-x-test.true c.x-item.is) c.loop-x.invariant c.in_ok-visit_match.ensures.made c.in_ok-visit_match.ensures.paid

pub nested-returns-in_err-add_matches-clause-paid : goal.nested-returns-in_err-add_matches-clause-paid
nested-returns-in_err-add_matches-clause-paid t c =
    handed_on _ _ _ c.from_residual.result _ c.from_residual.ensures.1
    (built_stop _ _ _ (sum_by-cons _) _ _ _ _ _ _ _ _ (at_next value_tree c.args.second.now c.loop-y.y-index c.y-item.result c.loop-y-test.true c.y-item.is) c.loop-y.invariant c.in_err-add_matches.ensures.paid)

pub nested-loop-y-preserved : goal.nested-loop-y-preserved
nested-loop-y-preserved t c =
    each_more _ _ _ _ _ _ _ _ _ _ _ (at_next value_tree c.args.second.now c.loop-y.y-index c.y-item.result c.loop-y-test.true c.y-item.is) c.loop-y.invariant c.in_ok-add_matches.ensures.made c.in_ok-add_matches.ensures.paid

pub unnested-returns-in_err-visit_pairs-clause-paid : goal.unnested-returns-in_err-visit_pairs-clause-paid
unnested-returns-in_err-visit_pairs-clause-paid t c =
    handed_on _ _ _ c.from_residual.result _ c.from_residual.ensures.1
    (built_stop _ _ _ (sum_by-cons _) _ _ _ _ _ _ _ _ (at_next value_tree c.args.values.now c.loop-x.x-index c.x-item.result c.loop-x-test.true c.x-item.is) c.loop-x.invariant c.in_err-visit_pairs.ensures.paid)

pub unnested-loop-x-preserved : goal.unnested-loop-x-preserved
unnested-loop-x-preserved t c =
    built_more _ _ _ _ (λ _ _. refl) (sum_by-cons _) _ _ _ _ _ _ _ _ _ (at_next value_tree c.args.values.now c.loop-x.x-index c.x-item.result c.loop-x-test.true c.x-item.is) c.loop-x.invariant c.in_ok-visit_pairs.ensures.made c.in_ok-visit_pairs.ensures.paid

pub some_passes-returns-in_err-passes-clause-paid : goal.some_passes-returns-in_err-passes-clause-paid
some_passes-returns-in_err-passes-clause-paid t c =
    handed_on _ _ _ c.from_residual.result _ c.from_residual.ensures.1
    (seeking_stop _ _ _ _ _ _ 0 _ (at_next value_tree c.args.members.now c.loop-y.y-index c.y-item.result c.loop-y-test.true c.y-item.is) c.loop-y.invariant _ c.in_err-passes.ensures.paid)

pub each_passes-returns-in_err-passes-clause-paid : goal.each_passes-returns-in_err-passes-clause-paid
each_passes-returns-in_err-passes-clause-paid t c =
    handed_on _ _ _ c.from_residual.result _ c.from_residual.ensures.1
    (seeking_stop _ _ _ _ _ _ 0 _ (at_next value_tree c.args.members.now c.loop-y.y-index c.y-item.result c.loop-y-test.true c.y-item.is) c.loop-y.invariant _ c.in_err-passes.ensures.paid)

pub some_passes-returns-then-branch-clause-value : goal.some_passes-returns-then-branch-clause-value
some_passes-returns-then-branch-clause-value t c = sym (seeking_found _ _ _ _ _ _ 0 _ (at_next value_tree c.args.members.now c.loop-y.y-index c.y-item.result c.loop-y-test.true c.y-item.is) c.loop-y.invariant (sym c.in_ok-passes.ensures.value ∙ c.if-branch.true))

pub some_passes-returns-then-branch-clause-paid : goal.some_passes-returns-then-branch-clause-paid
some_passes-returns-then-branch-clause-paid t c = seeking_paid _ _ _ _ _ _ _ _ (at_next value_tree c.args.members.now c.loop-y.y-index c.y-item.result c.loop-y-test.true c.y-item.is) c.loop-y.invariant (sym c.in_ok-passes.ensures.value ∙ c.if-branch.true) c.in_ok-passes.ensures.paid

pub some_passes-loop-y-preserved : goal.some_passes-loop-y-preserved
some_passes-loop-y-preserved t c = seeking_more _ _ _ _ _ _ _ _ (at_next value_tree c.args.members.now c.loop-y.y-index c.y-item.result c.loop-y-test.true c.y-item.is) c.loop-y.invariant (sym c.in_ok-passes.ensures.value ∙ c.if-branch.false) c.in_ok-passes.ensures.paid

pub some_passes-returns-clause-value : goal.some_passes-returns-clause-value
some_passes-returns-clause-value t c = sym (seeking_none _ _ _ _ _ _ (past value_tree c.args.members.now c.loop-y.y-index c.loop-y-test.false) c.loop-y.invariant)

pub each_passes-returns-then-not-branch-clause-value : goal.each_passes-returns-then-not-branch-clause-value
each_passes-returns-then-not-branch-clause-value t c = sym (all_any _ _ ∙ ap not (seeking_found _ _ _ _ _ _ 0 _ (at_next value_tree c.args.members.now c.loop-y.y-index c.y-item.result c.loop-y-test.true c.y-item.is) c.loop-y.invariant (ap not (sym c.in_ok-passes.ensures.value ∙ c.if-not-branch.true))))

pub each_passes-returns-then-not-branch-clause-paid : goal.each_passes-returns-then-not-branch-clause-paid
each_passes-returns-then-not-branch-clause-paid t c = seeking_paid _ _ _ _ _ _ _ _ (at_next value_tree c.args.members.now c.loop-y.y-index c.y-item.result c.loop-y-test.true c.y-item.is) c.loop-y.invariant (ap not (sym c.in_ok-passes.ensures.value ∙ c.if-not-branch.true)) c.in_ok-passes.ensures.paid

pub each_passes-loop-y-preserved : goal.each_passes-loop-y-preserved
each_passes-loop-y-preserved t c = seeking_more _ _ _ _ _ _ _ _ (at_next value_tree c.args.members.now c.loop-y.y-index c.y-item.result c.loop-y-test.true c.y-item.is) c.loop-y.invariant (ap not (sym c.in_ok-passes.ensures.value ∙ c.if-not-branch.false)) c.in_ok-passes.ensures.paid

pub each_passes-returns-clause-value : goal.each_passes-returns-clause-value
each_passes-returns-clause-value t c = sym (all_any _ _ ∙ ap not (seeking_none _ _ _ _ _ _ (past value_tree c.args.members.now c.loop-y.y-index c.loop-y-test.false) c.loop-y.invariant))

pub is_at-returns-clause-value : goal.is_at-returns-clause-value
unfolding same
is_at-returns-clause-value t c = c.is_eq.ensures ∙ ap is_eq (c.in_ok-order.ensures ∙ ap (λ v. cmp v (value_tree c.args.y.now)) (c.as_lent.ensures ∙ c.in_ok-value.ensures.value))

pub pred_at-returns-in_ok-order_in-in-Eq-clause-value : goal.pred_at-returns-in_ok-order_in-in-Eq-clause-value
unfolding same
pred_at-returns-in_ok-order_in-in-Eq-clause-value t c = search rules

pub fun_at-returns-in-Join-clause-value : goal.fun_at-returns-in-Join-clause-value
fun_at-returns-in-Join-clause-value t c =
    let is : fun_tree c.args.f.now ≡ FJoin (pred_tree c.deref-in-Join.result.now) (fun_tree c.deref-in-Join-2.result.now) = search rules in
    let us = c.members_in-in-Join.ensures ∙ ap members c.first-in-Join.ensures in
    let ws = c.members_in-in-Join-2.ensures ∙ ap members c.second-in-Join.ensures in
    IfOk-weaker c.crossed.result _ _ (λ h p. p ∙ join_value c.args.run (lent_tree c.args.x) _ _ us ws (pred_tree c.deref-in-Join.result.now) (fun_tree c.deref-in-Join-2.result.now) ∙ ap (λ f. den_in c.args.run f (lent_tree c.args.x)) (sym is)) c.crossed.ensures.value

pub fun_at-returns-in-Join-clause-paid : goal.fun_at-returns-in-Join-clause-paid
fun_at-returns-in-Join-clause-paid t c =
    let is : fun_tree c.args.f.now ≡ FJoin (pred_tree c.deref-in-Join.result.now) (fun_tree c.deref-in-Join-2.result.now) = search rules in
    let us = c.members_in-in-Join.ensures ∙ ap members c.first-in-Join.ensures in
    let ws = c.members_in-in-Join-2.ensures ∙ ap members c.second-in-Join.ensures in
    subst (λ n. Paid n c.args.left.now c.crossed.new.left c.crossed.result) (join_visits c.args.run (lent_tree c.args.x) _ _ us ws (pred_tree c.deref-in-Join.result.now) (fun_tree c.deref-in-Join-2.result.now) ∙ ap (λ f. visits_in c.args.run f (lent_tree c.args.x)) (sym is)) c.crossed.ensures.paid

pub fun_at-returns-in-Nest-clause-value : goal.fun_at-returns-in-Nest-clause-value
fun_at-returns-in-Nest-clause-value t c =
    let is : fun_tree c.args.f.now ≡ FNest (fun_tree c.deref-in-Nest.result.now) (fun_tree c.deref-in-Nest-2.result.now) = search rules in
    let us = c.members_in-in-Nest.ensures ∙ ap members c.first-in-Nest.ensures in
    let ws = c.members_in-in-Nest-2.ensures ∙ ap members c.second-in-Nest.ensures in
    IfOk-weaker c.nested.result _ _ (λ h p. p ∙ nest_value c.args.run (lent_tree c.args.x) _ _ us ws (fun_tree c.deref-in-Nest.result.now) (fun_tree c.deref-in-Nest-2.result.now) ∙ ap (λ f. den_in c.args.run f (lent_tree c.args.x)) (sym is)) c.nested.ensures.value

pub fun_at-returns-in-Nest-clause-paid : goal.fun_at-returns-in-Nest-clause-paid
fun_at-returns-in-Nest-clause-paid t c =
    let is : fun_tree c.args.f.now ≡ FNest (fun_tree c.deref-in-Nest.result.now) (fun_tree c.deref-in-Nest-2.result.now) = search rules in
    let us = c.members_in-in-Nest.ensures ∙ ap members c.first-in-Nest.ensures in
    let ws = c.members_in-in-Nest-2.ensures ∙ ap members c.second-in-Nest.ensures in
    subst (λ n. Paid n c.args.left.now c.nested.new.left c.nested.result) (nest_visits c.args.run (lent_tree c.args.x) _ _ us ws (fun_tree c.deref-in-Nest.result.now) (fun_tree c.deref-in-Nest-2.result.now) ∙ ap (λ f. visits_in c.args.run f (lent_tree c.args.x)) (sym is)) c.nested.ensures.paid

pub fun_at-returns-in-Unnest-clause-value : goal.fun_at-returns-in-Unnest-clause-value
fun_at-returns-in-Unnest-clause-value t c =
    let is : fun_tree c.args.f.now ≡ FUnnest (fun_tree c.deref-in-Unnest.result.now) (fun_tree c.deref-in-Unnest-2.result.now) = search rules in
    IfOk-weaker c.unnested.result _ _ (λ h p. p ∙ unnest_value c.args.run (lent_tree c.args.x) _ c.members_in-in-Unnest.ensures (fun_tree c.deref-in-Unnest.result.now) (fun_tree c.deref-in-Unnest-2.result.now) ∙ ap (λ f. den_in c.args.run f (lent_tree c.args.x)) (sym is)) c.unnested.ensures.value

pub fun_at-returns-in-Unnest-clause-paid : goal.fun_at-returns-in-Unnest-clause-paid
fun_at-returns-in-Unnest-clause-paid t c =
    let is : fun_tree c.args.f.now ≡ FUnnest (fun_tree c.deref-in-Unnest.result.now) (fun_tree c.deref-in-Unnest-2.result.now) = search rules in
    subst (λ n. Paid n c.args.left.now c.unnested.new.left c.unnested.result) (unnest_visits c.args.run (lent_tree c.args.x) _ c.members_in-in-Unnest.ensures (fun_tree c.deref-in-Unnest.result.now) (fun_tree c.deref-in-Unnest-2.result.now) ∙ ap (λ f. visits_in c.args.run f (lent_tree c.args.x)) (sym is)) c.unnested.ensures.paid
