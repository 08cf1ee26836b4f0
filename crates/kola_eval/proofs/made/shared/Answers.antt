use Rattle.std.proofs.Common.{◌∙◌, ap, filter, subst, List}
use Rattle.std.proofs.lemmas.Result.{IfOk-weaker}
use Rattle.kola_values.specs.Values.{ValueTree}
use Rattle.kola_values.specs.Sets.{Rising, has, members}
use Rattle.kola_values.proofs.Merging.{rising_filter}
use Rattle.kola_eval.specs.Lending.{set_tree}
use Rattle.kola_eval.proofs.Constants.{set_of_rising}
use Rattle.kola_eval.proofs.made.shared.Goals as goal

pub returns : goal.returns
returns c =
    let a = c.in_ok-a.ensures ∙ ap members c.first.ensures in
    let b = c.in_ok-b.ensures ∙ ap members c.second.ensures in
    let kept : List ValueTree → List ValueTree → List ValueTree = λ (xs : List ValueTree) (bs : List ValueTree). filter (λ x. has x bs) xs in
    IfOk-weaker c.boxed_set.result _ _
    (λ s p. p ∙ ap set_tree (c.in_ok-set.ensures ∙ (λ k. kept (a k) (b k))) ∙ set_of_rising _ (rising_filter _ _ (subst Rising a c.well_formed-2.ensures.rises)))
    c.boxed_set.ensures
