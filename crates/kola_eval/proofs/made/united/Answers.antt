use Rattle.std.proofs.Common.{◌∙◌, ◌++◌, ap}
use Rattle.std.proofs.lemmas.Result.{IfOk-weaker}
use Rattle.kola_values.specs.Sets.{canon, members}
use Rattle.kola_eval.specs.Lending.{set_tree}
use Rattle.kola_eval.proofs.Constants.{set_of_canon}
use Rattle.kola_eval.proofs.made.united.Goals as goal

pub returns : goal.returns
returns c =
    let a = c.in_ok-a.ensures ∙ ap members c.first.ensures in
    let b = c.in_ok-b.ensures ∙ ap members c.second.ensures in
    IfOk-weaker c.boxed_set.result _ _ (λ s p. p ∙ ap set_tree (c.in_ok-set.ensures ∙ (λ k. canon (a k ++ b k))) ∙ set_of_canon _) c.boxed_set.ensures
