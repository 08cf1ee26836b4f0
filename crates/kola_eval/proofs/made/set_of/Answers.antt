use Rattle.std.proofs.Common.{◌∙◌, ap, map}
use Rattle.std.proofs.lemmas.Result.{IfOk-weaker}
use Rattle.kola_values.specs.Views.{value_tree}
use Rattle.kola_eval.specs.Lending.{set_tree}
use Rattle.kola_eval.proofs.Constants.{set_of_canon}
use Rattle.kola_eval.proofs.made.set_of.Goals as goal

pub returns : goal.returns
returns c = IfOk-weaker c.boxed_set.result _ _ (λ b p. p ∙ ap set_tree c.in_ok-set.ensures ∙ set_of_canon (map value_tree c.args.members.items)) c.boxed_set.ensures
