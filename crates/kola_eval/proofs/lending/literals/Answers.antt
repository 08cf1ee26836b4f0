use Rattle.std.proofs.Common.{ap, ◌∙◌}
use Rattle.kola_values.specs.Sets.{set_of}
use Rattle.kola_eval.proofs.Constants.{set_of_rising}
use Rattle.kola_eval.proofs.lending.literals.Goals as goal

pub returns : goal.returns
returns c = set_of_rising c.set-set.result.now c.well_formed-2.ensures.rises ∙ ap set_of c.set-set.ensures
