use Rattle.std.proofs.Common.{◌∙◌, ap, is_eq}
use Rattle.kola_values.specs.Order.{same}
use Rattle.kola_values.proofs.value.Set.is.Goals as goal

pub returns : goal.returns
unfolding same
returns c = c.is_eq.ensures ∙ ap is_eq c.cmp_sets.ensures
