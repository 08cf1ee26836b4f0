use Rattle.std.proofs.Common.{ap, ◌∙◌}
use Rattle.std.specs.Ordering.{is_eq}
use Rattle.kola_values.specs.Order.{same}
use Rattle.kola_values.proofs.value.Value.is.Goals as goal

pub returns : goal.returns
unfolding same
returns c = c.is_eq.ensures ∙ ap is_eq c.cmp_values.ensures
