use Rattle.std.proofs.Common.{◌∙◌, ap, ap₂}
use Rattle.std.specs.Ordering.{is_eq, ordering_then}
use Rattle.kola_values.specs.Order.{same}
use Rattle.kola_database.proofs.objects.is_object.Goals as goal

pub returns : goal.returns
unfolding same
returns c = c.is_eq.ensures ∙ ap is_eq (c.then.ensures ∙ ap₂ ordering_then c.cmp_bytes.ensures c.cmp.ensures)
