use Rattle.std.proofs.Common.{◌∙◌, ap₂}
use Rattle.std.specs.Ordering.{ordering_then}
use Rattle.kola_database.proofs.keyed.cmp_place.Goals as goal

pub returns : goal.returns
returns c = c.then.ensures ∙ ap₂ ordering_then c.cmp_bytes.ensures c.cmp.ensures
