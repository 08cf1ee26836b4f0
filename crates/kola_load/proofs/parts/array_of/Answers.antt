use Rattle.std.proofs.Common.{sym, ap, ◌∙◌}
use Rattle.serde_json.specs.Find.{as_array}
use Rattle.kola_load.specs.JsonViews.{view}
use Rattle.kola_load.proofs.JsonViews.{array_view}
use Rattle.kola_load.proofs.parts.array_of.Goals as goal

pub returns-in-Array : goal.returns-in-Array
returns-in-Array c = sym (ap as_array (ap view c.in-Array.is ∙ array_view c.in-Array.elements))
