use Rattle.std.proofs.Common.{sym, ap, ◌∙◌}
use Rattle.serde_json.specs.Find.{as_array}
use Rattle.kola_load.specs.JsonViews.{view}
use Rattle.kola_load.proofs.JsonParts.{elements_seen}
use Rattle.kola_load.proofs.JsonViews.{array_view}
use Rattle.kola_load.proofs.parts.elements_in.Goals as goal

pub returns-in-Array : goal.returns-in-Array
returns-in-Array c = sym (elements_seen (view c.args.value) c.in-Array.elements.items (ap as_array (ap view c.in-Array.is ∙ array_view c.in-Array.elements)))
