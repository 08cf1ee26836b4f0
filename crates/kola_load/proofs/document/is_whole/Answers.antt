use Rattle.std.proofs.Common.{is_some, option_and_then, sym, ap, ◌∙◌}
use Rattle.json.specs.Json.{if_last}
use Rattle.json.specs.Value.{value_view}
use Rattle.serde_json.specs.Read.{of_json}
use Rattle.kola_load.proofs.JsonData.{reads_where_fits}
use Rattle.kola_load.proofs.document.is_whole.Goals as goal

pub returns-in-None : goal.returns-in-None
returns-in-None c =
    let j = value_view c.args.value.now in
    c.value_fits.ensures ∙ sym (ap (λ r. is_some (option_and_then of_json (if_last j r))) c.in-None.ensures.value.0 ∙ reads_where_fits j)
