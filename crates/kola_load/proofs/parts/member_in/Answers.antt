use Rattle.std.proofs.Common.{option_map, ap, ◌∙◌}
use Rattle.json.specs.Value.{value_view}
use Rattle.kola_load.specs.JsonData.{data_of}
use Rattle.kola_load.proofs.JsonData.{get_data}
use Rattle.kola_load.proofs.JsonViews.{data_of_ref}
use Rattle.kola_load.proofs.parts.member_in.Goals as goal

pub returns : goal.returns
returns c = data_of_ref c.get.result ∙ ap (option_map data_of) c.get.ensures ∙ get_data c.args.name.now (value_view c.args.object.now)
