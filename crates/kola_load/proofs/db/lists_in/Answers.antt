use Rattle.kola_load.specs.Ids.{there}
use Rattle.kola_load.specs.JsonViews.{table_view}
use Rattle.kola_load.proofs.Phases.{lists_found}
use Rattle.kola_load.proofs.db.lists_in.Goals as goal

pub returns : goal.returns
returns c =
    lists_found c.args.schema.now (table_view c.args.members) c.in_ok-check_members.ensures.0 c.in_ok-ids.ensures.0 (there c.in_ok-ids.ids) c.in_ok-ids.ensures.1 c.read_objects.result c.read_objects.ensures
