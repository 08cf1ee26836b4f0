use Rattle.kola_load.proofs.IdTables.{updated}
use Rattle.kola_load.proofs.ids.Ids.insert.Goals as goal

pub returns : goal.returns
returns c = updated c.args.self.now.by_class c.insert.new.self c.in_ok-name.name c.args.ids c.in_ok-insert.ensures.updates c.args.class.now c.in_ok-name.ensures
