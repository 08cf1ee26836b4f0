use Rattle.std.proofs.Common.{Some, None}
use Rattle.kola_eval.proofs.Constants.{extent_found}
use Rattle.kola_eval.proofs.run.Run.extent.Goals as goal

pub returns-in-Some : goal.returns-in-Some
returns-in-Some c = extent_found c.args.self.now.schema.now c.args.self.now.db.now c.args.name.now (Some c.in-Some.set.now) c.args.self.now.extents c.in-Some.ensures

pub returns-in-None : goal.returns-in-None
returns-in-None c = extent_found c.args.self.now.schema.now c.args.self.now.db.now c.args.name.now None c.args.self.now.extents c.in-None.ensures
