use Rattle.coko_plan.proofs.EntryLaws.{entry_stands}
use Rattle.coko_plan.proofs.plan.Plan.entry.Goals as goal

pub returns-clause-stands : goal.returns-clause-stands
returns-clause-stands c = entry_stands c.args.self.now.0 c.args.n c.at.result c.well_formed-2.ensures.lower c.at.ensures
