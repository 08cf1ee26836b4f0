use Rattle.coko_plan.specs.Entries.{table}
use Rattle.coko_plan.specs.EntryViews.{entries_of}
use Rattle.coko_run.proofs.Frames.{pop_some, pop_none, pop_still}
use Rattle.coko_run.proofs.stack.pop.Goals as goal

pub returns-clause-some : goal.returns-clause-some
returns-clause-some c = pop_some (table (entries_of c.args.plan.now)) c.args.stack.now.items c.pop.new.self.items c.pop.result c.pop.ensures.items

pub returns-clause-none : goal.returns-clause-none
returns-clause-none c = pop_none (table (entries_of c.args.plan.now)) c.args.stack.now.items _ _ c.pop.result _ _ c.as_slice-items.ensures.value c.as_slice-items.ensures.len c.pop.ensures.cases

pub returns-clause-still : goal.returns-clause-still
returns-clause-still c = pop_still (table (entries_of c.args.plan.now)) c.args.stack.now.items c.pop.new.self.items _ c.pop.result _ _ _ c.as_slice-items.ensures.value c.as_slice-items.ensures.len c.pop.ensures.cases c.pop.ensures.items
