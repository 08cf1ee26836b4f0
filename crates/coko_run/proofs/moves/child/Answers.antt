use Rattle.coko_plan.specs.Entries.{pick, table}
use Rattle.coko_plan.specs.EntryViews.{entries_of}
use Rattle.coko_run.specs.Firing.{world}
use Rattle.coko_run.specs.Views.{conf}
use Rattle.coko_run.proofs.Cases.{lead_all, none_counted, more_counted}
use Rattle.coko_run.proofs.Arms.{from_arms, walk, walk_end}
use Rattle.coko_run.proofs.moves.child.Goals as goal

pub returns-then-left-eq0 : goal.returns-then-left-eq0
returns-then-left-eq0 c = λ S A. from_arms (world S A) _ _ _ _ _ _ _ _ (none_counted (pick (table (entries_of c.args.plan.now)) c.args.i) c.args.last c.args.left c.if-left-eq0.true) (walk_end (world S A) _ _ _ _ _)

pub returns : goal.returns
returns c = lead_all c.first_below.result (conf (table (entries_of c.args.plan.now)) c.first_below.new.m) _ _ c.first_below.ensures
    (λ S A. from_arms (world S A) _ _ _ _ _ _ _ _ (more_counted (pick (table (entries_of c.args.plan.now)) c.args.i) c.args.last c.args.left _ c.if-left-eq0.false c.saturating_sub-number.ensures) (walk (world S A) _ _ _ _ _ _ _ _))
