use Rattle.coko_plan.specs.Entries.{table}
use Rattle.coko_plan.specs.EntryViews.{entries_of}
use Rattle.coko_run.specs.Firing.{world}
use Rattle.coko_run.specs.Views.{conf}
use Rattle.coko_run.proofs.Cases.{lead_all}
use Rattle.coko_run.proofs.Arms.{from_arms, walk_at, walk_end}
use Rattle.coko_run.proofs.moves.walking.Goals as goal

pub returns-in-None : goal.returns-in-None
returns-in-None c = λ S A. from_arms (world S A) _ _ _ _ _ _ _ _ c.in-None.ensures.none (walk_end (world S A) _ _ _ _ _)

pub returns-in-Some : goal.returns-in-Some
returns-in-Some c = lead_all c.first_below.result (conf (table (entries_of c.args.plan.now)) c.first_below.new.m) _ _ c.first_below.ensures
    (λ S A. from_arms (world S A) _ _ _ _ _ _ _ _ c.in-Some.ensures.some (walk_at (world S A) _ _ _ _ _ _ _ _ _ c.as_slice.ensures))
