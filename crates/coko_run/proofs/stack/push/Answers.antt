use Rattle.std.proofs.Common.{◌∙◌, ap}
use Rattle.coko_plan.specs.Entries.{table}
use Rattle.coko_plan.specs.EntryViews.{entries_of}
use Rattle.coko_run.specs.Views.{frames}
use Rattle.coko_run.proofs.Frames.{pushed_frames}
use Rattle.coko_run.proofs.stack.push.Goals as goal

pub returns : goal.returns
returns c = ap (frames (table (entries_of c.args.plan.now))) c.in_ok-push.ensures.items ∙ pushed_frames (table (entries_of c.args.plan.now)) c.args.stack.now.items c.args.frame
