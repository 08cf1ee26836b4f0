use Rattle.coko_run.specs.Firing.{world}
use Rattle.coko_run.proofs.Arms.{idle_none, idle_some}
use Rattle.coko_run.proofs.moves.idle.Goals as goal

pub returns-then-m-eq0 : goal.returns-then-m-eq0
returns-then-m-eq0 c = λ S A q. idle_none (world S A) c.args.ok _ q _ _ _ c.if-m-eq0.true

pub returns : goal.returns
returns c = λ S A q. idle_some (world S A) c.args.ok _ q _ _ _ c.if-m-eq0.false
