use Rattle.coko_run.specs.Firing.{world}
use Rattle.coko_run.proofs.Arms.{step_none, step_some}
use Rattle.coko_run.proofs.moves.step.Goals as goal

pub returns-then-m-eq0 : goal.returns-then-m-eq0
returns-then-m-eq0 c = λ S A. step_none (world S A) _ _ _ _ _ _ c.if-m-eq0.true

pub returns : goal.returns
returns c = λ S A. step_some (world S A) _ _ _ _ _ _ c.if-m-eq0.false
