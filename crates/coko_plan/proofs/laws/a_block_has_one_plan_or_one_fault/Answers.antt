use Rattle.coko_plan.proofs.Fitting.{plan_or_fault}
use Rattle.coko_plan.proofs.laws.a_block_has_one_plan_or_one_fault.Goals as goal

pub returns : goal.returns
returns c = plan_or_fault
