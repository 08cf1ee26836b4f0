use Rattle.coko_run.proofs.Kept.{runs_keep}
use Rattle.coko_run.proofs.laws.a_run_keeps_the_meaning.Goals as goal

pub returns : goal.returns
returns c = runs_keep
