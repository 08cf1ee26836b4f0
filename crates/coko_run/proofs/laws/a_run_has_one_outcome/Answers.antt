use Rattle.coko_run.specs.Firing.{world}
use Rattle.coko_run.proofs.Legal.{at_most_one}
use Rattle.coko_run.proofs.Total.{some_outcome}
use Rattle.coko_run.proofs.laws.a_run_has_one_outcome.Goals as goal

pub returns-clause-one : goal.returns-clause-one
returns-clause-one c = at_most_one

pub returns-clause-some : goal.returns-clause-some
returns-clause-some c = λ S A. some_outcome (world S A)
