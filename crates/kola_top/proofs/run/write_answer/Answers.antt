use Rattle.kola_top.specs.Runs.{whole, front}
use Rattle.kola_top.proofs.run.write_answer.Goals as goal

pub returns-in-Ok : goal.returns-in-Ok
returns-in-Ok g c = whole c.in-Ok.ensures.ok

pub returns-in-Err : goal.returns-in-Err
returns-in-Err g c = front c.in-Err.field-0.written c.in-Err.ensures.proper c.in-Err.ensures.err c.in-Err.ensures.cause.failed
