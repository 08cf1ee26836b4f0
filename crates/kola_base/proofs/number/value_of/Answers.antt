use Rattle.kola_base.proofs.Digits.{number_text, number_read}
use Rattle.kola_base.proofs.number.value_of.Goals as goal

pub returns-in-Ok : goal.returns-in-Ok
returns-in-Ok c =
    let same = c.in-Ok.ensures.cases.0 in
    let parsed = c.parse.ensures.value.0 in
    rw c.ok.ensures.value (number_read c.args.number.now c.parse.result c.requires (rw same at parsed))

pub returns-in-Err : goal.returns-in-Err
returns-in-Err c = absurd (c.in-Err.ensures.cases.0 (number_text c.args.number.now c.requires))
