use Rattle.std.proofs.Common.{sym}
use Rattle.kola_base.proofs.Total.{string_stuck}
use Rattle.kola_base.proofs.lex.next_piece.Goals as goal

pub returns-in-Some-string_fault-clause-err : goal.returns-in-Some-string_fault-clause-err
returns-in-Some-string_fault-clause-err c = string_stuck c.args.rest.now c.in-Some-Quoted-default.len c.in-Some-string_fault.fault.0 c.in-Some-string_fault.fault.1 (rw c.in-Some-Quoted-default.field-0-0-is at c.in-Some-Quoted-default.ensures.some) (sym c.in-Some-string_fault.ensures.is)
