use Rattle.std.proofs.Common.{sym, ap}
use Rattle.kola_base.specs.Alphabets.{sign_or}
use Rattle.kola_base.proofs.SignLaws.{sign_again}
use Rattle.kola_base.proofs.alphabet.symbol_of.Goals as goal

pub returns-in-Sign : goal.returns-in-Sign
returns-in-Sign g c = rw c.in-Sign.is (sym (ap sign_or (sign_again c.in-Sign.sign)))
