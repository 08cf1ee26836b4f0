use Rattle.std.proofs.Common.{arith, ap, length}
use Rattle.kola_base.proofs.PlacedLaws.{left_length}
use Rattle.kola_base.proofs.lexeme.Lexemes.len.Goals as goal

pub returns : goal.returns
returns c = let e = left_length c.self.inside.left.now c.self.inside.text.now c.self.invariant.ends in omega (arith, e, ap length c.self.view_is)
