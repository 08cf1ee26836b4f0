use Rattle.std.proofs.Common.{arith}
use Rattle.kola_translate.proofs.path.+selector.Goals as goal

pub selector-requires : goal.selector-requires
selector-requires t c = (omega (arith, c.in-Some.ensures.cases.1, c.decreases), tt)
