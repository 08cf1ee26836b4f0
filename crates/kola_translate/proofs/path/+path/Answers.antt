use Rattle.std.proofs.Common.{arith}
use Rattle.kola_translate.proofs.path.+path.Goals as goal

pub path-requires : goal.path-requires
path-requires t c = (omega (arith, c.in-Some.ensures.cases.1, c.decreases), tt)

pub path-requires-in-None : goal.path-requires-in-None
path-requires-in-None t c = (omega (arith, c.in-Some.ensures.cases.1, c.decreases), tt)
