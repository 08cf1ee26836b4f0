use Rattle.std.proofs.Common.{arith}
use Rattle.kola_translate.proofs.path.+field_type.Goals as goal

pub field_type-requires : goal.field_type-requires
field_type-requires t c = (omega (arith, c.in-Some.ensures.cases.1, c.decreases), tt)
