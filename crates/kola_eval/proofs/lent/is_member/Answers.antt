use Rattle.std.proofs.Common.{ap}
use Rattle.kola_values.specs.Sets.{any, has}
use Rattle.kola_eval.specs.Lending.{lent_tree}
use Rattle.kola_eval.proofs.lent.is_member.Goals as goal

pub returns-in_default : goal.returns-in_default
unfolding any
returns-in_default c = ap (has (lent_tree c.args.v)) c.in_default.ensures
