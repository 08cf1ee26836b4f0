use Rattle.std.proofs.Common.{sym, ap, ◌∙◌}
use Rattle.kola_values.specs.Types.{same_type}
use Rattle.kola_values.proofs.SameTypes.{same_type_equal, same_type_itself}
use Rattle.kola_values.proofs.laws.equal_types_are_the_same.Goals as goal

pub returns : goal.returns
returns c = λ t u. (same_type_equal t u, λ e. ap (same_type t) (sym e) ∙ same_type_itself t)
