use Rattle.kola_injective.proofs.Sound.{injective_where}
use Rattle.kola_injective.proofs.facts.derived_functions_are_injective.Goals as goal

pub returns : goal.returns
returns c = λ S h x hyps f t d. injective_where S h x hyps f t d
