use Rattle.kola_laws.proofs.WellTyped.{every_law_is_well_typed}
use Rattle.kola_laws.proofs.facts.every_law_is_well_typed.Goals as goal

pub returns : goal.returns
returns c = λ S. every_law_is_well_typed S
