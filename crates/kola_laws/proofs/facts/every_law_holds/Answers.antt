use Rattle.kola_laws.proofs.EveryLaw.{every_law_holds}
use Rattle.kola_laws.proofs.facts.every_law_holds.Goals as goal

pub returns : goal.returns
returns c = λ S. every_law_holds S
