use Rattle.kola_term.proofs.Sound.{sound}
use Rattle.kola_term.proofs.laws.typed_functions_keep_types.Goals as goal

pub returns : goal.returns
returns c = λ S d m f t u v e h. sound S d m f t u v e h
