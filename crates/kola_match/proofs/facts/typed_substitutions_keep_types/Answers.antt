use Rattle.kola_match.proofs.Closed.{schema_closed}
use Rattle.kola_match.proofs.KindOut.{kind_inst}
use Rattle.kola_match.proofs.facts.typed_substitutions_keep_types.Goals as goal

pub returns : goal.returns
returns c = λ S h x y s i t u w e. kind_inst S (schema_closed S h) x y s i t u w e
