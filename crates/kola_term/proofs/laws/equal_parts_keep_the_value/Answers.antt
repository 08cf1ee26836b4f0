use Rattle.kola_term.proofs.Paths.{at_place}
use Rattle.kola_term.proofs.laws.equal_parts_keep_the_value.Goals as goal

pub returns : goal.returns
returns c = λ S d m q t u l r b w h e p i a. at_place S d m q t u l r b w h e p i a
