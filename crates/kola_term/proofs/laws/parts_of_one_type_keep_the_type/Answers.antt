use Rattle.kola_term.proofs.Kept.{kept_at}
use Rattle.kola_term.proofs.laws.parts_of_one_type_keep_the_type.Goals as goal

pub returns : goal.returns
returns c = λ S x q t u l r b w e p i s. kept_at S x q t u l r b w e p i s
