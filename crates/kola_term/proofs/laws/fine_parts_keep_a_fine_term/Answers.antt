use Rattle.kola_term.proofs.FineParts.{whole_fine}
use Rattle.kola_term.proofs.laws.fine_parts_keep_a_fine_term.Goals as goal

pub returns : goal.returns
returns c = λ S x q t l r b T u w v h i j k g f. whole_fine S x q t l r b T u w v h i j k g f
