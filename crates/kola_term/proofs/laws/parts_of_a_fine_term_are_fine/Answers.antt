use Rattle.kola_term.proofs.FineParts.{part_fine}
use Rattle.kola_term.proofs.laws.parts_of_a_fine_term_are_fine.Goals as goal

pub returns : goal.returns
returns c = λ S x q t l T u h i. part_fine S x q t l T u h i
