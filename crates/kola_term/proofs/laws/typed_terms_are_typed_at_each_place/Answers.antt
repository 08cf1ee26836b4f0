use Rattle.kola_term.proofs.Paths.{typed_at}
use Rattle.kola_term.proofs.laws.typed_terms_are_typed_at_each_place.Goals as goal

pub returns : goal.returns
returns c = λ S x q t l u h e. typed_at S x q t l u h e
