use Rattle.kola_term.proofs.Unique.{fine_or_fault, no_fault, one_fault}
use Rattle.kola_term.proofs.laws.a_term_is_fine_or_has_one_first_fault.Goals as goal

pub returns : goal.returns
returns c = record {
  some = fine_or_fault;
  not_both = λ S x t T u q why. no_fault S x t T u q why;
  one = λ S x t T q p why how. one_fault S x t T q p why how;
}
