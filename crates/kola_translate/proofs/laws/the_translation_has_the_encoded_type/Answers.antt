use Rattle.kola_translate.proofs.laws.the_translation_has_the_encoded_type.Goals as goal
use Rattle.kola_translate.proofs.TermTypes.{tr_typed, pr_typed}

pub returns : goal.returns
returns c = record {
  function = λ S s ns e t q. tr_typed S s q;
  predicate = λ S s ns e q. pr_typed S s q;
}
