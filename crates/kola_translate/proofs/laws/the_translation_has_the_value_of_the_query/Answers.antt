use Rattle.kola_translate.proofs.laws.the_translation_has_the_value_of_the_query.Goals as goal
use Rattle.kola_translate.proofs.Valued.{tr_meant, pr_meant}

pub returns : goal.returns
returns c = record {
  value = λ S d s m ns e t env q h. tr_meant S d m s q env h;
  truth = λ S d s m ns e env q h. pr_meant S d m s q env h;
}
