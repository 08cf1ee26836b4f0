use Rattle.oql_check.proofs.OneFault.{answered}
use Rattle.oql_check.proofs.laws.the_typing_answers_the_type_of_a_query.Goals as goal

pub returns : goal.returns
returns c = λ S ns e t. answered S ns e t
