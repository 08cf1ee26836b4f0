use Rattle.oql_check.proofs.Means.{mean_typed}
use Rattle.oql_check.proofs.laws.typed_queries_have_values_of_their_types.Goals as goal

pub returns : goal.returns
returns c = λ S d m ns e t env q h. mean_typed d S m q env h
