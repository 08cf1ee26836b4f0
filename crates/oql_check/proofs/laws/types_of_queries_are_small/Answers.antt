use Rattle.oql_check.proofs.SmallTypes.{type_small}
use Rattle.oql_check.proofs.laws.types_of_queries_are_small.Goals as goal

pub returns : goal.returns
returns c = λ S ns e t h q. type_small S q h
