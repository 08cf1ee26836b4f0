use Rattle.oql_syntax.proofs.WordLengths.{none_are_names}
use Rattle.oql_syntax.proofs.word.words_of_queries_are_no_names.Goals as goal

pub returns : goal.returns
returns c = none_are_names c.args.word.now
