use Rattle.oql_syntax.specs.Limits.{greatest_query}
use Rattle.oql_laws.proofs.PrintedAgain.{printed_again}
use Rattle.oql_laws.proofs.laws.printed_queries_are_read_again.Goals as goal

pub returns : goal.returns
returns c x h = printed_again greatest_query greatest_query c.args.text.now x h
