use Rattle.kola_base.proofs.SpelledLaws.{one_spelled}
use Rattle.oql_syntax.specs.Limits.{QueryWithin, query_within, greatest_query}
use Rattle.oql_syntax.proofs.QueryFaultLaws.{spelled_or_fault, one_query_fault, query_once}
use Rattle.oql_syntax.proofs.WholeQueries.{within_good}
use Rattle.oql_syntax.proofs.WholeQueryLaws.{always}
use Rattle.oql_syntax.proofs.laws.a_text_is_one_query_or_has_one_fault.Goals as goal

pub returns-clause-some : goal.returns-clause-some
returns-clause-some c = query_once query_within QueryWithin always within_good greatest_query c.args.text.now

pub returns-clause-one_query : goal.returns-clause-one_query
returns-clause-one_query c x y h k = one_spelled query_within QueryWithin always within_good greatest_query c.args.text.now x y h k

pub returns-clause-not_both : goal.returns-clause-not_both
returns-clause-not_both c x at d h k = spelled_or_fault query_within QueryWithin always within_good greatest_query c.args.text.now x at d h k

pub returns-clause-one_fault : goal.returns-clause-one_fault
returns-clause-one_fault c at to d e h k = one_query_fault query_within QueryWithin always within_good greatest_query c.args.text.now at to d e h k
