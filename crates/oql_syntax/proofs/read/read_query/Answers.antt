use Rattle.oql_syntax.specs.Limits.{QueryWithin, query_within, greatest_query}
use Rattle.oql_syntax.specs.QueryAnswers.{fault_refusal}
use Rattle.oql_tree.specs.QueryViews.{query_tree}
use Rattle.oql_syntax.proofs.QueryFaultLaws.{answer_only, answer_at}
use Rattle.oql_syntax.proofs.WholeQueries.{within_good}
use Rattle.oql_syntax.proofs.WholeQueryLaws.{always}
use Rattle.oql_syntax.proofs.read.read_query.Goals as goal

pub returns-clause-only : goal.returns-clause-only
returns-clause-only c x h =
    answer_only query_within QueryWithin always within_good greatest_query c.args.text.now query_tree fault_refusal c.read_within.result c.read_within.ensures.found c.read_within.ensures.fault x h

pub returns-clause-only_fault : goal.returns-clause-only_fault
returns-clause-only_fault c at w h =
    answer_at query_within QueryWithin always within_good greatest_query c.args.text.now query_tree fault_refusal c.read_within.result c.read_within.ensures.found c.read_within.ensures.fault at w h
