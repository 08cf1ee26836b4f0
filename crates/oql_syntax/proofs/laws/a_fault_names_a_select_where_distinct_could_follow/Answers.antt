use Rattle.std.proofs.Common.{length}
use Rattle.kola_base.specs.Placed.{placed}
use Rattle.oql_syntax.specs.Limits.{greatest_query}
use Rattle.oql_syntax.proofs.NamedSelects.{named_where}
use Rattle.oql_syntax.proofs.laws.a_fault_names_a_select_where_distinct_could_follow.Goals as goal

pub returns : goal.returns
returns c at d h = named_where greatest_query (placed c.args.text.now h.tokens) (length c.args.text.now) at d h.faults
