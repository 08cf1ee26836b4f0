use Rattle.std.proofs.Common.{arith}
use Rattle.kola_values.proofs.SameTypes.{types_nodes_more}
use Rattle.oql_check.proofs.size.fields_nodes.Goals as goal

pub loop-t-preserved : goal.loop-t-preserved
loop-t-preserved c =
    omega (arith, types_nodes_more c.as_slice-t-items.result.now c.args.fields.now c.loop-t.t-index c.loop-t-item.result c.as_slice-t-items.ensures c.loop-t-test.true c.loop-t-item.is, c.loop-t.invariant, c.nodes.ensures, c.saturating_add-all.ensures)
