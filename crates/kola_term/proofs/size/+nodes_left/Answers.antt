use Rattle.std.proofs.Common.{arith, rules}
use Rattle.kola_values.proofs.Loops.{type_entry_falls}
use Rattle.kola_term.proofs.Sizes.{fields_left}
use Rattle.kola_term.proofs.size.+nodes_left.Goals as goal

pub nodes_left_by-nodes_left-requires : goal.nodes_left_by-nodes_left-requires
nodes_left_by-nodes_left-requires t c =
    let h = type_entry_falls c.as_slice-t-items.result.now c.args.fields.now c.loop-t.t-index c.loop-t-item.result c.as_slice-t-items.ensures c.loop-t-test.true c.loop-t-item.is in
    (omega (arith, h, c.decreases), tt)

pub nodes_left_by-returns-in_err-left : goal.nodes_left_by-returns-in_err-left
nodes_left_by-returns-in_err-left t c =
    let h = fields_left c.as_slice-t-items.result.now c.args.fields.now c.loop-t.t-index c.loop-t-item.result c.as_slice-t-items.ensures c.loop-t-test.true c.loop-t-item.is in
    let k = c.loop-t.invariant in
    search rules

pub nodes_left_by-loop-t-preserved : goal.nodes_left_by-loop-t-preserved
nodes_left_by-loop-t-preserved t c =
    omega (arith, fields_left c.as_slice-t-items.result.now c.args.fields.now c.loop-t.t-index c.loop-t-item.result c.as_slice-t-items.ensures c.loop-t-test.true c.loop-t-item.is, c.loop-t.invariant, c.in_ok-left.ensures)
