use Rattle.std.proofs.Common.{◌∙◌, sym, ap, arith}
use Rattle.std.specs.Ordering.{nat_cmp, ordering_then}
use Rattle.std.specs.Cmp.Lexicographic.{slice_cmp}
use Rattle.kola_core.proofs.Compare.{step_equal, step_unequal, step_end}
use Rattle.kola_values.specs.Order.{cmp}
use Rattle.kola_values.specs.Views.{value_tree, value_entry}
use Rattle.kola_values.proofs.Loops.{member_falls, value_entry_falls, cmp_entry, cmp_members-slices, cmp_fields-slices}
use Rattle.kola_values.proofs.order.+cmp.Goals as goal

pub cmp_sets-cmp_values-requires : goal.cmp_sets-cmp_values-requires
cmp_sets-cmp_values-requires t c =
    let h = member_falls c.as_slice-vs.result.now c.args.a.now c.loop-i.i c.index-vs-i.result c.as_slice-vs.ensures (omega arith) c.index-vs-i.is in
    (omega (arith, h, c.decreases), tt)

pub cmp_sets-returns-in_default : goal.cmp_sets-returns-in_default
cmp_sets-returns-in_default t c =
    step_unequal value_tree cmp c.as_slice-vs.result.now c.as_slice-ws.result.now c.args.a.now c.args.b.now c.loop-i.i c.index-vs-i.result c.index-ws-i.result c.cmp_values.result
    c.as_slice-vs.ensures c.as_slice-ws.ensures (omega arith) (omega arith) c.index-vs-i.is c.index-ws-i.is c.loop-i.invariant c.cmp_values.ensures c.in_default.not-Equal
    ∙ sym (cmp_members-slices c.args.a.now c.args.b.now)

pub cmp_sets-loop-i-preserved : goal.cmp_sets-loop-i-preserved
cmp_sets-loop-i-preserved t c =
    step_equal value_tree cmp c.as_slice-vs.result.now c.as_slice-ws.result.now c.args.a.now c.args.b.now c.loop-i.i c.index-vs-i.result c.index-ws-i.result
    c.as_slice-vs.ensures c.as_slice-ws.ensures (omega arith) (omega arith) c.index-vs-i.is c.index-ws-i.is c.loop-i.invariant (sym c.in-Equal.is ∙ c.cmp_values.ensures)

pub cmp_sets-returns : goal.cmp_sets-returns
cmp_sets-returns t c =
    c.cmp.ensures
    ∙ step_end value_tree cmp c.as_slice-vs.result.now c.as_slice-ws.result.now c.args.a.now c.args.b.now c.loop-i.i c.as_slice-vs.ensures c.as_slice-ws.ensures (omega arith) c.loop-i.invariant
    ∙ sym (cmp_members-slices c.args.a.now c.args.b.now)

pub cmp_entries-cmp_values-requires : goal.cmp_entries-cmp_values-requires
cmp_entries-cmp_values-requires t c =
    let h = value_entry_falls c.as_slice-fs.result.now c.args.a.now c.loop-i.i c.index-fs-i.result c.as_slice-fs.ensures (omega arith) c.index-fs-i.is in
    (omega (arith, h, c.decreases), tt)

pub cmp_entries-returns-in_default : goal.cmp_entries-returns-in_default
cmp_entries-returns-in_default t c =
    let o = c.then.ensures ∙ ap (λ r. ordering_then r c.cmp_values.result) c.cmp_bytes.ensures ∙ ap (ordering_then (slice_cmp nat_cmp c.index-fs-i.result.0 c.index-gs-i.result.0)) c.cmp_values.ensures in
    step_unequal value_entry cmp_entry c.as_slice-fs.result.now c.as_slice-gs.result.now c.args.a.now c.args.b.now c.loop-i.i c.index-fs-i.result c.index-gs-i.result c.then.result
    c.as_slice-fs.ensures c.as_slice-gs.ensures (omega arith) (omega arith) c.index-fs-i.is c.index-gs-i.is c.loop-i.invariant o c.in_default.not-Equal
    ∙ sym (cmp_fields-slices c.args.a.now c.args.b.now)

pub cmp_entries-loop-i-preserved : goal.cmp_entries-loop-i-preserved
cmp_entries-loop-i-preserved t c =
    let o = c.then.ensures ∙ ap (λ r. ordering_then r c.cmp_values.result) c.cmp_bytes.ensures ∙ ap (ordering_then (slice_cmp nat_cmp c.index-fs-i.result.0 c.index-gs-i.result.0)) c.cmp_values.ensures in
    step_equal value_entry cmp_entry c.as_slice-fs.result.now c.as_slice-gs.result.now c.args.a.now c.args.b.now c.loop-i.i c.index-fs-i.result c.index-gs-i.result
    c.as_slice-fs.ensures c.as_slice-gs.ensures (omega arith) (omega arith) c.index-fs-i.is c.index-gs-i.is c.loop-i.invariant (sym c.in-Equal.is ∙ o)

pub cmp_entries-returns : goal.cmp_entries-returns
cmp_entries-returns t c =
    c.cmp.ensures
    ∙ step_end value_entry cmp_entry c.as_slice-fs.result.now c.as_slice-gs.result.now c.args.a.now c.args.b.now c.loop-i.i c.as_slice-fs.ensures c.as_slice-gs.ensures (omega arith) c.loop-i.invariant
    ∙ sym (cmp_fields-slices c.args.a.now c.args.b.now)
