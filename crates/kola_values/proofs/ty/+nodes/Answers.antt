use Rattle.std.proofs.Common.{◌∙◌, ap, map, arith}
use Rattle.kola_values.specs.Views.{type_entry}
use Rattle.kola_values.proofs.Loops.{type_entry_falls}
use Rattle.kola_values.proofs.SameTypes.{types_nodes_more}
use Rattle.kola_values.proofs.ty.+nodes.Goals as goal

pub Fields::nodes-nodes-requires : goal.Fields::nodes-nodes-requires
Fields::nodes-nodes-requires t c =
    let h = type_entry_falls c.deref-t-items.result.now c.args.self.now c.loop-t.t-index c.loop-t-item.result (ap (map type_entry) c.deref-t-items.ensures.value ∙ c.self.view_is) c.loop-t-test.true c.loop-t-item.is in
    (omega (arith, h, c.decreases), tt)

pub Fields::nodes-loop-t-preserved : goal.Fields::nodes-loop-t-preserved
Fields::nodes-loop-t-preserved t c =
    omega (arith, types_nodes_more c.deref-t-items.result.now c.args.self.now c.loop-t.t-index c.loop-t-item.result (ap (map type_entry) c.deref-t-items.ensures.value ∙ c.self.view_is) c.loop-t-test.true c.loop-t-item.is, c.loop-t.invariant, c.nodes.ensures)
