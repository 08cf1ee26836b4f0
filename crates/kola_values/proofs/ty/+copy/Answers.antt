use Rattle.std.proofs.Common.{◌∙◌, ap, map, arith}
use Rattle.kola_core.proofs.Lists.{copied_more}
use Rattle.kola_values.specs.Views.{type_entry}
use Rattle.kola_values.proofs.Loops.{type_entry_falls}
use Rattle.kola_values.proofs.ty.+copy.Goals as goal

pub Fields::copy-copy-requires-in-loop-label : goal.Fields::copy-copy-requires-in-loop-label
Fields::copy-copy-requires-in-loop-label t c =
    let h = type_entry_falls c.deref-label-items.result.now c.args.self.now c.loop-label.label-index c.loop-label-item.result (ap (map type_entry) c.deref-label-items.ensures.value ∙ c.self.view_is) c.loop-label-test.true c.loop-label-item.is in
    (omega (arith, h, c.decreases), tt)

pub Fields::copy-loop-label-preserved : goal.Fields::copy-loop-label-preserved
Fields::copy-loop-label-preserved t c =
    ap (map type_entry) c.in_ok-push.ensures.items
    ∙ copied_more type_entry c.loop-label.entries.items c.deref-label-items.result.now c.self.inside.entries.items c.args.self.now c.loop-label.label-index c.loop-label-item.result (c.in_ok-copy.field-0, c.in_ok-copy-2.field-0)
    c.loop-label.invariant c.deref-label-items.ensures.value c.self.view_is c.loop-label-test.true c.loop-label-item.is (λ j. (c.in_ok-copy.ensures j, c.in_ok-copy-2.ensures j))
