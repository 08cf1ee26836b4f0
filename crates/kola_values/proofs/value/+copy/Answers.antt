use Rattle.std.proofs.Common.{◌∙◌, ap, map, arith}
use Rattle.kola_core.proofs.Lists.{copied_more}
use Rattle.kola_values.specs.Views.{value_entry}
use Rattle.kola_values.proofs.Loops.{value_entry_falls}
use Rattle.kola_values.proofs.value.+copy.Goals as goal

pub ValueFields::copy-copy-requires-in-loop-label : goal.ValueFields::copy-copy-requires-in-loop-label
ValueFields::copy-copy-requires-in-loop-label t c =
    let h = value_entry_falls c.deref-label-items.result.now c.args.self.now c.loop-label.label-index c.loop-label-item.result (ap (map value_entry) c.deref-label-items.ensures.value ∙ c.self.view_is) c.loop-label-test.true c.loop-label-item.is in
    (omega (arith, h, c.decreases), tt)

pub ValueFields::copy-loop-label-preserved : goal.ValueFields::copy-loop-label-preserved
ValueFields::copy-loop-label-preserved t c =
    ap (map value_entry) c.in_ok-push.ensures.items
    ∙ copied_more value_entry c.loop-label.entries.items c.deref-label-items.result.now c.self.inside.entries.items c.args.self.now c.loop-label.label-index c.loop-label-item.result (c.in_ok-copy.field-0, c.in_ok-copy-2.field-0)
    c.loop-label.invariant c.deref-label-items.ensures.value c.self.view_is c.loop-label-test.true c.loop-label-item.is (λ j. (c.in_ok-copy.ensures j, c.in_ok-copy-2.ensures j))
