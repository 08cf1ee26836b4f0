use Rattle.std.proofs.Common.{◌∙◌, [], ap, map, refl}
use Rattle.kola_core.proofs.Lists.{pushed_more}
use Rattle.kola_values.specs.Views.{value_tree}
use Rattle.kola_values.proofs.value.copies.Goals as goal

pub loop-value-preserved : goal.loop-value-preserved
loop-value-preserved c =
    ap (map value_tree) c.in_ok-push.ensures.items
    ∙ pushed_more value_tree [] c.loop-value.all.items c.args.values.now (map value_tree c.args.values.now) c.loop-value.value-index c.value-item.result c.in_ok-copy.field-0
    c.loop-value.invariant refl c.loop-value-test.true c.value-item.is c.in_ok-copy.ensures
