use Rattle.std.proofs.Common.{map, take, refl, sym, subst}
use Rattle.kola_core.proofs.Lists.{taken_more}
use Rattle.kola_values.specs.Sets.{Each}
use Rattle.kola_database.specs.MeetsTests.{IsHeld}
use Rattle.kola_database.specs.ObjectViews.{object_tree}
use Rattle.kola_values.proofs.Keeping.{each_push}
use Rattle.kola_database.proofs.meets.all_held.Goals as goal

pub loop-object-preserved : goal.loop-object-preserved
loop-object-preserved c =
    let us = map object_tree c.args.objects.now in
    let i = c.loop-object.object-index in
    let x = c.object-item.result in
    subst (Each IsHeld) (sym (taken_more object_tree c.args.objects.now us i x refl c.loop-object-test.true c.object-item.is))
    (each_push IsHeld (take i us) (object_tree x) c.loop-object.invariant c.held.ensures)
