use Rattle.std.proofs.Common.{◌+◌, ◌++◌, ◌∷◌, [], sym, ap, subst, take}
use Rattle.kola_core.proofs.Lists.{taken_more}
use Rattle.kola_values.specs.Databases.{Class}
use Rattle.kola_schema.specs.Schemas.{class_names}
use Rattle.kola_database.specs.ExtentViews.{IsRange, AreRanges}
use Rattle.kola_database.proofs.Runs.{one_range_more}
use Rattle.kola_database.proofs.db.ranges_of.Goals as goal

pub loop-class-preserved : goal.loop-class-preserved
loop-class-preserved c =
    let os = c.args.objects.now in
    let us = class_names c.args.schema.now in
    let i = c.loop-class.class-index in
    let k = c.class-item.result in
    let more = taken_more (λ (x : Class). x.name) c.classes-class-items.result.now us i k (ap class_names c.classes-class-items.ensures) c.loop-class-test.true c.class-item.is in
    let here = subst (λ (x : Class). IsRange os x.name c.range_of.result) c.get.ensures c.range_of.ensures in
    subst (AreRanges os (take (i + 1) us)) (sym c.in_ok-push.ensures.items)
    (subst (λ ns. AreRanges os ns (c.loop-class.ranges.items ++ c.range_of.result ∷ [])) (sym more) (one_range_more os (take i us) c.loop-class.ranges.items k.name c.range_of.result c.loop-class.invariant here))
