use Rattle.std.proofs.Common.{sym, ◌∙◌}
use Rattle.kola_values.specs.Databases.{Object}
use Rattle.kola_schema.specs.Schemas.{class_named}
use Rattle.kola_database.specs.MeetsTests.{clash}
use Rattle.kola_database.specs.ObjectViews.{object_tree}
use Rattle.kola_database.proofs.MeetingLoops.{none_later, one_later}
use Rattle.kola_database.proofs.meets.keys_are_met.Goals as goal

pub returns-then-clashes : goal.returns-then-clashes
returns-then-clashes c = sym (one_later object_tree (λ (o : Object). clash (class_named c.args.schema.now o.class) o) c.args.objects.now c.loop-i.i c.index-objects-i.result c.loop-i-test.true c.index-objects-i.is c.loop-i.invariant (sym c.clashes.ensures ∙ c.if-clashes.true))

pub loop-i-preserved : goal.loop-i-preserved
loop-i-preserved c = none_later object_tree (λ (o : Object). clash (class_named c.args.schema.now o.class) o) c.args.objects.now c.loop-i.i c.index-objects-i.result c.loop-i-test.true c.index-objects-i.is c.loop-i.invariant (sym c.clashes.ensures ∙ c.if-clashes.false)
