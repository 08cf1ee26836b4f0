use Rattle.std.proofs.Common.{sym, ◌∙◌}
use Rattle.kola_database.specs.MeetsTests.{same_object}
use Rattle.kola_database.specs.ObjectViews.{object_tree}
use Rattle.kola_database.proofs.MeetingLoops.{none_later, one_later}
use Rattle.kola_database.proofs.meets.objects_are_distinct.Goals as goal

pub returns-then-has_object : goal.returns-then-has_object
returns-then-has_object c = sym (one_later object_tree same_object c.args.objects.now c.loop-i.i c.index-objects-i.result c.loop-i-test.true c.index-objects-i.is c.loop-i.invariant (sym c.has_object.ensures ∙ c.if-has_object.true))

pub loop-i-preserved : goal.loop-i-preserved
loop-i-preserved c = none_later object_tree same_object c.args.objects.now c.loop-i.i c.index-objects-i.result c.loop-i-test.true c.index-objects-i.is c.loop-i.invariant (sym c.has_object.ensures ∙ c.if-has_object.false)
