use Rattle.std.proofs.Common.{◌∙◌}
use Rattle.kola_load.specs.SchemaViews.{class_view}
use Rattle.kola_load.proofs.SchemaLoops.{class_more, class_shorter}
use Rattle.kola_load.proofs.schema_syntax.classes_of.Goals as goal

pub loop-classes-smaller : goal.loop-classes-smaller
loop-classes-smaller c = class_shorter c.args.levels (class_view c.in-Some.class) c.loop-classes.rest c.in_ok-next.behind (rw c.in-Some.is at c.in_ok-next.ensures)

pub loop-classes-preserved : goal.loop-classes-preserved
loop-classes-preserved c =
    class_more c.args.levels class_view c.loop-classes.classes.items c.push.new.self.items c.in-Some.class c.loop-classes.rest c.in_ok-next.behind c.in_ok-push-in-Some.ensures.items (rw c.in-Some.is at c.in_ok-next.ensures)
    ∙ c.loop-classes.invariant
