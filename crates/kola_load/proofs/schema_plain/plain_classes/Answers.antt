use Rattle.std.proofs.Common.{ap, ◌∙◌}
use Rattle.kola_schema.specs.SchemaViews.{class_tree}
use Rattle.kola_load.specs.PlainSchemas.{plain_class}
use Rattle.kola_load.specs.SchemaViews.{class_view}
use Rattle.kola_load.proofs.MarkLoops.{copied_step}
use Rattle.kola_load.proofs.schema_plain.plain_classes.Goals as goal

pub loop-class-preserved : goal.loop-class-preserved
loop-class-preserved c =
    copied_step class_tree plain_class class_view c.args.classes.now c.loop-class.class-index c.class-item.result c.loop-class.all.items c.push.new.self.items c.in_ok-class_of.field-0 c.loop-class-test.true c.loop-class.invariant
    (c.in_ok-class_of.ensures ∙ ap (λ k. plain_class (class_view k)) c.class-item.is) c.in_ok-push.ensures.items
