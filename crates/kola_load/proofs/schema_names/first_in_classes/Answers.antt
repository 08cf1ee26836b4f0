use Rattle.std.proofs.Common.{map, ap, ◌∙◌}
use Rattle.kola_load.specs.FirstMarks.{first_of, first_in_class}
use Rattle.kola_load.specs.SchemaViews.{class_view}
use Rattle.kola_load.proofs.MarkLoops.{first_step}
use Rattle.kola_load.proofs.schema_names.first_in_classes.Goals as goal

pub loop-class-preserved : goal.loop-class-preserved
loop-class-preserved c =
    first_step (first_in_class c.args.known.now) class_view c.args.classes.now c.loop-class.class-index c.class-item.result c.loop-class.first c.in_ok-found.found c.earlier-first.result (first_of (first_in_class c.args.known.now) (map class_view c.args.classes.now)) c.loop-class-test.true
    (c.in_ok-found.ensures ∙ ap (λ k. first_in_class c.args.known.now (class_view k)) c.class-item.is) c.earlier-first.ensures c.loop-class.invariant
