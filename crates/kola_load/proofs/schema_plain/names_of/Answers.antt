use Rattle.kola_load.specs.SchemaTree.{Named}
use Rattle.kola_load.specs.SchemaViews.{named_view}
use Rattle.kola_load.proofs.MarkLoops.{pushed_step}
use Rattle.kola_load.proofs.schema_plain.names_of.Goals as goal

pub loop-name-preserved : goal.loop-name-preserved
loop-name-preserved c =
    pushed_step (λ (n : Named). n.name) named_view c.args.written.now c.loop-name.name-index _ c.loop-name.all c.push.new.self c.in_ok-from_text.field-0 c.loop-name-test.true c.loop-name.invariant c.in_ok-from_text.ensures c.in_ok-push.ensures.ok
