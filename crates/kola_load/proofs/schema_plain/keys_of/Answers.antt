use Rattle.std.proofs.Common.{map, ap, ◌∙◌}
use Rattle.kola_load.specs.SchemaFaults.{names}
use Rattle.kola_load.specs.SchemaViews.{named_view, key_view}
use Rattle.kola_load.proofs.MarkLoops.{pushed_step}
use Rattle.kola_load.proofs.schema_plain.keys_of.Goals as goal

pub loop-key-preserved : goal.loop-key-preserved
loop-key-preserved c =
    pushed_step names key_view c.args.keys.now c.loop-key.key-index c.key-item.result c.loop-key.all c.push.new.self c.in_ok-names_of.field-0 c.loop-key-test.true c.loop-key.invariant
    (c.in_ok-names_of.ensures ∙ ap (λ ns. names (map named_view ns)) c.as_slice.ensures.value ∙ ap (λ k. names (key_view k)) c.key-item.is) c.in_ok-push.ensures.ok
