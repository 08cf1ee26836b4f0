use Rattle.std.proofs.Common.{map, ap, ◌∙◌}
use Rattle.kola_load.specs.FirstMarks.{unknown_key, unknown_keys}
use Rattle.kola_load.specs.SchemaViews.{named_view, key_view}
use Rattle.kola_load.proofs.MarkLoops.{first_step}
use Rattle.kola_load.proofs.schema_names.unknown_keys.Goals as goal

pub loop-key-preserved : goal.loop-key-preserved
loop-key-preserved c =
    first_step (unknown_key c.args.known.now) key_view c.args.keys.now c.loop-key.key-index c.key-item.result c.loop-key.first c.unknown_key.result c.earlier-first.result (unknown_keys c.args.known.now (map key_view c.args.keys.now)) c.loop-key-test.true
    (c.unknown_key.ensures ∙ ap (λ ns. unknown_key c.args.known.now (map named_view ns)) c.as_slice.ensures.value ∙ ap (λ k. unknown_key c.args.known.now (key_view k)) c.key-item.is) c.earlier-first.ensures c.loop-key.invariant
