use Rattle.std.proofs.Common.{[], map}
use Rattle.kola_load.specs.FirstMarks.{names_from, twice}
use Rattle.kola_load.specs.SchemaViews.{named_view}
use Rattle.kola_load.proofs.MarkLoops.{names_step, twice_step}
use Rattle.kola_load.proofs.schema_names.table_of.Goals as goal

pub loop-name-preserved : goal.loop-name-preserved
loop-name-preserved c = (
  names_step named_view c.args.names.now c.loop-name.name-index _ c.loop-name-test.true c.loop-name.seen c.add.new.self c.in_ok-new.ensures.added (names_from [] (map named_view c.args.names.now)) c.loop-name.invariant.0,
  twice_step named_view c.args.names.now c.loop-name.name-index _ c.loop-name-test.true c.loop-name.seen c.add.new.self c.in_ok-new.ensures.added c.loop-name.first c.unless.result c.earlier-first.result (twice (map named_view c.args.names.now))
      (rw c.in_ok-new.ensures.new at c.unless.ensures) c.earlier-first.ensures c.loop-name.invariant.1,
)
