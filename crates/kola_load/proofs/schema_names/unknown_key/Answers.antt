use Rattle.std.proofs.Common.{map}
use Rattle.kola_core.specs.NameLists.{is_listed}
use Rattle.kola_load.specs.FirstMarks.{unless, unknown_key}
use Rattle.kola_load.specs.SchemaViews.{named_view}
use Rattle.kola_load.specs.declared.schema_fault.NameWhy.TheVariants.{UnknownKeyAttribute}
use Rattle.kola_load.proofs.MarkLoops.{first_step}
use Rattle.kola_load.proofs.schema_names.unknown_key.Goals as goal

pub loop-name-preserved : goal.loop-name-preserved
loop-name-preserved c =
    first_step (λ n. unless (is_listed n.name c.args.known.now) UnknownKeyAttribute n) named_view c.args.key.now c.loop-name.name-index _ c.loop-name.first c.unless.result c.earlier-first.result (unknown_key c.args.known.now (map named_view c.args.key.now)) c.loop-name-test.true
    (rw c.holds.ensures at c.unless.ensures) c.earlier-first.ensures c.loop-name.invariant
