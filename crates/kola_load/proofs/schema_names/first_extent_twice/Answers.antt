use Rattle.std.proofs.Common.{map, ap, ◌∙◌}
use Rattle.kola_load.specs.FirstMarks.{twice}
use Rattle.kola_load.specs.SchemaViews.{named_view}
use Rattle.kola_load.proofs.MarkLoops.{extents_seen}
use Rattle.kola_load.proofs.schema_names.first_extent_twice.Goals as goal

pub returns : goal.returns
returns c = c.in_ok-twice.ensures.twice ∙ ap twice (ap (map named_view) (c.as_slice.ensures.value ∙ c.in_ok-extents.ensures) ∙ extents_seen c.args.classes.now)
