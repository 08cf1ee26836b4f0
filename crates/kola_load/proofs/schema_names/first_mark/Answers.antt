use Rattle.std.proofs.Common.{[], map, refl}
use Rattle.kola_load.specs.FirstMarks.{names_from}
use Rattle.kola_load.specs.SchemaFaults.{class_names}
use Rattle.kola_load.specs.SchemaViews.{class_view}
use Rattle.kola_load.proofs.MarkLoops.{schema_parts}
use Rattle.kola_load.proofs.schema_names.first_mark.Goals as goal

pub returns : goal.returns
returns c =
    let cs = map class_view c.args.classes.now in
    schema_parts (names_from [] (class_names cs)) cs c.in_ok-twice.twice c.in_ok-extent_twice.extent_twice c.in_ok-twice.inside c.earlier.result c.earlier-2.result
    refl c.in_ok-twice.ensures.twice c.in_ok-extent_twice.ensures c.in_ok-twice.ensures.inside c.earlier.ensures c.earlier-2.ensures
