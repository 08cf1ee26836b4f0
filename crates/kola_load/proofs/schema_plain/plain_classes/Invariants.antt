use Rattle.std.proofs.Common.{◌≡◌, map, take}
use Rattle.kola_schema.specs.SchemaViews.{class_tree}
use Rattle.kola_load.specs.PlainSchemas.{plain}
use Rattle.kola_load.specs.SchemaViews.{class_view}
use Rattle.kola_load.proofs.schema_plain.plain_classes.Given as goal

abbrev pub invariant-loop-class : goal.invariant-loop-class
invariant-loop-class l = map class_tree l.all.items ≡ take l.class-index (plain (map class_view l.classes))
