use Rattle.std.proofs.Common.{take}
use Rattle.kola_schema.specs.Schemas.{class_names}
use Rattle.kola_database.specs.ExtentViews.{AreRanges}
use Rattle.kola_database.proofs.db.ranges_of.Given as goal

abbrev pub invariant-loop-class : goal.invariant-loop-class
invariant-loop-class l = AreRanges l.objects (take l.class-index (class_names l.schema)) l.ranges.items
