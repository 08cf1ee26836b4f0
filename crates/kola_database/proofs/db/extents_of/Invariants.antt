use Rattle.std.proofs.Common.{◌≡◌, map, take}
use Rattle.kola_database.specs.ObjectViews.{object_tree}
use Rattle.kola_database.specs.ExtentViews.{filled}
use Rattle.kola_database.proofs.db.extents_of.Given as goal

abbrev pub invariant-loop-class : goal.invariant-loop-class
invariant-loop-class l = l.extents.items ≡ take l.class-index (filled l.schema (map object_tree l.objects))
