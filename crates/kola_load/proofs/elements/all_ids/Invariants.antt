use Rattle.std.proofs.Common.{◌≡◌, take, drop}
use Rattle.kola_load.specs.JsonViews.{table_view}
use Rattle.kola_load.specs.Ids.{AreAllIds}
use Rattle.kola_load.specs.Loading.{first_of, extent_fault}
use Rattle.kola_load.proofs.elements.all_ids.Given as goal

abbrev pub invariant-loop-class : goal.invariant-loop-class
invariant-loop-class l =
    AreAllIds l.table (take l.class-index l.schema) (table_view l.members)
    × (first_of (extent_fault (table_view l.members)) (drop l.class-index l.schema) ≡ first_of (extent_fault (table_view l.members)) l.schema)
