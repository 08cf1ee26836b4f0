use Rattle.std.proofs.Common.{◌≡◌, map, take}
use Rattle.kola_database.proofs.db.table_of.Given as goal

abbrev pub invariant-loop-extent : goal.invariant-loop-extent
invariant-loop-extent l = l.names ≡ take l.extent-index (map (λ x. x.name) l.extents)
