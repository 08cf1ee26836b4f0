use Rattle.std.proofs.Common.{◌≡◌, take}
use Rattle.kola_schema.specs.Schemas.{names_of}
use Rattle.kola_database.proofs.db.labels_of.Given as goal

abbrev pub invariant-loop-entry : goal.invariant-loop-entry
invariant-loop-entry l = l.names ≡ take l.entry-index (names_of l.entries)
