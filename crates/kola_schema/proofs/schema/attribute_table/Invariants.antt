use Rattle.std.proofs.Common.{◌≡◌, map, take}
use Rattle.kola_schema.proofs.schema.attribute_table.Given as goal

abbrev pub invariant-loop-entry : goal.invariant-loop-entry
invariant-loop-entry l = l.names ≡ take l.entry-index (map (λ e. e.0) l.entries)
