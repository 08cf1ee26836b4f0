use Rattle.std.proofs.Common.{◌≡◌, map, take}
use Rattle.kola_schema.proofs.schema.extent_table.Given as goal

abbrev pub invariant-loop-class : goal.invariant-loop-class
invariant-loop-class l = l.names ≡ take l.class-index (map (λ c. c.extent) l.classes)
