use Rattle.std.proofs.Common.{◌≡◌, map, drop}
use Rattle.kola_schema.specs.Schemas.{are_distinct}
use Rattle.kola_schema.specs.declared.schema.ClassDef.{ClassDef}
use Rattle.kola_schema.proofs.schema.extent_names_are_distinct.Given as goal

abbrev pub invariant-loop-i : goal.invariant-loop-i
invariant-loop-i l = are_distinct (map (λ (c : ClassDef). c.extent) (drop l.i l.classes)) ≡ are_distinct (map (λ (c : ClassDef). c.extent) l.classes)
