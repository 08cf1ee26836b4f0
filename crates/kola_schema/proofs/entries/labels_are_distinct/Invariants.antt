use Rattle.std.proofs.Common.{◌≡◌, map, drop}
use Rattle.kola_core.specs.declared.name.Name.{Name}
use Rattle.kola_schema.specs.Schemas.{are_distinct}
use Rattle.kola_schema.proofs.entries.labels_are_distinct.Given as goal

abbrev pub invariant-loop-i : goal.invariant-loop-i
invariant-loop-i g l = are_distinct (map (λ (e : Name × g.row.T.Denot). e.0) (drop l.i l.entries)) ≡ are_distinct (map (λ (e : Name × g.row.T.Denot). e.0) l.entries)
