use Rattle.std.proofs.Common.{◌≡◌, map, take}
use Rattle.kola_load.specs.SchemaFaults.{names}
use Rattle.kola_load.specs.SchemaViews.{named_view}
use Rattle.kola_load.proofs.schema_plain.names_of.Given as goal

abbrev pub invariant-loop-name : goal.invariant-loop-name
invariant-loop-name l = l.all ≡ take l.name-index (names (map named_view l.written))
