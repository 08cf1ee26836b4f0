use Rattle.std.proofs.Common.{◌≡◌, map, take}
use Rattle.kola_load.specs.SchemaFaults.{names}
use Rattle.kola_load.specs.SchemaViews.{key_view}
use Rattle.kola_load.proofs.schema_plain.keys_of.Given as goal

abbrev pub invariant-loop-key : goal.invariant-loop-key
invariant-loop-key l = l.all ≡ take l.key-index (map names (map key_view l.keys))
