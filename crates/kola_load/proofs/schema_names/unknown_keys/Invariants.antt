use Rattle.std.proofs.Common.{◌≡◌, fold, map, drop}
use Rattle.kola_load.specs.FirstMarks.{earlier, unknown_key, unknown_keys}
use Rattle.kola_load.specs.SchemaViews.{key_view}
use Rattle.kola_load.proofs.schema_names.unknown_keys.Given as goal

abbrev pub invariant-loop-key : goal.invariant-loop-key
invariant-loop-key l = fold (λ best k. earlier best (unknown_key l.known k)) l.first (drop l.key-index (map key_view l.keys)) ≡ unknown_keys l.known (map key_view l.keys)
