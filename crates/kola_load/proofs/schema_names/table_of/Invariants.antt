use Rattle.std.proofs.Common.{◌≡◌, [], map, drop}
use Rattle.kola_load.specs.FirstMarks.{names_from, twice_from, twice}
use Rattle.kola_load.specs.SchemaViews.{named_view}
use Rattle.kola_load.proofs.schema_names.table_of.Given as goal

abbrev pub invariant-loop-name : goal.invariant-loop-name
invariant-loop-name l =
    (names_from l.seen (drop l.name-index (map named_view l.names)) ≡ names_from [] (map named_view l.names))
    × (twice_from l.seen l.first (drop l.name-index (map named_view l.names)) ≡ twice (map named_view l.names))
