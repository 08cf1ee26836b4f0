use Rattle.std.proofs.Common.{◌≡◌, fold, map, drop}
use Rattle.kola_core.specs.NameLists.{is_listed}
use Rattle.kola_load.specs.FirstMarks.{earlier, unless, unknown_key}
use Rattle.kola_load.specs.SchemaViews.{named_view}
use Rattle.kola_load.specs.declared.schema_fault.NameWhy.TheVariants.{UnknownKeyAttribute}
use Rattle.kola_load.proofs.schema_names.unknown_key.Given as goal

abbrev pub invariant-loop-name : goal.invariant-loop-name
invariant-loop-name l = fold (λ best n. earlier best (unless (is_listed n.name l.known) UnknownKeyAttribute n)) l.first (drop l.name-index (map named_view l.key)) ≡ unknown_key l.known (map named_view l.key)
