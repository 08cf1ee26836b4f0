-- What the program has found for variables, as the definitions have it.
use Rattle.std.specs.Prelude.{map}
use Rattle.kola_values.specs.Views.{type_entry}
use Rattle.kola_match.specs.Binds.{Binds, binds}
use Rattle.kola_match.specs.NodeViews.{part_entry}
use Rattle.kola_match.specs.declared.found.Found.{Found}

abbrev pub binds_of : Found → Binds
binds_of b = binds (map type_entry b.types.items) (map part_entry b.parts.items)
