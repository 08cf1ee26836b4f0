use Rattle.std.proofs.Common.{◌≡◌, drop, map}
use Rattle.kola_values.specs.Databases.{look_up}
use Rattle.kola_values.specs.Views.{type_entry}
use Rattle.kola_match.proofs.found.Found.type_of.Given as goal

abbrev pub invariant-loop-known : goal.invariant-loop-known
invariant-loop-known l = look_up l.name (map type_entry l.self.types.items) ≡ look_up l.name (map type_entry (drop l.known-index l.self.types.items))
