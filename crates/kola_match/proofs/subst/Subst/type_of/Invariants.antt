use Rattle.std.proofs.Common.{◌≡◌, drop, map}
use Rattle.kola_values.specs.Databases.{look_up}
use Rattle.kola_values.specs.Views.{type_entry}
use Rattle.kola_match.proofs.subst.Subst.type_of.Given as goal

abbrev pub invariant-loop-known : goal.invariant-loop-known
invariant-loop-known l = look_up l.var (map type_entry l.self.types) ≡ look_up l.var (map type_entry (drop l.known-index l.self.types))
