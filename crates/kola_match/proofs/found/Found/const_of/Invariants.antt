use Rattle.std.proofs.Common.{◌≡◌, drop, map}
use Rattle.kola_values.specs.Databases.{look_up}
use Rattle.kola_match.specs.Binds.{consts_in}
use Rattle.kola_match.specs.NodeViews.{part_entry}
use Rattle.kola_match.proofs.found.Found.const_of.Given as goal

abbrev pub invariant-loop-known : goal.invariant-loop-known
invariant-loop-known l = look_up l.name (consts_in (map part_entry l.self.parts.items)) ≡ look_up l.name (consts_in (map part_entry (drop l.known-index l.self.parts.items)))
