use Rattle.std.proofs.Common.{◌≡◌, drop, map}
use Rattle.kola_values.specs.Databases.{look_up}
use Rattle.kola_match.specs.Binds.{consts_in}
use Rattle.kola_match.specs.SubstViews.{bound_entry, terms_of}
use Rattle.kola_match.proofs.subst.Subst.const_of.Given as goal

abbrev pub invariant-loop-known : goal.invariant-loop-known
invariant-loop-known l = look_up l.var (consts_in (terms_of (map bound_entry l.self.bound))) ≡ look_up l.var (consts_in (terms_of (map bound_entry (drop l.known-index l.self.bound))))
