use Rattle.std.proofs.Common.{◌≡◌, drop, map}
use Rattle.kola_term.specs.Parts.{sub_tree}
use Rattle.kola_match.specs.Alike.{first_like}
use Rattle.kola_match.specs.NodeViews.{part_entry}
use Rattle.kola_match.proofs.found.Found.part_of.Given as goal

abbrev pub invariant-loop-known : goal.invariant-loop-known
invariant-loop-known l =
    first_like (sub_tree l.like) l.name (map part_entry l.self.parts.items) ≡ first_like (sub_tree l.like) l.name (map part_entry (drop l.known-index l.self.parts.items))
