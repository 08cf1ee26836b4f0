use Rattle.std.proofs.Common.{◌≡◌, drop}
use Rattle.kola_term.specs.Parts.{sub_tree}
use Rattle.kola_term.specs.Places.{sub_at}
use Rattle.kola_term.proofs.part.SubTerm.at.Given as goal

abbrev pub invariant-loop-n : goal.invariant-loop-n
invariant-loop-n l = sub_at (sub_tree l.self) l.path ≡ sub_at (sub_tree l.at) (drop l.n-index l.path)
