use Rattle.std.proofs.Common.{◌≡◌, take}
use Rattle.oql_tree.proofs.query.copy_literals.Given as goal

abbrev pub invariant-loop-literal : goal.invariant-loop-literal
invariant-loop-literal l = l.entries.items ≡ take l.literal-index l.literals
