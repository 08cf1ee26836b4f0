use Rattle.std.proofs.Common.{◌≡◌, ◌++◌, drop}
use Rattle.coko_plan.specs.Spelling.{further_children}
use Rattle.coko_plan.proofs.text.push_children.Given as goal

abbrev pub invariant-loop-n : goal.invariant-loop-n
invariant-loop-n l = l.out.items ++ further_children (drop l.n-index l.path) ≡ l.initial.out.items ++ further_children l.path
