use Rattle.std.proofs.Common.{◌≡◌, ◌++◌, drop}
use Rattle.coko_plan.specs.Spelling.{further_arms}
use Rattle.coko_plan.proofs.text.push_further.Given as goal

abbrev pub invariant-loop-arm : goal.invariant-loop-arm
invariant-loop-arm l = l.out.items ++ further_arms (drop l.arm-index l.arms) ≡ l.initial.out.items ++ further_arms l.arms
