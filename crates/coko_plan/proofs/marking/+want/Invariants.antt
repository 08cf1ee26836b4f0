use Rattle.std.proofs.Common.{map, take}
use Rattle.coko_block.specs.Statements.{of_stmts, of_arms}
use Rattle.coko_block.specs.StmtViews.{stmt_tree, arm_entry}
use Rattle.coko_block.specs.Models.Weights.{weight, entries_weight, arm_entries_weight}
use Rattle.coko_plan.specs.Naming.{names_among, names_in_arms, forward}
use Rattle.coko_plan.specs.Working.Seen.{AddsNames}
use Rattle.coko_plan.proofs.marking.+want.Given as goal

abbrev pub decreases-want : goal.decreases-want
decreases-want l = weight (stmt_tree l.s.now)

abbrev pub decreases-want_all : goal.decreases-want_all
decreases-want_all l = entries_weight (map stmt_tree l.parts.now)

abbrev pub decreases-want_in_arms : goal.decreases-want_in_arms
decreases-want_in_arms l = arm_entries_weight (map arm_entry l.arms.now)

abbrev pub invariant-want_all-loop-part : goal.invariant-want_all-loop-part
invariant-want_all-loop-part l = AddsNames l.initial.wanted l.wanted (forward (names_among (of_stmts (map stmt_tree (take l.part-index l.parts)))))

abbrev pub invariant-want_in_arms-loop-s : goal.invariant-want_in_arms-loop-s
invariant-want_in_arms-loop-s l = AddsNames l.initial.wanted l.wanted (forward (names_in_arms (of_arms (map arm_entry (take l.s-index l.arms)))))
