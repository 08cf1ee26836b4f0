use Rattle.std.proofs.Common.{◌≡◌, ◌≤◌, length, map, drop, reverse}
use Rattle.coko_block.specs.StmtViews.{block_tree}
use Rattle.coko_plan.specs.Naming.{wanted, reached}
use Rattle.coko_plan.specs.Working.Marks.{marks}
use Rattle.coko_plan.proofs.Reaching.{Lists}
use Rattle.coko_plan.proofs.marking.marks.Given as goal

abbrev pub invariant-loop-left : goal.invariant-loop-left
invariant-loop-left l =
    (l.left ≤ length l.blocks) ×
    Lists l.wanted (wanted l.chosen (reached l.chosen (map block_tree (drop l.left l.blocks)))) ×
    (reverse l.marks.items ≡ marks l.chosen (map block_tree (drop l.left l.blocks)))

abbrev pub decreases-loop-left : goal.decreases-loop-left
decreases-loop-left l = l.left
