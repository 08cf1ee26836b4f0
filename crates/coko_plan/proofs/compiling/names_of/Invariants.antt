use Rattle.std.proofs.Common.{◌≡◌, map, take}
use Rattle.coko_block.specs.StmtViews.{block_tree}
use Rattle.coko_block.specs.WellFormed.{block_names}
use Rattle.coko_plan.proofs.compiling.names_of.Given as goal

abbrev pub invariant-loop-block : goal.invariant-loop-block
invariant-loop-block l = l.names ≡ take l.block-index (block_names (map block_tree l.blocks))
