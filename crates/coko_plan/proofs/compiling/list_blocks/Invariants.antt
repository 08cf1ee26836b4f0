use Rattle.std.proofs.Common.{map}
use Rattle.kola_rule.specs.RuleViews.{rule_tree}
use Rattle.coko_block.specs.StmtViews.{block_tree}
use Rattle.coko_plan.specs.EntryViews.{entry_tree}
use Rattle.coko_plan.proofs.Blocks.{Keeps}
use Rattle.coko_plan.proofs.compiling.list_blocks.Given as goal

abbrev pub invariant-loop-n : goal.invariant-loop-n
invariant-loop-n l = Keeps (map rule_tree l.rules) l.chosen (map block_tree l.blocks) l.n (map entry_tree l.entries.items) l.numbers.items
