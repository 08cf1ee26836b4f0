-- The plain tree of what a file of rules writes.
use Rattle.std.specs.Prelude.{map}
use Rattle.kola_rule.specs.RuleViews.{draft_tree}
use Rattle.coko_block.specs.StmtViews.{block_tree}
use Rattle.coko_block.specs.Files.{FileTree}
use Rattle.coko_block.specs.declared.file.RuleFile.{RuleFile}

abbrev pub file_tree : RuleFile → FileTree
file_tree f = record { drafts = map draft_tree f.drafts; blocks = map block_tree f.blocks }
