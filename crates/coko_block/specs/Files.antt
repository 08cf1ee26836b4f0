-- What a file of rules writes, as plain trees.
use Rattle.std.specs.Prelude.{List}
use Rattle.kola_rule.specs.Rules.{DraftTree}
use Rattle.coko_block.specs.Statements.{BlockTree}

-- rules with their proofs, and blocks, each in their order
pub record FileTree : Type 0 where
  pub drafts : List DraftTree
  pub blocks : List BlockTree
