-- A number that falls from a statement to its parts.
use Rattle.std.specs.Prelude.{ℕ, ◌+◌, List, [], ◌∷◌}
use Rattle.coko_block.specs.Statements.{StmtTree, SSeq, SThen, SElse, SBu, STd, SRepeat, SGiven, StmtTrees, NoStmts, MoreStmts, ArmTrees, NoArms, MoreArms}

abbrev mutual
  pub weight : StmtTree → ℕ
  weight (SSeq ss) = 1 + stmts_weight ss
  weight (SThen ss) = 1 + stmts_weight ss
  weight (SElse ss) = 1 + stmts_weight ss
  weight (SBu s) = 1 + weight s
  weight (STd s) = 1 + weight s
  weight (SRepeat s) = 1 + weight s
  weight (SGiven p as') = 1 + arms_weight as'
  weight _ = 1

  pub stmts_weight : StmtTrees → ℕ
  stmts_weight NoStmts = 1
  stmts_weight (MoreStmts s ss) = 1 + weight s + stmts_weight ss

  pub arms_weight : ArmTrees → ℕ
  arms_weight NoArms = 1
  arms_weight (MoreArms q s as') = 1 + weight s + arms_weight as'

-- the same of the entries of a list
abbrev pub entries_weight : List StmtTree → ℕ
entries_weight [] = 1
entries_weight (s ∷ ss) = 1 + weight s + entries_weight ss

abbrev pub arm_entries_weight : List (List ℕ × StmtTree) → ℕ
arm_entries_weight [] = 1
arm_entries_weight (a ∷ as') = 1 + weight a.1 + arm_entries_weight as'
