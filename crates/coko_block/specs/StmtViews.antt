-- The plain trees of the program's statements and blocks.
use Rattle.std.specs.Prelude.{ℕ, List}
use Rattle.kola_term.specs.TermView.{term_tree}
use Rattle.coko_block.specs.Statements.{StmtTree, SFire, SSkip, SFail, SSeq, SThen, SElse, SBu, STd, SRepeat, SGiven, BlockTree, of_stmts, of_arms}
use Rattle.coko_block.specs.declared.stmt.Stmt.{Stmt}
use Rattle.coko_block.specs.declared.stmt.Stmt.TheVariants as stmt
use Rattle.coko_block.specs.declared.stmt.Block.{Block}

abbrev pub stmt_tree : Stmt → StmtTree
stmt_tree (stmt.Fire n v) = SFire n v
stmt_tree stmt.Skip = SSkip
stmt_tree stmt.Fail = SFail
stmt_tree (stmt.Seq ss) = SSeq (of_stmts ss)
stmt_tree (stmt.Then ss) = SThen (of_stmts ss)
stmt_tree (stmt.Else ss) = SElse (of_stmts ss)
stmt_tree (stmt.Bu s) = SBu s
stmt_tree (stmt.Td s) = STd s
stmt_tree (stmt.Repeat s) = SRepeat s
stmt_tree (stmt.Given p as') = SGiven (term_tree p) (of_arms as')

-- an arm: the path to the part of the pattern, and its statement
abbrev pub arm_entry : List ℕ × Stmt → List ℕ × StmtTree
arm_entry a = (a.0, stmt_tree a.1)

abbrev pub block_tree : Block → BlockTree
block_tree b = record { name = b.name; stmt = stmt_tree b.stmt }
