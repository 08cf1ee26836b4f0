-- The parts of a statement weigh less than the whole.
use Rattle.std.specs.Prelude.{◌≡◌, ℕ, ◌+◌, ◌≤◌, List, [], ◌∷◌, map, refl}
use Rattle.std.proofs.Common.{arith, ap}
use denote.Param.Weighed.{most}
use Rattle.coko_block.specs.Statements.{StmtTree, of_stmts, of_arms}
use Rattle.coko_block.specs.StmtViews.{stmt_tree, arm_entry}
use Rattle.coko_block.specs.Models.Weights.{weight, stmts_weight, arms_weight, entries_weight, arm_entries_weight}
use Rattle.coko_block.specs.declared.stmt.Stmt.{Stmt}
use Rattle.coko_block.specs.declared.stmt.Stmt.TheVariants as stmt
use Rattle.coko_block.specs.declared.stmt.Arms.TheDeep.{deep-Stmt}
use Rattle.coko_block.specs.declared.stmt.Arms.TheShapes.{weighed-Arms-entries-at-2}

stmts_weight-of : (ss : List StmtTree) → stmts_weight (of_stmts ss) ≡ entries_weight ss
stmts_weight-of [] = refl
stmts_weight-of (s ∷ ss) = ap (λ n. 1 + weight s + n) (stmts_weight-of ss)

arms_weight-of : (as' : List (List ℕ × StmtTree)) → arms_weight (of_arms as') ≡ arm_entries_weight as'
arms_weight-of [] = refl
arms_weight-of (a ∷ as') = ap (λ n. 1 + weight a.1 + n) (arms_weight-of as')

pub stmt_deep_le : (s : Stmt) → deep-Stmt s ≤ weight (stmt_tree s)
stmt_deep_le (stmt.Fire n v) = omega arith
stmt_deep_le stmt.Skip = omega arith
stmt_deep_le stmt.Fail = omega arith
stmt_deep_le (stmt.Seq ss) = omega (arith, stmts_weight-of ss)
stmt_deep_le (stmt.Then ss) = omega (arith, stmts_weight-of ss)
stmt_deep_le (stmt.Else ss) = omega (arith, stmts_weight-of ss)
stmt_deep_le (stmt.Bu s) = omega arith
stmt_deep_le (stmt.Td s) = omega arith
stmt_deep_le (stmt.Repeat s) = omega arith
stmt_deep_le (stmt.Given p as') = omega (arith, arms_weight-of as')

pub entries_le : (ss : List Stmt) → most deep-Stmt ss ≤ entries_weight (map stmt_tree ss)
entries_le [] = omega arith
entries_le (s ∷ ss) = omega (arith, entries_le ss, stmt_deep_le s)

abbrev arm_deep : List ℕ × Stmt → ℕ
arm_deep a = weighed-Arms-entries-at-2.weight Stmt deep-Stmt a

pub arm_entries_le : (as' : List (List ℕ × Stmt)) → most arm_deep as' ≤ arm_entries_weight (map arm_entry as')
arm_entries_le [] = omega arith
arm_entries_le (a ∷ as') = omega (arith, arm_entries_le as', stmt_deep_le a.1)
