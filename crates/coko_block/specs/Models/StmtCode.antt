-- How a proof tells statements apart: a statement as a tree of numbers, and back.
use Rattle.std.specs.Prelude.{◌≡◌, ℕ, List, refl}
use Rattle.std.proofs.Common.{zero, suc}
use base.Stored.{Gv, gnil, gnum, gcons, Coded, coded_list, coded×, coded_ℕ}
use Rattle.std.specs.Coded.{code_by}
use Rattle.coko_block.specs.Statements.{StmtTree, SFire, SSkip, SFail, SSeq, SThen, SElse, SBu, STd, SRepeat, SGiven, StmtTrees, NoStmts, MoreStmts, ArmTrees, NoArms, MoreArms}
use Rattle.coko_block.specs.Models.TermCode.{gv_code, stored_bytes, read_bytes, read_bytes-stored, stored_bit, read_bit, read_bit-stored, stored_term, read_term, read_term-stored}

abbrev mutual
  stored : StmtTree → Gv
  stored (SFire n v) = gcons (gnum 0) (gcons (stored_bytes n) (stored_bit v))
  stored SSkip = gnum 0
  stored SFail = gnum 1
  stored (SSeq ss) = gcons (gnum 1) (stored_stmts ss)
  stored (SThen ss) = gcons (gnum 2) (stored_stmts ss)
  stored (SElse ss) = gcons (gnum 3) (stored_stmts ss)
  stored (SBu s) = gcons (gnum 4) (stored s)
  stored (STd s) = gcons (gnum 5) (stored s)
  stored (SRepeat s) = gcons (gnum 6) (stored s)
  stored (SGiven p as') = gcons gnil (gcons (stored_term p) (stored_arms as'))

  stored_stmts : StmtTrees → Gv
  stored_stmts NoStmts = gnil
  stored_stmts (MoreStmts s ss) = gcons (stored s) (stored_stmts ss)

  stored_arms : ArmTrees → Gv
  stored_arms NoArms = gnil
  stored_arms (MoreArms q s as') = gcons (gcons (stored_bytes q) (stored s)) (stored_arms as')

abbrev mutual
  read : Gv → StmtTree
  read (gcons (gnum zero) (gcons n v)) = SFire (read_bytes n) (read_bit v)
  read (gnum zero) = SSkip
  read (gcons (gnum (suc zero)) ss) = SSeq (read_stmts ss)
  read (gcons (gnum (suc (suc zero))) ss) = SThen (read_stmts ss)
  read (gcons (gnum (suc (suc (suc zero)))) ss) = SElse (read_stmts ss)
  read (gcons (gnum (suc (suc (suc (suc zero))))) s) = SBu (read s)
  read (gcons (gnum (suc (suc (suc (suc (suc zero)))))) s) = STd (read s)
  read (gcons (gnum (suc (suc (suc (suc (suc (suc zero))))))) s) = SRepeat (read s)
  read (gcons gnil (gcons p as')) = SGiven (read_term p) (read_arms as')
  read _ = SFail

  read_stmts : Gv → StmtTrees
  read_stmts (gcons s ss) = MoreStmts (read s) (read_stmts ss)
  read_stmts _ = NoStmts

  read_arms : Gv → ArmTrees
  read_arms (gcons (gcons q s) as') = MoreArms (read_bytes q) (read s) (read_arms as')
  read_arms _ = NoArms

mutual
  pub read-stored : (s : StmtTree) → read (stored s) ≡ s
  read-stored (SFire n v) = λ i. SFire (read_bytes-stored n i) (read_bit-stored v i)
  read-stored SSkip = refl
  read-stored SFail = refl
  read-stored (SSeq ss) = λ i. SSeq (read_stmts-stored ss i)
  read-stored (SThen ss) = λ i. SThen (read_stmts-stored ss i)
  read-stored (SElse ss) = λ i. SElse (read_stmts-stored ss i)
  read-stored (SBu s) = λ i. SBu (read-stored s i)
  read-stored (STd s) = λ i. STd (read-stored s i)
  read-stored (SRepeat s) = λ i. SRepeat (read-stored s i)
  read-stored (SGiven p as') = λ i. SGiven (read_term-stored p i) (read_arms-stored as' i)

  read_stmts-stored : (ss : StmtTrees) → read_stmts (stored_stmts ss) ≡ ss
  read_stmts-stored NoStmts = refl
  read_stmts-stored (MoreStmts s ss) = λ i. MoreStmts (read-stored s i) (read_stmts-stored ss i)

  read_arms-stored : (as' : ArmTrees) → read_arms (stored_arms as') ≡ as'
  read_arms-stored NoArms = refl
  read_arms-stored (MoreArms q s as') = λ i. MoreArms (read_bytes-stored q i) (read-stored s i) (read_arms-stored as' i)

abbrev pub stmt_code : Coded StmtTree
stmt_code = code_by Gv gv_code stored read read-stored

abbrev pub arm_code : Coded (List ℕ × StmtTree)
arm_code = coded× (coded_list coded_ℕ) stmt_code
