-- The plain trees of statements and of named blocks.
use Rattle.std.specs.Prelude.{ℕ, Bool, List, [], ◌∷◌}
use Rattle.kola_term.specs.Terms.{TermTree}

mutual
  pub data StmtTree : Type 0 where
    -- a rule, from right to left where it is reversed, or a block of the name
    SFire : (name : List ℕ) (rev : Bool) → StmtTree
    SSkip SFail : StmtTree
    -- statements one behind the other; each only where the one before it succeeded; each only where the one before it failed
    SSeq : (parts : StmtTrees) → StmtTree
    SThen : (parts : StmtTrees) → StmtTree
    SElse : (parts : StmtTrees) → StmtTree
    SBu : (s : StmtTree) → StmtTree
    STd : (s : StmtTree) → StmtTree
    SRepeat : (s : StmtTree) → StmtTree
    SGiven : (pattern : TermTree) (arms : ArmTrees) → StmtTree

  pub data StmtTrees : Type 0 where
    NoStmts : StmtTrees
    MoreStmts : (s : StmtTree) (parts : StmtTrees) → StmtTrees

  -- statements, each for the part of the pattern at a path
  pub data ArmTrees : Type 0 where
    NoArms : ArmTrees
    MoreArms : (path : List ℕ) (s : StmtTree) (arms : ArmTrees) → ArmTrees

-- a statement with a name
pub record BlockTree : Type 0 where
  pub name : List ℕ
  pub stmt : StmtTree

-- ---- the lists in a tree, and lists as these

abbrev pub of_stmts : List StmtTree → StmtTrees
of_stmts [] = NoStmts
of_stmts (s ∷ ss) = MoreStmts s (of_stmts ss)

abbrev pub of_arms : List (List ℕ × StmtTree) → ArmTrees
of_arms [] = NoArms
of_arms (a ∷ as') = MoreArms a.0 a.1 (of_arms as')

abbrev pub stmts : StmtTrees → List StmtTree
stmts NoStmts = []
stmts (MoreStmts s ss) = s ∷ stmts ss

abbrev pub arms : ArmTrees → List (List ℕ × StmtTree)
arms NoArms = []
arms (MoreArms q s as') = (q, s) ∷ arms as'
