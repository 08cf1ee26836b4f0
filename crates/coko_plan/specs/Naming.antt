-- The names in a statement, and the blocks that a chosen one reaches.
use Rattle.std.specs.Prelude.{ℕ, Bool, cond, List, [], ◌∷◌, ◌++◌}
use Rattle.std.specs.List.{flat_map}
use Rattle.kola_core.specs.NameLists.{is_listed}
use Rattle.coko_block.specs.Statements.{StmtTree, SFire, SSkip, SFail, SSeq, SThen, SElse, SBu, STd, SRepeat, SGiven, StmtTrees, NoStmts, MoreStmts, ArmTrees, NoArms, MoreArms, BlockTree}

-- the names in the order of the text, each with whether it is reversed
abbrev mutual
  pub names_in : StmtTree → List (List ℕ × Bool)
  names_in (SFire n v) = (n, v) ∷ []
  names_in SSkip = []
  names_in SFail = []
  names_in (SSeq ss) = names_among ss
  names_in (SThen ss) = names_among ss
  names_in (SElse ss) = names_among ss
  names_in (SBu s) = names_in s
  names_in (STd s) = names_in s
  names_in (SRepeat s) = names_in s
  names_in (SGiven p as') = names_in_arms as'

  pub names_among : StmtTrees → List (List ℕ × Bool)
  names_among NoStmts = []
  names_among (MoreStmts s ss) = names_in s ++ names_among ss

  pub names_in_arms : ArmTrees → List (List ℕ × Bool)
  names_in_arms NoArms = []
  names_in_arms (MoreArms q s as') = names_in s ++ names_in_arms as'

-- the names that may be those of blocks: a reversed one is none
abbrev pub forward : List (List ℕ × Bool) → List (List ℕ)
forward [] = []
forward (x ∷ xs) = cond x.1 (forward xs) (x.0 ∷ forward xs)

-- the names by which a block may run others
abbrev pub uses : BlockTree → List (List ℕ)
uses b = forward (names_in b.stmt)

-- ---- reached blocks

-- the chosen name, and those by which these blocks may run others
abbrev pub wanted : List ℕ → List BlockTree → List (List ℕ)
wanted c bs = c ∷ flat_map uses bs

-- the blocks that are reached, in their order: one has the chosen name, or a reached one behind it names it
abbrev pub reached : List ℕ → List BlockTree → List BlockTree
reached c [] = []
reached c (b ∷ bs) = cond (is_listed b.name (wanted c (reached c bs))) (b ∷ reached c bs) (reached c bs)
