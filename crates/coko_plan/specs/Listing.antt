-- The whole statement of a block, and the entries that list it.
use Rattle.std.specs.Prelude.{ℕ, Bool, cond, List, [], ◌∷◌, ◌++◌, Option, Some, None, length, position}
use Rattle.std.specs.Str.{bytes_eq}
use Rattle.kola_values.specs.Databases.{look_up}
use Rattle.coko_block.specs.Statements.{StmtTree, SFire, SSkip, SFail, SSeq, SThen, SElse, SBu, STd, SRepeat, SGiven, StmtTrees, NoStmts, MoreStmts, ArmTrees, NoArms, MoreArms, BlockTree}
use Rattle.coko_plan.specs.Wholes.{WholeTree, WFire, WSkip, WFail, WSeq, WThen, WElse, WBu, WTd, WRepeat, WGiven, WholeArms, NoWholes, MoreWholes}
use Rattle.coko_plan.specs.Entries.{EntryTree, EFire, ESkip, EFail, ESeq, EThen, EElse, EBu, ETd, ERepeat, EGiven}
use Rattle.coko_plan.specs.Naming.{reached}

abbrev pub or_else : {A : Type 0} → Option A → A → A
or_else (Some a) d = a
or_else None d = d

-- the place of the rule of a name among rules of these names
abbrev pub place_of : List (List ℕ) → List ℕ → ℕ
place_of rules n = or_else (position (bytes_eq n) rules) 0

-- what is known of the earlier block of a name; a reversed name is no block's
abbrev pub earlier : {A : Type 0} → List (List ℕ × A) → List ℕ → Bool → Option A
earlier known n rev = cond rev None (look_up n known)

-- ---- whole statements, where these statements are known of earlier blocks: `;` and `||` group to the left, `->` to the right

abbrev mutual
  pub whole : List (List ℕ) → List (List ℕ × WholeTree) → StmtTree → WholeTree
  whole rules known (SFire n v) = or_else (earlier known n v) (WFire (place_of rules n) v)
  whole rules known SSkip = WSkip
  whole rules known SFail = WFail
  whole rules known (SSeq ss) = whole_left WSeq rules known ss
  whole rules known (SThen ss) = whole_right rules known ss
  whole rules known (SElse ss) = whole_left WElse rules known ss
  whole rules known (SBu s) = WBu (whole rules known s)
  whole rules known (STd s) = WTd (whole rules known s)
  whole rules known (SRepeat s) = WRepeat (whole rules known s)
  whole rules known (SGiven p as') = WGiven p (whole_arms rules known as')

  pub whole_left : (WholeTree → WholeTree → WholeTree) → List (List ℕ) → List (List ℕ × WholeTree) → StmtTrees → WholeTree
  whole_left f rules known NoStmts = WSkip
  whole_left f rules known (MoreStmts s ss) = left_from f rules known (whole rules known s) ss

  -- the statement grouped with each further one behind it
  pub left_from : (WholeTree → WholeTree → WholeTree) → List (List ℕ) → List (List ℕ × WholeTree) → WholeTree → StmtTrees → WholeTree
  left_from f rules known a NoStmts = a
  left_from f rules known a (MoreStmts s ss) = left_from f rules known (f a (whole rules known s)) ss

  pub whole_right : List (List ℕ) → List (List ℕ × WholeTree) → StmtTrees → WholeTree
  whole_right rules known NoStmts = WSkip
  whole_right rules known (MoreStmts s ss) = right_from rules known (whole rules known s) ss

  -- the statement before the group of the further ones
  pub right_from : List (List ℕ) → List (List ℕ × WholeTree) → WholeTree → StmtTrees → WholeTree
  right_from rules known a NoStmts = a
  right_from rules known a (MoreStmts s ss) = WThen a (right_from rules known (whole rules known s) ss)

  pub whole_arms : List (List ℕ) → List (List ℕ × WholeTree) → ArmTrees → WholeArms
  whole_arms rules known NoArms = NoWholes
  whole_arms rules known (MoreArms q s as') = MoreWholes q (whole rules known s) (whole_arms rules known as')

-- each block's name with its whole statement, behind what is known
abbrev pub wholes : List (List ℕ) → List (List ℕ × WholeTree) → List BlockTree → List (List ℕ × WholeTree)
wholes rules known [] = known
wholes rules known (b ∷ bs) = wholes rules (known ++ (b.name, whole rules known b.stmt) ∷ []) bs

-- the whole statement of the chosen block
abbrev pub whole_of : List (List ℕ) → List ℕ → List BlockTree → WholeTree
whole_of rules c bs = or_else (look_up c (wholes rules [] (reached c bs))) WSkip

-- ---- listings: entries, and the number of a statement, where the numbers of earlier blocks are known

-- entries with the number of a statement among them
abbrev pub Listed : Type 0
Listed = List EntryTree × ℕ

abbrev pub with_entry : List EntryTree → EntryTree → Listed
with_entry es e = (es ++ e ∷ [], length es)

-- a name of a block has no entry and stands for that block's number
abbrev pub put_name : List EntryTree → Option ℕ → ℕ → Bool → Listed
put_name es (Some i) r v = (es, i)
put_name es None r v = with_entry es (EFire r v)

abbrev mutual
  -- the parts of a statement from left to right, then the statement
  pub put : List (List ℕ) → List (List ℕ × ℕ) → List EntryTree → StmtTree → Listed
  put rules known es (SFire n v) = put_name es (earlier known n v) (place_of rules n) v
  put rules known es SSkip = with_entry es ESkip
  put rules known es SFail = with_entry es EFail
  put rules known es (SSeq ss) = put_left ESeq rules known es ss
  put rules known es (SThen ss) = put_right rules known es ss
  put rules known es (SElse ss) = put_left EElse rules known es ss
  put rules known es (SBu s) = with_entry (put rules known es s).0 (EBu (put rules known es s).1)
  put rules known es (STd s) = with_entry (put rules known es s).0 (ETd (put rules known es s).1)
  put rules known es (SRepeat s) = with_entry (put rules known es s).0 (ERepeat (put rules known es s).1)
  put rules known es (SGiven p as') = with_entry (put_arms rules known es as').0 (EGiven p (put_arms rules known es as').1)

  pub put_left : (ℕ → ℕ → EntryTree) → List (List ℕ) → List (List ℕ × ℕ) → List EntryTree → StmtTrees → Listed
  put_left e rules known es NoStmts = with_entry es ESkip
  put_left e rules known es (MoreStmts s ss) = put_more e rules known (put rules known es s) ss

  -- each further statement, and its group with what stands before it
  pub put_more : (ℕ → ℕ → EntryTree) → List (List ℕ) → List (List ℕ × ℕ) → Listed → StmtTrees → Listed
  put_more e rules known x NoStmts = x
  put_more e rules known x (MoreStmts s ss) = put_more e rules known (with_entry (put rules known x.0 s).0 (e x.1 (put rules known x.0 s).1)) ss

  pub put_right : List (List ℕ) → List (List ℕ × ℕ) → List EntryTree → StmtTrees → Listed
  put_right rules known es NoStmts = with_entry es ESkip
  put_right rules known es (MoreStmts s ss) = put_rest rules known (put rules known es s) ss

  -- the further statements as one group, and the group of both
  pub put_rest : List (List ℕ) → List (List ℕ × ℕ) → Listed → StmtTrees → Listed
  put_rest rules known x NoStmts = x
  put_rest rules known x (MoreStmts s ss) = with_entry (put_rest rules known (put rules known x.0 s) ss).0 (EThen x.1 (put_rest rules known (put rules known x.0 s) ss).1)

  -- the statements of the arms, each with its path and number
  pub put_arms : List (List ℕ) → List (List ℕ × ℕ) → List EntryTree → ArmTrees → List EntryTree × List (List ℕ × ℕ)
  put_arms rules known es NoArms = (es, [])
  put_arms rules known es (MoreArms q s as') = ((put_arms rules known (put rules known es s).0 as').0, (q, (put rules known es s).1) ∷ (put_arms rules known (put rules known es s).0 as').1)

-- the blocks in their order: the entries, and each block's name with its number, behind what is known
abbrev pub put_blocks : List (List ℕ) → List (List ℕ × ℕ) → List EntryTree → List BlockTree → List EntryTree × List (List ℕ × ℕ)
put_blocks rules known es [] = (es, known)
put_blocks rules known es (b ∷ bs) = put_blocks rules (known ++ (b.name, (put rules known es b.stmt).1) ∷ []) (put rules known es b.stmt).0 bs

-- the entries of the reached blocks, and the number of the chosen one
abbrev pub listing : List (List ℕ) → List ℕ → List BlockTree → Listed
listing rules c bs = ((put_blocks rules [] [] (reached c bs)).0, or_else (look_up c (put_blocks rules [] [] (reached c bs)).1) 0)
