-- A group to the right, made of the numbers of its parts.
use Rattle.std.specs.Prelude.{ℕ, List, [], ◌∷◌}
use Rattle.coko_block.specs.Statements.{StmtTrees, NoStmts, MoreStmts}
use Rattle.coko_plan.specs.Entries.{EntryTree, ESkip, ESeq, EThen, EElse, EBu, ETd, ERepeat}
use Rattle.coko_plan.specs.Listing.{Listed, with_entry, put}
use Rattle.coko_plan.specs.declared.listing.Pairing.{Pairing}
use Rattle.coko_plan.specs.declared.listing.Pairing.TheVariants as pairing
use Rattle.coko_plan.specs.declared.listing.Walk.{Walk}
use Rattle.coko_plan.specs.declared.listing.Walk.TheVariants as walk

abbrev pub pair_entry : Pairing → ℕ → ℕ → EntryTree
pair_entry pairing.Seq i j = ESeq i j
pair_entry pairing.Else i j = EElse i j

abbrev pub walk_entry : Walk → ℕ → EntryTree
walk_entry walk.Bu i = EBu i
walk_entry walk.Td i = ETd i
walk_entry walk.Repeat i = ERepeat i

-- the statements in their order, each with its number
abbrev pub put_all : List (List ℕ) → List (List ℕ × ℕ) → List EntryTree → StmtTrees → List EntryTree × List ℕ
put_all rules known es NoStmts = (es, [])
put_all rules known es (MoreStmts s ss) = ((put_all rules known (put rules known es s).0 ss).0, (put rules known es s).1 ∷ (put_all rules known (put rules known es s).0 ss).1)

-- the group of the first and of those behind it
abbrev pub grouped : List EntryTree → ℕ → List ℕ → Listed
grouped es n [] = (es, n)
grouped es n (m ∷ ns) = with_entry (grouped es m ns).0 (EThen n (grouped es m ns).1)

abbrev pub group : List EntryTree → List ℕ → Listed
group es [] = with_entry es ESkip
group es (n ∷ ns) = grouped es n ns
