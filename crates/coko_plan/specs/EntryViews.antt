-- The plain trees of a plan's entries.
use Rattle.std.specs.Prelude.{ℕ, List, map}
use Rattle.std.specs.Borrow.{Bor}
use Rattle.kola_term.specs.TermView.{term_tree}
use Rattle.coko_plan.specs.Entries.{EntryTree, EFire, ESkip, EFail, ESeq, EThen, EElse, EBu, ETd, ERepeat, EGiven}
use Rattle.coko_plan.specs.declared.entry.Entry.{Entry}
use Rattle.coko_plan.specs.declared.entry.Entry.TheVariants as entry

abbrev pub entry_tree : Entry → EntryTree
entry_tree (entry.Fire r v) = EFire r v
entry_tree entry.Skip = ESkip
entry_tree entry.Fail = EFail
entry_tree (entry.Seq i j) = ESeq i j
entry_tree (entry.Then i j) = EThen i j
entry_tree (entry.Else i j) = EElse i j
entry_tree (entry.Bu i) = EBu i
entry_tree (entry.Td i) = ETd i
entry_tree (entry.Repeat i) = ERepeat i
entry_tree (entry.Given p as') = EGiven (term_tree p) as'

abbrev pub entry_at : Bor Entry → EntryTree
entry_at e = entry_tree e.now

-- what contracts see of a plan: its entries, and the number of the one with which it starts
abbrev pub PlanValue : Type 0
PlanValue = List Entry × ℕ

abbrev pub entries_of : PlanValue → List EntryTree
entries_of p = map entry_tree p.0

abbrev pub start_of : PlanValue → ℕ
start_of p = p.1
