-- What listing does with the blocks of a file, one by one and all.
use Rattle.std.specs.Prelude.{◌≡◌, ℕ, Bool, true, false, List, [], None, Option, Result, Ok, Err, map}
use Rattle.kola_values.specs.Databases.{look_up}
use Rattle.kola_rule.specs.Rules.{RuleTree}
use Rattle.coko_block.specs.Statements.{StmtTree, BlockTree}
use Rattle.coko_block.specs.WellFormed.{block_names}
use Rattle.coko_plan.specs.EntryViews.{entry_tree}
use Rattle.coko_plan.specs.Naming.{names_in}
use Rattle.coko_plan.specs.Listing.{or_else, listing}
use Rattle.coko_plan.specs.Faults.{Fault, names_of_rules, faults_behind}
use Rattle.coko_plan.specs.Compiling.{Tells}
use Rattle.coko_plan.specs.Working.Sites.{numbered, site_faults, StopTells}
use Rattle.coko_plan.specs.Working.Puts.{put_at}
use Rattle.coko_plan.specs.declared.entry.Entry.{Entry}
use Rattle.coko_plan.specs.declared.fault.CompileFault.{CompileFault}
use Rattle.coko_plan.specs.declared.site.Site.{Site}
use Rattle.coko_plan.specs.declared.site.Stop.{Stop}

-- whatever fault the one tells, the other tells
abbrev pub TellsAs : List ℕ → Stop → CompileFault → Type 0
TellsAs b e f = (o : Option Fault) → StopTells b e o → Tells f o

-- a reached block is listed, where its names have no fault; another one leaves the entries
abbrev pub BlockPut : Bool → Site → StmtTree → List Entry → List Entry → ℕ → Type 0
BlockPut true s t old new n = ((map entry_tree new, n) ≡ put_at s t (map entry_tree old)) × (site_faults s (names_in t) ≡ None)
BlockPut false s t old new n = map entry_tree new ≡ map entry_tree old

-- it is a reached one that stops
abbrev pub PutsBlock : Bool → Site → StmtTree → List Entry → List Entry → Result ℕ CompileFault → Type 0
PutsBlock m s t old new (Ok n) = BlockPut m s t old new n
PutsBlock m s t old new (Err e) = (m ≡ true) × Tells e (site_faults s (names_in t))

-- the reached blocks are listed, where their names have no fault; it stops at the first fault
abbrev pub PutsBlocks : {A : Type 0} → (A → List ℕ) → List RuleTree → List ℕ → List BlockTree → List Entry → Result A CompileFault → Type 0
PutsBlocks v rs c bs new (Ok a) = ((map entry_tree new, or_else (look_up c (numbered (block_names bs) (v a))) 0) ≡ listing (names_of_rules rs) c bs) × (faults_behind rs c [] bs ≡ None)
PutsBlocks v rs c bs new (Err e) = Tells e (faults_behind rs c [] bs)
