-- What is answered for a chosen block: its plan, or its fault.
use Rattle.std.specs.Prelude.{◌≡◌, ◌⊎◌, ℕ, List, Option, Some, None}
use Rattle.kola_rule.specs.Rules.{RuleTree}
use Rattle.coko_block.specs.Statements.{BlockTree}
use Rattle.coko_block.specs.WellFormed.{BlocksOk}
use Rattle.coko_plan.specs.Entries.{EntryTree, stands_for}
use Rattle.coko_plan.specs.Plans.{PlanFor}
use Rattle.coko_plan.specs.Listing.{whole_of, listing}
use Rattle.coko_plan.specs.Faults.{names_of_rules, Fault, UnknownBlock, UnknownRule, LaterBlock, CannotFire, fault_of}
use Rattle.coko_plan.specs.declared.fault.CompileFault.{CompileFault}
use Rattle.coko_plan.specs.declared.fault.CompileFault.TheVariants as fault

-- the block has no fault, the entries list it, and the one with which they start stands for the whole of it
pub record IsPlanOf (rules : List RuleTree) (c : List ℕ) (bs : List BlockTree) (es : List EntryTree) (start : ℕ) : Type 0 where
  pub faultless : fault_of rules c bs ≡ None
  pub listed : (es, start) ≡ listing (names_of_rules rules) c bs
  pub whole : stands_for es start ≡ whole_of (names_of_rules rules) c bs
  pub fits : PlanFor es start rules

-- the fault that is answered is the block's; want of memory says nothing
abbrev pub Tells : CompileFault → Option Fault → Type 0
Tells fault.UnknownBlock o = o ≡ Some UnknownBlock
Tells (fault.UnknownRule b n) o = o ≡ Some (UnknownRule b n)
Tells (fault.LaterBlock b n) o = o ≡ Some (LaterBlock b n)
Tells (fault.CannotFire b n) o = o ≡ Some (CannotFire b n)
Tells fault.Memory o = Unit {0}

-- a block has a plan or a fault
abbrev pub PlanOrFault : Type 0
PlanOrFault = (rules : List RuleTree) (c : List ℕ) (bs : List BlockTree) → BlocksOk bs
    → IsPlanOf rules c bs (listing (names_of_rules rules) c bs).0 (listing (names_of_rules rules) c bs).1 ⊎ ((f : Fault) × (fault_of rules c bs ≡ Some f))
