-- Plans over a table of rules.
use Rattle.std.specs.Prelude.{◌≡◌, ◌<◌, ℕ, Bool, List, Some, length, slice_get}
use Rattle.kola_values.specs.Sets.{Each}
use Rattle.kola_rule.specs.Rules.{RuleTree}
use Rattle.coko_block.specs.WellFormed.{LeadsToVariable}
use Rattle.coko_plan.specs.Entries.{EntryTree, EFire, EGiven}
use Rattle.coko_plan.specs.Variables.{Covers}

-- a rule stands at the place, and puts in no variable that its pattern side lacks
abbrev pub Fires : List RuleTree → ℕ → Bool → Type 0
Fires rules n rev = (r : RuleTree) × (slice_get rules n ≡ Some r) × Covers r rev

-- each firing is one of a rule of the table, and each arm leads to a function or predicate variable of its pattern
abbrev pub EntryFor : List RuleTree → EntryTree → Type 0
EntryFor rules (EFire n rev) = Fires rules n rev
EntryFor rules (EGiven p as') = Each (λ (a : List ℕ × ℕ). LeadsToVariable p a.0) as'
EntryFor rules _ = Unit {0}

-- these entries with this start are a plan for the table
pub record PlanFor (es : List EntryTree) (start : ℕ) (rules : List RuleTree) : Type 0 where
  pub starts : start < length es
  pub entries : Each (EntryFor rules) es
