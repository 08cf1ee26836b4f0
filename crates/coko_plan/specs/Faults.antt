-- Why a block has no plan: the first faulty name of the reached blocks.
use Rattle.std.specs.Prelude.{ℕ, Bool, not, ◌&&◌, cond, List, [], ◌∷◌, ◌++◌, Option, Some, None, map, position, slice_get, option_and_then}
use Rattle.std.specs.Str.{bytes_eq}
use Rattle.kola_core.specs.NameLists.{is_listed}
use Rattle.kola_rule.specs.Rules.{RuleTree}
use Rattle.coko_block.specs.Statements.{BlockTree}
use Rattle.coko_block.specs.WellFormed.{block_names}
use Rattle.coko_plan.specs.Naming.{names_in, wanted, reached}
use Rattle.coko_plan.specs.Variables.{can_fire}

pub data Fault : Type 0 where
  UnknownBlock : Fault
  UnknownRule : (block name : List ℕ) → Fault
  LaterBlock : (block name : List ℕ) → Fault
  CannotFire : (block name : List ℕ) → Fault

-- the first of two faults
abbrev pub first : Option Fault → Option Fault → Option Fault
first (Some f) o = Some f
first None o = o

-- the first fault of a list
abbrev pub first_of : {A : Type 0} → (A → Option Fault) → List A → Option Fault
first_of f [] = None
first_of f (a ∷ as') = first (f a) (first_of f as')

abbrev pub names_of_rules : List RuleTree → List (List ℕ)
names_of_rules rules = map (λ (r : RuleTree). r.name) rules

abbrev pub rule_named : List RuleTree → List ℕ → Option RuleTree
rule_named rules n = option_and_then (λ k. slice_get rules k) (position (bytes_eq n) (names_of_rules rules))

-- the fault of a name that is no earlier block's and no rule's; onwards are the names of its block and of the later ones
abbrev pub no_rule : List (List ℕ) → List ℕ → List ℕ → Option Fault
no_rule onwards b n = Some (cond (is_listed n onwards) (LaterBlock b n) (UnknownRule b n))

-- the fault of a name that is no earlier block's: a rule that cannot fire, or no rule
abbrev pub rule_fault : List (List ℕ) → List ℕ → List ℕ → Bool → Option RuleTree → Option Fault
rule_fault onwards b n rev (Some r) = cond (can_fire r rev) None (Some (CannotFire b n))
rule_fault onwards b n rev None = no_rule onwards b n

-- the fault of a name in block b, before which blocks of these names stand: it is looked for among them, and then among the rules; a reversed one among the rules alone
abbrev pub name_fault : List RuleTree → List (List ℕ) → List (List ℕ) → List ℕ → List ℕ × Bool → Option Fault
name_fault rules before onwards b x = cond (not x.1 && is_listed x.0 before) None (rule_fault onwards b x.0 x.1 (rule_named rules x.0))

-- the first fault of a block, in the order of the text
abbrev pub block_fault : List RuleTree → List (List ℕ) → BlockTree → List BlockTree → Option Fault
block_fault rules before b later = first_of (name_fault rules before (b.name ∷ block_names later) b.name) (names_in b.stmt)

-- the first fault of the reached blocks, behind blocks of these names
abbrev pub faults_behind : List RuleTree → List ℕ → List (List ℕ) → List BlockTree → Option Fault
faults_behind rules c before [] = None
faults_behind rules c before (b ∷ bs) = first (cond (is_listed b.name (wanted c (reached c bs))) (block_fault rules before b bs) None) (faults_behind rules c (before ++ b.name ∷ []) bs)

-- the fault of the chosen block; none where it has a plan
abbrev pub fault_of : List RuleTree → List ℕ → List BlockTree → Option Fault
fault_of rules c bs = cond (is_listed c (block_names bs)) (faults_behind rules c [] bs) (Some UnknownBlock)
