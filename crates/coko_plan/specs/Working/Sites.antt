-- Where names are looked for: the rules, and the blocks of a file with the numbers of those before.
use Rattle.std.specs.Prelude.{◌≡◌, ℕ, Bool, true, List, [], ◌∷◌, Option, Some, None, map, take, drop, length}
use Rattle.kola_schema.specs.Schemas.{are_distinct}
use Rattle.kola_rule.specs.Rules.{RuleTree}
use Rattle.kola_rule.specs.RuleViews.{rule_tree}
use Rattle.coko_plan.specs.Faults.{Fault, UnknownRule, LaterBlock, CannotFire, name_fault, first_of}
use Rattle.coko_plan.specs.Working.Seen.{directions}
use Rattle.coko_plan.specs.declared.site.Site.{Site}
use Rattle.coko_plan.specs.declared.site.Meaning.{Meaning}
use Rattle.coko_plan.specs.declared.site.Meaning.TheVariants as meaning
use Rattle.coko_plan.specs.declared.site.Stop.{Stop}
use Rattle.coko_plan.specs.declared.site.Stop.TheVariants as stop

-- names with numbers, as far as there are both
abbrev pub numbered : List (List ℕ) → List ℕ → List (List ℕ × ℕ)
numbered [] is = []
numbered (n ∷ ns) [] = []
numbered (n ∷ ns) (i ∷ is) = (n, i) ∷ numbered ns is

abbrev pub rules_of : Site → List RuleTree
rules_of s = map rule_tree s.rules.now

abbrev pub known_of : Site → List (List ℕ × ℕ)
known_of s = numbered s.names.now s.numbers.now

-- the names of the blocks before, and from this one on
abbrev pub before_of : Site → List (List ℕ)
before_of s = take (length s.numbers.now) s.names.now

abbrev pub onwards_of : Site → List (List ℕ)
onwards_of s = drop (length s.numbers.now) s.names.now

-- what was tested of the rules
abbrev pub IsTested : Site → Type 0
IsTested s = s.fires.now ≡ map directions (rules_of s)

-- and no two blocks have one name
abbrev pub IsOk : Site → Type 0
IsOk s = IsTested s × (are_distinct s.names.now ≡ true)

-- the fault of a name at the site, and the first of names
abbrev pub site_fault : Site → List ℕ × Bool → Option Fault
site_fault s x = name_fault (rules_of s) (before_of s) (onwards_of s) s.block.now x

abbrev pub site_faults : Site → List (List ℕ × Bool) → Option Fault
site_faults s xs = first_of (site_fault s) xs

-- what stops at a name of block b is its fault; want of memory says nothing
abbrev pub StopTells : List ℕ → Stop → Option Fault → Type 0
StopTells b (stop.UnknownRule n) o = o ≡ Some (UnknownRule b n.now)
StopTells b (stop.LaterBlock n) o = o ≡ Some (LaterBlock b n.now)
StopTells b (stop.CannotFire n) o = o ≡ Some (CannotFire b n.now)
StopTells b stop.Memory o = Unit {0}

-- a name is the block of the number that is known, or else the rule at the place
abbrev pub IsMeant : Meaning → Option ℕ → ℕ → Type 0
IsMeant (meaning.Block i) o r = o ≡ Some i
IsMeant (meaning.Rule k) o r = (o ≡ None) × (k ≡ r)
