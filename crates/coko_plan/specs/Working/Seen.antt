-- Tables of the variables that were seen, each kind apart.
use Rattle.std.specs.Prelude.{◌≡◌, ℕ, Bool, true, false, ◌||◌, List, [], ◌∷◌, Option, Some, None}
use Rattle.std.specs.Str.{bytes_eq}
use Rattle.kola_core.specs.NameLists.{is_listed}
use Rattle.kola_term.specs.Terms.{FMeta, PMeta, CMeta, TermTree, TermF, TermP, TermC}
use Rattle.kola_rule.specs.Rules.{RuleTree}
use Rattle.coko_plan.specs.Variables.{is_among, can_fire}
use Rattle.coko_plan.specs.declared.firing.Variables.{Variables}

-- a name was added to a table
abbrev pub AddsName : List (List ℕ) → List (List ℕ) → List ℕ → Type 0
AddsName old new n = (m : List ℕ) → is_listed m new ≡ (is_listed m old || bytes_eq m n)

-- names were added
abbrev pub AddsNames : List (List ℕ) → List (List ℕ) → List (List ℕ) → Type 0
AddsNames old new ns = (m : List ℕ) → is_listed m new ≡ (is_listed m old || is_listed m ns)

-- a variable whose name is in the table of its kind
abbrev pub knows : List (List ℕ) → List (List ℕ) → List (List ℕ) → TermTree → Bool
knows funs preds consts (TermF (FMeta n)) = is_listed n funs
knows funs preds consts (TermP (PMeta n)) = is_listed n preds
knows funs preds consts (TermC (CMeta n)) = is_listed n consts
knows funs preds consts _ = false

abbrev pub has_seen : Variables → TermTree → Bool
has_seen s w = knows s.funs s.preds s.consts w

-- variables were added
abbrev pub Sees : Variables → Variables → List TermTree → Type 0
Sees old new vs = (w : TermTree) → has_seen new w ≡ (has_seen old w || is_among vs w)

-- the node, where it is a variable
abbrev pub own : TermTree → List TermTree
own (TermF (FMeta n)) = TermF (FMeta n) ∷ []
own (TermP (PMeta n)) = TermP (PMeta n) ∷ []
own (TermC (CMeta n)) = TermC (CMeta n) ∷ []
own _ = []

-- whether a rule may fire from left to right, and from right to left
abbrev pub directions : RuleTree → Bool × Bool
directions r = (can_fire r false, can_fire r true)

-- whether the rule that is found may fire
abbrev pub fires_at : Option RuleTree → Bool → Bool
fires_at (Some r) v = can_fire r v
fires_at None v = false
