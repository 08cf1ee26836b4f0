-- What the parts of the machine say of entries and of firings.
use Rattle.std.specs.Prelude.{◌≡◌, ◌-◌, ◌⊎◌, ℕ, Bool, List, [], ◌∷◌, Some, slice_get}
use Rattle.kola_values.specs.Databases.{Classes}
use Rattle.kola_term.specs.Terms.{TermTree}
use Rattle.kola_term.specs.TermView.{term_tree}
use Rattle.kola_rule.specs.Rules.{RuleTree}
use Rattle.coko_plan.specs.Wholes.{WholeTree}
use Rattle.coko_plan.specs.Entries.{EntryTree, EGiven}
use Rattle.coko_plan.specs.Variables.{Covers}
use Rattle.coko_run.specs.Outcomes as s
use Rattle.coko_run.specs.Runs as d
use Rattle.coko_run.specs.Moves.{Conf, Going, Over, FAfter}
use Rattle.coko_run.specs.Firing.{FitsUnit}
use Rattle.coko_run.specs.Views.{notes, frames}
use Rattle.coko_run.specs.declared.machine.Held.{Held}
use Rattle.coko_run.specs.declared.fire.Shooting.{Shooting}
use Rattle.coko_run.specs.declared.fire.Shooting.TheVariants as shooting

-- the rule of the number puts in no variable that its pattern side lacks
abbrev pub MayFire : List RuleTree → ℕ → Bool → Type 0
MayFire rules n rev = (r : RuleTree) → slice_get rules n ≡ Some r → Covers r rev

abbrev pub arm_list : EntryTree → List (List ℕ × ℕ)
arm_list (EGiven p as') = as'
arm_list _ = []

-- what an attempt comes to, where these terms can be had by a firing
abbrev pub IsShooting : Classes → (TermTree → Type 0) → Shooting → Type 0
IsShooting S hit (shooting.Hit t) = hit (term_tree t.value) × FitsUnit S (term_tree t.value)
IsShooting S hit shooting.Size = (c : TermTree) × hit c × (FitsUnit S c → ⊥)
IsShooting S hit shooting.Miss = (c : TermTree) → hit c → ⊥

-- a step was taken and the statement stands before the job, or no step was left
abbrev pub Stepped : List WholeTree → Held → s.When → d.Job → WholeTree → List ℕ → Conf → Type 0
Stepped t h c j a q r =
    ((h.left ≡ 0) × (r ≡ Over (term_tree h.whole.value) s.Spent h.left (notes h.log)))
    ⊎ ((h.left ≡ 0 → ⊥) × (r ≡ Going (d.Do a) (term_tree h.whole.value) q (h.left - 1) (notes h.log) (FAfter c j q ∷ frames t h.stack.items)))
