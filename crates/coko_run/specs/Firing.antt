-- What a rule does at a place of the whole term: a step of a proof, at the type `unit` and without variables.
use Rattle.std.specs.Prelude.{◌≡◌, ℕ, Bool, List, [], ◌∷◌, Option, Some, slice_get}
use Rattle.kola_values.specs.Types.{TypeTree, TUnit}
use Rattle.kola_values.specs.Databases.{Classes}
use Rattle.kola_term.specs.Terms.{TermTree}
use Rattle.kola_term.specs.Places.{sub_at, place}
use Rattle.kola_term.specs.Faults.{Fits}
use Rattle.kola_rule.specs.Rules.{RuleTree}
use Rattle.kola_match.specs.Substitutions.{Substitution, sub_type, inst, IsTyped}
use Rattle.kola_match.specs.Instances.{pattern_side}
use Rattle.kola_proof.specs.Steps.{ByInstance, AllShown}
use Rattle.coko_run.specs.Outcomes.{Event, Missed}
use Rattle.coko_run.specs.Forms.{FormAt}
use Rattle.coko_run.specs.Runs.{World}

-- at the path, the rule has an instance whose conditions are shown by the keys of the schema; c is b with the other side there
pub record HitBy (S : Classes) (rule : RuleTree) (rev : Bool) (b : TermTree) (q : List ℕ) (c : TermTree) : Type 0 where
  pub s : Substitution
  pub by : ByInstance S [] TUnit rule rev q b c s
  pub shown : AllShown S [] [] rule s

-- so has the rule of the number
pub record Hit (S : Classes) (rules : List RuleTree) (n : ℕ) (rev : Bool) (b : TermTree) (q : List ℕ) (c : TermTree) : Type 0 where
  pub rule : RuleTree
  pub is : slice_get rules n ≡ Some rule
  pub by : HitBy S rule rev b q c

-- s is an instance of the rule at the path
pub record IsInstance (S : Classes) (rule : RuleTree) (rev : Bool) (b : TermTree) (q : List ℕ) (s : Substitution) : Type 0 where
  pub typed : IsTyped S [] s rule.vars
  pub at : place S [] b TUnit q ≡ Some (sub_type s.types rule.input)
  pub from : sub_at b q ≡ Some (inst s (pattern_side rule rev))

-- the term fits at `unit`
abbrev pub FitsUnit : Classes → TermTree → Type 0
FitsUnit S w = (u : TypeTree) × Fits S [] w TUnit u

abbrev pub missed_at : Option TermTree → Option TypeTree → ℕ → Bool → List Event
missed_at (Some l) (Some t) n rev = Missed l t n rev ∷ []
missed_at _ _ n rev = []

-- the firings of the rules of a table, under a schema
abbrev pub world : Classes → List RuleTree → World
world S rules = record {
  hits = Hit S rules;
  missed = λ n rev w q. missed_at (sub_at w q) (place S [] w TUnit q) n rev;
  fit = FitsUnit S;
  form = λ p w q. FormAt p (sub_at w q);
}
