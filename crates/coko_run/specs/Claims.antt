-- What is claimed of runs.
use Rattle.std.specs.Prelude.{◌≡◌, ℕ, true, List, []}
use Rattle.kola_values.specs.Types.{TUnit}
use Rattle.kola_values.specs.Databases.{Classes, Objects}
use Rattle.kola_values.specs.Sets.{Each}
use Rattle.kola_schema.specs.Schemas.{is_schema}
use Rattle.kola_schema.specs.Meets.{Meets}
use Rattle.kola_term.specs.Terms.{TermTree}
use Rattle.kola_term.specs.Agreement.{Agree, kind_out, SameKind}
use Rattle.kola_rule.specs.Rules.{RuleTree}
use Rattle.kola_match.specs.Holding.{Holds}
use Rattle.kola_match.specs.RuleOk.{RuleOk}
use Rattle.coko_plan.specs.Wholes.{WholeTree}
use Rattle.coko_run.specs.Outcomes.{Outcome, term_of}
use Rattle.coko_run.specs.Runs.{Do, Runs, AllFire, SomeOutcome}
use Rattle.coko_run.specs.Firing.{world, FitsUnit}
use Rattle.coko_run.specs.Fires.{MayFire}

-- a statement whose firings put in no variable that their pattern side lacks has no two outcomes
abbrev pub AtMostOne : Type 0
AtMostOne = (S : Classes) (rules : List RuleTree) (a : WholeTree) → AllFire (MayFire rules) a → (w : TermTree) (q : List ℕ) (m : ℕ) (o e : Outcome)
    → Runs (world S rules) (Do a) w q m o → Runs (world S rules) (Do a) w q m e → o ≡ e

-- no statement is without an outcome
abbrev pub NotNone : Type 0
NotNone = (S : Classes) (rules : List RuleTree) → SomeOutcome (world S rules)

-- the kind, the output type at `unit`, and the value in every database that meets the schema
pub record Good (S : Classes) (w c : TermTree) : Type 0 where
  pub kind : SameKind w c
  pub type : kind_out S [] w TUnit ≡ kind_out S [] c TUnit
  pub value : (d : Objects) → Meets S d → Agree S d TUnit w c

-- the term of every outcome is as good as the one before, and fits where that fits
abbrev pub RunsKeep : Type 0
RunsKeep = (S : Classes) → is_schema S ≡ true → (rules : List RuleTree) → Each (RuleOk S) rules → Each (Holds S) rules → (a : WholeTree) (w : TermTree) (q : List ℕ) (m : ℕ) (o : Outcome)
    → FitsUnit S w → Runs (world S rules) (Do a) w q m o → Good S w (term_of o) × FitsUnit S (term_of o)
