-- What the answer to a run says.
use Rattle.std.specs.Prelude.{◌≡◌, ◌≤◌, ◌-◌, ℕ, Bool, false, List, [], length}
use Rattle.kola_values.specs.Databases.{Classes}
use Rattle.kola_term.specs.Terms.{TermTree, TermF}
use Rattle.kola_term.specs.TermView.{fun_tree, term_tree}
use Rattle.kola_rule.specs.Rules.{RuleTree}
use Rattle.coko_plan.specs.Wholes.{WholeTree}
use Rattle.coko_run.specs.Outcomes as s
use Rattle.coko_run.specs.Runs as d
use Rattle.coko_run.specs.Notes.{fired}
use Rattle.coko_run.specs.Firing.{world}
use Rattle.coko_run.specs.declared.machine.Held.{Held}
use Rattle.coko_run.specs.declared.machine.Now.{Now}
use Rattle.coko_run.specs.declared.machine.Now.TheVariants as now
use Rattle.coko_run.specs.declared.outcome.End.{End}
use Rattle.coko_run.specs.declared.outcome.End.TheVariants as end
use Rattle.coko_run.specs.declared.outcome.Outcome.{Outcome}

-- with this term, this success, these events and these steps left
abbrev pub outcome_as : End → TermTree → Bool → List s.Event → ℕ → s.Outcome
outcome_as end.Done w ok f m = s.Done w ok f m
outcome_as end.Spent w ok f m = s.Stop w s.Spent f m
outcome_as end.Size w ok f m = s.Stop w s.Size f m

-- at a stop there is no success
abbrev pub StopsFailing : End → Bool → Type 0
StopsFailing end.Done ok = Unit {0}
StopsFailing _ ok = ok ≡ false

-- the answer is what a run of the statement at the root comes to, with these events
pub record Answers (S : Classes) (rules : List RuleTree) (a : WholeTree) (w : TermTree) (budget : ℕ) (r : Outcome) (f : List s.Event) : Type 0 where
  pub runs : d.Runs (world S rules) (d.Do a) w [] budget (outcome_as r.end (TermF (fun_tree r.term)) r.ok f (budget - r.steps))
  pub stops : StopsFailing r.end r.ok
  pub firings : r.firings ≡ length (fired f)
  pub steps : r.steps ≤ budget

-- ---- the same of the machine's last state

abbrev pub end_now : Now → End
end_now now.Spent = end.Spent
end_now now.Size = end.Size
end_now _ = end.Done

abbrev pub ok_now : Now → Bool
ok_now (now.Done ok) = ok
ok_now _ = false

abbrev pub IsFun : TermTree → Type 0
IsFun (TermF f) = Unit {0}
IsFun _ = ⊥

pub record Reports (h : Held) (n : Now) (budget : ℕ) (r : Outcome) : Type 0 where
  pub term : TermF (fun_tree r.term) ≡ term_tree h.whole.value
  pub ok : r.ok ≡ ok_now n
  pub firings : r.firings ≡ h.log.count
  pub steps : r.steps ≡ budget - h.left
  pub end : r.end ≡ end_now n
