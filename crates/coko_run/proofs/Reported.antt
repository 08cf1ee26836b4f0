-- From the machine's last state to the answer, and what is kept up to there.
use Rattle.std.proofs.Common.{◌≡◌, ℕ, ◌+◌, ◌-◌, ◌≤◌, Bool, true, false, refl, sym, ap, ◌∙◌, subst, List, [], length, arith}
use Rattle.kola_values.specs.Databases.{Classes}
use Rattle.kola_values.specs.Sets.{Each}
use Rattle.kola_schema.specs.Schemas.{is_schema}
use Rattle.kola_term.specs.Terms.{TermTree, TermF, TermP, TermC}
use Rattle.kola_term.specs.TermView.{fun_tree, term_tree}
use Rattle.kola_term.specs.Agreement.{SameKind}
use Rattle.kola_rule.specs.Rules.{RuleTree}
use Rattle.kola_match.specs.Holding.{Holds}
use Rattle.kola_match.specs.RuleOk.{RuleOk}
use Rattle.coko_plan.specs.Wholes.{WholeTree}
use Rattle.coko_run.specs.Outcomes.{Event, term_of}
use Rattle.coko_run.specs.Runs.{World, Job, Do, Runs}
use Rattle.coko_run.specs.Notes.{Notes, noted, fired}
use Rattle.coko_run.specs.Moves.{Fr, Reached}
use Rattle.coko_run.specs.Claims.{Good}
use Rattle.coko_run.specs.Firing.{world, FitsUnit}
use Rattle.coko_run.specs.Views.{notes, frames, begun, conf_at, conf}
use Rattle.coko_run.specs.Answers.{outcome_as, StopsFailing, Answers, end_now, ok_now, IsFun, Reports}
use Rattle.coko_run.specs.declared.machine.Held.{Held}
use Rattle.coko_run.specs.declared.machine.Now.{Now}
use Rattle.coko_run.specs.declared.machine.Now.TheVariants as now
use Rattle.coko_run.specs.declared.outcome.End.{End}
use Rattle.coko_run.specs.declared.outcome.End.TheVariants as end
use Rattle.coko_run.specs.declared.outcome.Outcome as answer
use Rattle.coko_run.proofs.Kept.{runs_keep}

-- the outcome of which the last state keeps notes
outcome_at : (G : World) (t : List WholeTree) (j : Job) (w : TermTree) (n : ℕ) (l : Notes) (s : Now) (w1 : TermTree) (m1 : ℕ) (l1 : Notes) (fs : List Fr) → Reached G j w n l (conf_at t s w1 m1 l1 fs) → (f : List Event) × Runs G j w [] n (outcome_as (end_now s) w1 (ok_now s) f m1) × (l1 ≡ noted l f)
outcome_at G t j w n l (now.Done k) w1 m1 l1 fs r = r
outcome_at G t j w n l now.Spent w1 m1 l1 fs r = r
outcome_at G t j w n l now.Size w1 m1 l1 fs r = r
outcome_at G t j w n l (now.Going a q) w1 m1 l1 fs r = absurd r
outcome_at G t j w n l (now.Back k) w1 m1 l1 fs r = absurd r

term_as : (x : End) (w : TermTree) (k : Bool) (f : List Event) (m : ℕ) → term_of (outcome_as x w k f m) ≡ w
term_as end.Done w k f m = refl
term_as end.Spent w k f m = refl
term_as end.Size w k f m = refl

stops_failing : (s : Now) → StopsFailing (end_now s) (ok_now s)
stops_failing (now.Going j q) = tt
stops_failing (now.Back k) = tt
stops_failing (now.Done k) = tt
stops_failing now.Spent = refl
stops_failing now.Size = refl

count_noted : (l : Notes) (f : List Event) → l ≡ noted (begun false) f → l.count ≡ length (fired f)
unfolding noted
count_noted l f e = ap (λ (z : Notes). z.count) e ∙ (let none : 0 + length (fired f) ≡ length (fired f) = omega arith in none)

pub fun_of_kind : (w c : TermTree) → IsFun w → SameKind w c → IsFun c
fun_of_kind (TermF f) (TermF g) h k = tt
fun_of_kind (TermF f) (TermP g) h k = absurd k
fun_of_kind (TermF f) (TermC g) h k = absurd k
fun_of_kind (TermP f) c h k = absurd h
fun_of_kind (TermC f) c h k = absurd h

module _ (S : Classes) (rules : List RuleTree) (t : List WholeTree) (a : WholeTree) (w : TermTree) (n : ℕ) (h : Held) (s : Now) where
  pub kept_to_end : is_schema S ≡ true → Each (RuleOk S) rules → Each (Holds S) rules → FitsUnit S w → Reached (world S rules) (Do a) w n (begun false) (conf t h s) → Good S w (term_tree h.whole.value) × FitsUnit S (term_tree h.whole.value)
  kept_to_end ok typed hold fits r =
      let o = outcome_at (world S rules) t (Do a) w n (begun false) s (term_tree h.whole.value) h.left (notes h.log) (frames t h.stack.items) r in
      subst (λ z. Good S w z × FitsUnit S z) (term_as (end_now s) (term_tree h.whole.value) (ok_now s) o.0 h.left)
      (runs_keep S ok rules typed hold a w [] n (outcome_as (end_now s) (term_tree h.whole.value) (ok_now s) o.0 h.left) fits o.1)

  pub answered : (r : answer.Outcome) → Reached (world S rules) (Do a) w n (begun false) (conf t h s) → h.log.count + h.left ≤ n → Reports h s n r → (f : List Event) × Answers S rules a w n r f
  answered r x within p =
      let o = outcome_at (world S rules) t (Do a) w n (begun false) s (term_tree h.whole.value) h.left (notes h.log) (frames t h.stack.items) x in
      let back : h.left ≡ n - r.steps = omega (arith, within, p.steps) in (
        o.0,
        record {
          runs = subst (λ z. Runs (world S rules) (Do a) w [] n (outcome_as r.end (TermF (fun_tree r.term)) r.ok o.0 z)) back
              (subst (λ z. Runs (world S rules) (Do a) w [] n (outcome_as r.end (TermF (fun_tree r.term)) z o.0 h.left)) (sym p.ok)
              (subst (λ z. Runs (world S rules) (Do a) w [] n (outcome_as r.end z (ok_now s) o.0 h.left)) (sym p.term)
              (subst (λ z. Runs (world S rules) (Do a) w [] n (outcome_as z (term_tree h.whole.value) (ok_now s) o.0 h.left)) (sym p.end) o.1)));
          stops = subst (λ z. StopsFailing z r.ok) (sym p.end) (subst (StopsFailing (end_now s)) (sym p.ok) (stops_failing s));
          firings = p.firings ∙ count_noted (notes h.log) o.0 o.2;
          steps = omega (arith, p.steps);
        },
      )
