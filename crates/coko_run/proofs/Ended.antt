-- From one move to the run, and from its last state to the answer.
use Rattle.std.proofs.Common.{◌≡◌, ◌⊎◌, inl, inr, ℕ, ◌+◌, ◌<◌, ◌≤◌, Bool, true, false, refl, sym, ap, ◌∙◌, subst, List, [], arith}
use Rattle.kola_term.specs.Terms.{TermTree}
use Rattle.kola_term.specs.TermView.{term_tree}
use Rattle.coko_plan.specs.Wholes.{WholeTree}
use Rattle.coko_plan.specs.Entries.{pick}
use Rattle.coko_run.specs.Runs.{World, Job, Do}
use Rattle.coko_run.specs.Notes.{Notes}
use Rattle.coko_run.specs.Moves.{Fr, Conf, Going, Moves, Reached}
use Rattle.coko_run.specs.Weights.{left_in, count_in, whole_in, frames_in, weight, Apart, IsEnd, Falls, fewer, lighter, over, Leads, Steps}
use Rattle.coko_run.specs.Views.{notes, frames, frames_on, begun, is_end, conf_at, conf}
use Rattle.coko_run.specs.declared.machine.Held.{Held}
use Rattle.coko_run.specs.declared.machine.Frame.{Frame}
use Rattle.coko_run.specs.declared.machine.Job.TheVariants as job
use Rattle.coko_run.specs.declared.machine.Now.{Now}
use Rattle.coko_run.specs.declared.machine.Now.TheVariants as now
use Rattle.coko_run.proofs.Led.{no_move, then_moves, reached}

module _ (t : List WholeTree) where
  sum_at : (n : Now) (w : TermTree) (m : ℕ) (l : Notes) (fs : List Fr) → count_in (conf_at t n w m l fs) + left_in (conf_at t n w m l fs) ≡ l.count + m
  sum_at (now.Going j q) w m l fs = refl
  sum_at (now.Back k) w m l fs = refl
  sum_at (now.Done k) w m l fs = refl
  sum_at now.Spent w m l fs = refl
  sum_at now.Size w m l fs = refl

  left_at : (n : Now) (w : TermTree) (m : ℕ) (l : Notes) (fs : List Fr) → left_in (conf_at t n w m l fs) ≡ m
  left_at (now.Going j q) w m l fs = refl
  left_at (now.Back k) w m l fs = refl
  left_at (now.Done k) w m l fs = refl
  left_at now.Spent w m l fs = refl
  left_at now.Size w m l fs = refl

  whole_at : (n : Now) (w : TermTree) (m : ℕ) (l : Notes) (fs : List Fr) → whole_in (conf_at t n w m l fs) ≡ w
  whole_at (now.Going j q) w m l fs = refl
  whole_at (now.Back k) w m l fs = refl
  whole_at (now.Done k) w m l fs = refl
  whole_at now.Spent w m l fs = refl
  whole_at now.Size w m l fs = refl

  end_at : (n : Now) (w : TermTree) (m : ℕ) (l : Notes) (fs : List Fr) → is_end n ≡ true → IsEnd (conf_at t n w m l fs)
  end_at (now.Going j q) w m l fs e = absurd (cc)
  end_at (now.Back k) w m l fs e = absurd (cc)
  end_at (now.Done k) w m l fs e = tt
  end_at now.Spent w m l fs e = tt
  end_at now.Size w m l fs e = tt

  no_end : (n : Now) (w : TermTree) (m : ℕ) (l : Notes) (fs : List Fr) → is_end n ≡ false → IsEnd (conf_at t n w m l fs) → ⊥
  no_end (now.Going j q) w m l fs e h = h
  no_end (now.Back k) w m l fs e h = h
  no_end (now.Done k) w m l fs e h = absurd (cc)
  no_end now.Spent w m l fs e h = absurd (cc)
  no_end now.Size w m l fs e h = absurd (cc)

  sum_of : (h : Held) (n : Now) → count_in (conf t h n) + left_in (conf t h n) ≡ h.log.count + h.left
  sum_of h n = sum_at n (term_tree h.whole.value) h.left (notes h.log) (frames t h.stack.items)

  left_is : (h : Held) (n : Now) → left_in (conf t h n) ≡ h.left
  left_is h n = left_at n (term_tree h.whole.value) h.left (notes h.log) (frames t h.stack.items)

  whole_is : (h : Held) (n : Now) → whole_in (conf t h n) ≡ term_tree h.whole.value
  whole_is h n = whole_at n (term_tree h.whole.value) h.left (notes h.log) (frames t h.stack.items)

  ended_is : (h : Held) (n : Now) → is_end n ≡ true → IsEnd (conf t h n)
  ended_is h n e = end_at n (term_tree h.whole.value) h.left (notes h.log) (frames t h.stack.items) e

  not_ended : (h : Held) (n : Now) → is_end n ≡ false → IsEnd (conf t h n) → ⊥
  not_ended h n e = no_end n (term_tree h.whole.value) h.left (notes h.log) (frames t h.stack.items) e

falls_left : (a b : Conf) → Falls a b → (IsEnd b → ⊥) → left_in b ≤ left_in a
falls_left a b (fewer i) h = omega (arith, i)
falls_left a b (lighter i j) h = omega (arith, i)
falls_left a b (over i) h = absurd (h i)

falls_weight : (a b : Conf) → Falls a b → (IsEnd b → ⊥) → left_in a ≤ left_in b → weight b < weight a
falls_weight a b (fewer i) h k = absurd (omega (arith, i, k))
falls_weight a b (lighter i j) h k = j
falls_weight a b (over i) h k = absurd (h i)

-- ---- the moves up to a step

-- what is kept from a state on, as long as no step is taken
pub record Since (G : World) (t : List WholeTree) (a : Held) (n : Now) (b : Held) (k : Now) : Type 0 where
  pub moves : Moves G (conf t a n) (conf t b k)
  pub left : b.left ≡ a.left
  pub counts : b.log.count + b.left ≤ a.log.count + a.left
  pub apart : Apart (frames_in (conf t a n)) → Apart (frames_in (conf t b k))
  pub fits : G.fit (term_tree a.whole.value) → G.fit (term_tree b.whole.value)

module _ (G : World) (t : List WholeTree) where
  pub since_itself : (a : Held) (n : Now) → Since G t a n a n
  since_itself a n = record { moves = no_move G (conf t a n); left = refl; counts = omega arith; apart = λ z. z; fits = λ z. z }

  lead_counts : (a b : Held) (n k : Now) → Leads G (conf t a n) (conf t b k) → b.log.count + b.left ≤ a.log.count + a.left
  lead_counts a b n k h = omega (arith, h.counts, sum_of t a n, sum_of t b k)

  lead_fits : (a b : Held) (n k : Now) → Leads G (conf t a n) (conf t b k) → G.fit (term_tree a.whole.value) → G.fit (term_tree b.whole.value)
  lead_fits a b n k h f = subst G.fit (whole_is t b k) (h.fits (subst G.fit (sym (whole_is t a n)) f))

  lead_left : (a b : Held) (n k : Now) → Leads G (conf t a n) (conf t b k) → is_end k ≡ false → b.left ≤ a.left
  lead_left a b n k h e = omega (arith, left_is t a n, left_is t b k, falls_left (conf t a n) (conf t b k) h.falls (not_ended t b k e))

  pub since_more : (a b d : Held) (n k i : Now) → Since G t a n b k → Leads G (conf t b k) (conf t d i) → is_end i ≡ false → a.left ≤ d.left → Since G t a n d i
  since_more a b d n k i s h e l = record {
    moves = then_moves G (conf t a n) (conf t b k) (conf t d i) s.moves h.moves;
    left = omega (arith, l, s.left, lead_left b d k i h e);
    counts = omega (arith, s.counts, lead_counts b d k i h);
    apart = λ z. h.apart (s.apart z);
    fits = λ z. lead_fits b d k i h (s.fits z);
  }

  pub less_weight : (a b d : Held) (n k i : Now) → Since G t a n b k → Leads G (conf t b k) (conf t d i) → is_end i ≡ false → a.left ≤ d.left → weight (conf t d i) < weight (conf t b k)
  less_weight a b d n k i s h e l = falls_weight (conf t b k) (conf t d i) h.falls (not_ended t d i e) (omega (arith, l, s.left, left_is t b k, left_is t d i))

  to_step : (a b d : Held) (n k i : Now) → Since G t a n b k → Leads G (conf t b k) (conf t d i) → (left_in (conf t d i) < left_in (conf t a n)) ⊎ IsEnd (conf t d i) → Steps G (conf t a n) (conf t d i)
  to_step a b d n k i s h x = record {
    moves = then_moves G (conf t a n) (conf t b k) (conf t d i) s.moves h.moves;
    counts = omega (arith, s.counts, lead_counts b d k i h, sum_of t a n, sum_of t d i);
    apart = λ z. h.apart (s.apart z);
    fits = λ z. subst G.fit (sym (whole_is t d i)) (lead_fits b d k i h (s.fits (subst G.fit (whole_is t a n) z)));
    ahead = x;
  }

  pub step_ended : (a b d : Held) (n k i : Now) → Since G t a n b k → Leads G (conf t b k) (conf t d i) → is_end i ≡ true → Steps G (conf t a n) (conf t d i)
  step_ended a b d n k i s h e = to_step a b d n k i s h (inr (ended_is t d i e))

  pub step_taken : (a b d : Held) (n k i : Now) → Since G t a n b k → Leads G (conf t b k) (conf t d i) → d.left < a.left → Steps G (conf t a n) (conf t d i)
  step_taken a b d n k i s h e = to_step a b d n k i s h (inl (omega (arith, e, left_is t a n, left_is t d i)))

-- ---- the run

-- what is kept from the first state on
pub record Ran (G : World) (t : List WholeTree) (a : Conf) (n : ℕ) (b : Held) (k : Now) : Type 0 where
  pub moves : Moves G a (conf t b k)
  pub counts : b.log.count + b.left ≤ n
  pub fits : G.fit (term_tree b.whole.value)

module _ (G : World) (t : List WholeTree) (a : Conf) (n : ℕ) where
  pub ran_more : (b d : Held) (k i : Now) → Ran G t a n b k → Steps G (conf t b k) (conf t d i) → Ran G t a n d i
  ran_more b d k i r h = record {
    moves = then_moves G a (conf t b k) (conf t d i) r.moves h.moves;
    counts = omega (arith, r.counts, h.counts, sum_of t b k, sum_of t d i);
    fits = subst G.fit (whole_is t d i) (h.fits (subst G.fit (sym (whole_is t b k)) r.fits));
  }

pub step_less : (G : World) (t : List WholeTree) (b d : Held) (k i : Now) → Steps G (conf t b k) (conf t d i) → is_end i ≡ false → d.left < b.left
step_less G t b d k i h e = elim h.ahead [ inl x ↦ omega (arith, x, left_is t b k, left_is t d i) | inr x ↦ absurd (not_ended t d i e x) ]

pub run_reached : (G : World) (t : List WholeTree) (j : Job) (w : TermTree) (n : ℕ) (l : Notes) (b d : Held) (k i : Now) → Ran G t (Going j w [] n l []) n b k → Steps G (conf t b k) (conf t d i) → is_end i ≡ true → Reached G j w n l (conf t d i)
run_reached G t j w n l b d k i r h e = reached G j w n l (conf t d i) (ended_is t d i e) (ran_more G t (Going j w [] n l []) n b d k i r h).moves

same_going : (s s1 : WholeTree) (w w1 : TermTree) (q q1 : List ℕ) (m m1 : ℕ) (l l1 : Notes) (fs fs1 : List Fr) → s ≡ s1 → w ≡ w1 → q ≡ q1 → m ≡ m1 → l ≡ l1 → fs ≡ fs1 → Going (Do s) w q m l fs ≡ Going (Do s1) w1 q1 m1 l1 fs1
same_going s s1 w w1 q q1 m m1 l l1 fs fs1 a b c d e f =
    ap (λ z. Going (Do z) w q m l fs) a ∙ (ap (λ z. Going (Do s1) z q m l fs) b ∙ (ap (λ z. Going (Do s1) w1 z m l fs) c
    ∙ (ap (λ z. Going (Do s1) w1 q1 z l fs) d ∙ (ap (λ z. Going (Do s1) w1 q1 m1 z fs) e ∙ ap (λ z. Going (Do s1) w1 q1 m1 l1 z) f))))

no_frames : (t : List WholeTree) (xs : List Frame) → xs ≡ [] → frames t xs ≡ []
unfolding frames
no_frames t xs e = ap (λ z. frames_on t [] z) e

none_counted : (l : Notes) (keep : Bool) → l ≡ begun keep → l.count ≡ 0
none_counted l keep e = ap (λ (z : Notes). z.count) e

pub run_begins : (G : World) (t : List WholeTree) (s : WholeTree) (w : TermTree) (n : ℕ) (keep : Bool) (b : Held) (i : ℕ) (q : List ℕ) → term_tree b.whole.value ≡ w → b.left ≡ n → notes b.log ≡ begun keep → b.stack.items ≡ [] → pick t i ≡ s → q ≡ [] → G.fit w → Ran G t (Going (Do s) w [] n (begun keep) []) n b (now.Going (job.Do i) q)
run_begins G t s w n keep b i q e f g h j k x = record {
  moves = subst (Moves G (Going (Do s) w [] n (begun keep) []))
      (sym (same_going (pick t i) s (term_tree b.whole.value) w q [] b.left n (notes b.log) (begun keep) (frames t b.stack.items) [] j e k f g (no_frames t b.stack.items h)))
      (no_move G (Going (Do s) w [] n (begun keep) []));
  counts = omega (arith, f, none_counted (notes b.log) keep g);
  fits = subst G.fit (sym e) x;
}
