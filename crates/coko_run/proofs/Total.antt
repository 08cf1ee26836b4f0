-- No statement is without an outcome: by the steps that are left, then the statement, then the subterm.
use Rattle.std.proofs.Common.{◌≡◌, ℕ, zero, suc, ◌<◌, ◌≤◌, Bool, true, false, refl, ap, List, [], ◌∷◌, ◌++◌, Option, Some, None, arith}
use Rattle.kola_term.specs.Terms.{TermTree}
use Rattle.kola_term.specs.Places.{children, sub_at}
use Rattle.coko_plan.specs.Wholes.{WholeTree, WFire, WSkip, WFail, WSeq, WThen, WElse, WBu, WTd, WRepeat, WGiven, WholeArms, NoWholes, MoreWholes}
use Rattle.coko_run.specs.Outcomes.{Spent, Size, Event, Fired, Outcome, Done, Stop, joined, When, Always, OnOk, OnFail, goes, live, live_of, kids, each}
use Rattle.coko_run.specs.Runs.{World, Job, Do, Step, Kids, Walk, Runs, step_spent, step, fire_spent, fire_hit, fire_size, fire_miss, skip_spent, skip, fail_spent, fail, seq, then_, else_, bu, td, turns, given_spent, given_no, given, at_kids, walk_end, walk, Next, halt, go, stay, SomeOutcome}
use Rattle.coko_run.specs.Weights.{nodes_of}
use Rattle.coko_run.proofs.Smaller.{one_more, below}

-- it is not so that there is none
abbrev Some' : Type 0 → Type 0
Some' A = (A → ⊥) → ⊥

-- ---- outcomes with fewer steps left

abbrev Falls : ℕ → Outcome → Type 0
Falls m (Done w k f n) = n < m
Falls m (Stop w y f n) = Unit {0}

abbrev Keeps : ℕ → Outcome → Type 0
Keeps m (Done w k f n) = n ≤ m
Keeps m (Stop w y f n) = Unit {0}

falls_in : (m n : ℕ) (k : Bool) (f : List Event) (o : Outcome) → n < m → Keeps n o → Falls m (joined k f o)
falls_in m n k f (Done w j g l) h i = omega (arith, h, i)
falls_in m n k f (Stop w y g l) h i = tt

falls_last : (m n : ℕ) (k : Bool) (f : List Event) (o : Outcome) → n ≤ m → Falls n o → Falls m (joined k f o)
falls_last m n k f (Done w j g l) h i = omega (arith, h, i)
falls_last m n k f (Stop w y g l) h i = tt

falls_more : (m : ℕ) (o : Outcome) → Keeps m o → Falls (suc m) o
falls_more m (Done w k f n) h = omega (arith, h)
falls_more m (Stop w y f n) h = tt

falls_keep : (m : ℕ) (o : Outcome) → Falls m o → Keeps m o
falls_keep m (Done w k f n) h = omega (arith, h)
falls_keep m (Stop w y f n) h = tt

module _ (G : World) where
  abbrev Ran : Job → TermTree → List ℕ → ℕ → Type 0
  Ran j w q m = Some' ((o : Outcome) × Runs G j w q m o × Falls m o)

  abbrev Went : Job → TermTree → List ℕ → ℕ → Type 0
  Went j w q m = Some' ((o : Outcome) × Runs G j w q m o × Keeps m o)

  abbrev Goes : When → Job → List ℕ → ℕ → Outcome → Type 0
  Goes c j q m e = Some' ((o : Outcome) × Next G c j q e o × Falls m o)

  less : (j : Job) (w : TermTree) (q : List ℕ) (m : ℕ) → Ran j w q m → Went j w q m
  less j w q m r z = r (λ x. z (x.0, x.1, falls_keep m x.0 x.2))

  -- what follows a part that took a step
  after : (c : When) (j : Job) (q : List ℕ) (m : ℕ) (e : Outcome) → Falls m e → ((w : TermTree) (n : ℕ) → n < m → Went j w q n) → Goes c j q m e
  after c j q m (Stop w y f n) h k z = z (Stop w y f n, halt, tt)
  after c j q m (Done w b f n) h k z = at (goes c b) refl z
    where
      at : (d : Bool) → goes c b ≡ d → Goes c j q m (Done w b f n)
      at true e z = k w n h (λ r. z (joined b f r.0, go e r.1, falls_in m n b f r.0 h r.2))
      at false e z = z (Done w b f n, stay e, h)

  after_kids : (s : WholeTree) (q : List ℕ) (m : ℕ) (e : Outcome) → Keeps m e → ((w : TermTree) (n : ℕ) → n ≤ m → Ran (Step s) w q n) → Goes Always (Step s) q m e
  after_kids s q m (Stop w y f n) h k z = z (Stop w y f n, halt, tt)
  after_kids s q m (Done w b f n) h k z = k w n h (λ r. z (joined b f r.0, go refl r.1, falls_last m n b f r.0 h r.2))

  stepped : (s : WholeTree) → ((w : TermTree) (q : List ℕ) (m : ℕ) → Ran (Do s) w q m) → (w : TermTree) (q : List ℕ) (m : ℕ) → Ran (Step s) w q m
  stepped s k w q zero z = z (Stop w Spent [] zero, step_spent, tt)
  stepped s k w q (suc m) z = k w q m (λ r. z (r.0, step r.1, falls_more m r.0 (falls_keep m r.0 r.2)))

  -- the children, where fewer steps are left
  others : (s : WholeTree) (l : ℕ) → ((w : TermTree) (q : List ℕ) (m : ℕ) → m < l → Ran (Do s) w q m) → (ns : List ℕ) (w : TermTree) (q : List ℕ) (m : ℕ) → m < l → Went (Walk (each s ns)) w q m
  others s l k [] w q m h z = z (Done w false [] m, walk_end, omega arith)
  others s l k (n ∷ ns) w q m h z =
      k w (q ++ (n ∷ [])) m h (λ x. after Always (Walk (each s ns)) q m x.0 x.2 (λ w' m' i. others s l k ns w' q m' (omega (arith, h, i)))
      (λ y. z (y.0, walk x.1 y.1, falls_keep m y.0 y.2)))

  -- BU, by the steps left and then the subterm
  module _ (a : WholeTree) (k : (w : TermTree) (q : List ℕ) (m : ℕ) → Ran (Do a) w q m) (l : ℕ) (g : (w : TermTree) (q : List ℕ) (m : ℕ) → m < l → Ran (Do (WBu a)) w q m) where
    firsts : (ns : List ℕ) (w : TermTree) (q : List ℕ) (m : ℕ) → m ≤ l → ((n : ℕ) → Ran (Do (WBu a)) w (q ++ (n ∷ [])) m) → Went (Walk (each (WBu a) ns)) w q m
    firsts [] w q m i f z = z (Done w false [] m, walk_end, omega arith)
    firsts (n ∷ ns) w q m i f z =
        f n (λ x. after Always (Walk (each (WBu a) ns)) q m x.0 x.2 (λ w' m' j. others (WBu a) l g ns w' q m' (omega (arith, i, j)))
        (λ y. z (y.0, walk x.1 y.1, falls_keep m y.0 y.2)))

    at_node : (w : TermTree) (q : List ℕ) (m : ℕ) → Went (Walk (each (WBu a) (kids w q))) w q m → Ran (Do (WBu a)) w q m
    at_node w q m r z = r (λ x. after_kids a q m x.0 x.2 (λ w' m' i. stepped a k w' q m') (λ y. z (y.0, bu (at_kids x.1) y.1, y.2)))

    deep : (d : ℕ) (w : TermTree) (q : List ℕ) (m : ℕ) → m ≤ l → nodes_of (sub_at w q) < d → Ran (Do (WBu a)) w q m
    deep zero w q m i j z = absurd (omega (arith, j))
    deep (suc d) w q m i j z = at_node w q m (on (λ n h. deep d w (q ++ (n ∷ [])) m i h) (sub_at w q) refl) z
      where
        on : ((n : ℕ) → nodes_of (sub_at w (q ++ (n ∷ []))) < d → Ran (Do (WBu a)) w (q ++ (n ∷ [])) m) → (o : Option TermTree) → sub_at w q ≡ o → Went (Walk (each (WBu a) (live_of o))) w q m
        on f None e = λ z. z (Done w false [] m, walk_end, omega arith)
        on f (Some t) e = firsts (live 1 (children t)) w q m i (λ n. f n (omega (arith, j, ap nodes_of (one_more w q n), below (sub_at w q) n t e)))

  ups : (a : WholeTree) → ((w : TermTree) (q : List ℕ) (m : ℕ) → Ran (Do a) w q m) → (l : ℕ) (w : TermTree) (q : List ℕ) (m : ℕ) → m < l → Ran (Do (WBu a)) w q m
  ups a k zero w q m h = absurd (omega (arith, h))
  ups a k (suc l) w q m h = deep a k l (ups a k l) (suc (nodes_of (sub_at w q))) w q m (omega (arith, h)) (omega arith)

  -- TD and REPEAT, by the steps left
  downs : (a : WholeTree) → ((w : TermTree) (q : List ℕ) (m : ℕ) → Ran (Do a) w q m) → (l : ℕ) (w : TermTree) (q : List ℕ) (m : ℕ) → m < l → Ran (Do (WTd a)) w q m
  downs a k zero w q m h z = absurd (omega (arith, h))
  downs a k (suc l) w q m h z =
      stepped a k w q m (λ x. after Always (Kids (WTd a)) q m x.0 x.2 (λ w' m' i u. others (WTd a) l (downs a k l) (kids w' q) w' q m' (omega (arith, h, i)) (λ y. u (y.0, at_kids y.1, y.2)))
      (λ y. z (y.0, td x.1 y.1, y.2)))

  repeats : (a : WholeTree) → ((w : TermTree) (q : List ℕ) (m : ℕ) → Ran (Do a) w q m) → (l : ℕ) (w : TermTree) (q : List ℕ) (m : ℕ) → m < l → Ran (Do (WRepeat a)) w q m
  repeats a k zero w q m h z = absurd (omega (arith, h))
  repeats a k (suc l) w q m h z =
      stepped a k w q m (λ x. after OnOk (Do (WRepeat a)) q m x.0 x.2 (λ w' m' i. less (Do (WRepeat a)) w' q m' (repeats a k l w' q m' (omega (arith, h, i))))
      (λ y. z (y.0, turns x.1 y.1, y.2)))

  -- one part and then another
  both : (s a b : WholeTree) (c : When) (w : TermTree) (q : List ℕ) (m : ℕ) → ((e o : Outcome) → Runs G (Do a) w q m e → Next G c (Do b) q e o → Runs G (Do s) w q m o) → Ran (Do a) w q m → ((w : TermTree) (m : ℕ) → Ran (Do b) w q m) → Ran (Do s) w q m
  both s a b c w q m f x y z = x (λ e. after c (Do b) q m e.0 e.2 (λ w' m' i. less (Do b) w' q m' (y w' m')) (λ o. z (o.0, f e.0 o.0 e.1 o.1, o.2)))

  fires : (r : ℕ) (v : Bool) (w : TermTree) (q : List ℕ) (m : ℕ) → Ran (Do (WFire r v)) w q (suc m)
  fires r v w q m z =
      z (
        Done w false (G.missed r v w q) m,
        fire_miss (λ w' h. z (Stop w Size [] m, fire_size h (λ f. z (Done w' true (Fired r v q ∷ []) m, fire_hit h f, omega arith)), tt)),
        omega arith,
      )

  mutual
    total : (s : WholeTree) (w : TermTree) (q : List ℕ) (m : ℕ) → Ran (Do s) w q m
    total (WFire r v) w q zero z = z (Stop w Spent [] zero, fire_spent, tt)
    total (WFire r v) w q (suc m) z = fires r v w q m z
    total WSkip w q zero z = z (Stop w Spent [] zero, skip_spent, tt)
    total WSkip w q (suc m) z = z (Done w true [] m, skip, omega arith)
    total WFail w q zero z = z (Stop w Spent [] zero, fail_spent, tt)
    total WFail w q (suc m) z = z (Done w false [] m, fail, omega arith)
    total (WSeq a b) w q m z = both (WSeq a b) a b Always w q m (λ e o x y. seq x y) (total a w q m) (λ w' m'. total b w' q m') z
    total (WThen a b) w q m z = both (WThen a b) a b OnOk w q m (λ e o x y. then_ x y) (total a w q m) (λ w' m'. total b w' q m') z
    total (WElse a b) w q m z = both (WElse a b) a b OnFail w q m (λ e o x y. else_ x y) (total a w q m) (λ w' m'. total b w' q m') z
    total (WBu a) w q m z = ups a (total a) (suc m) w q m (omega arith) z
    total (WTd a) w q m z = downs a (total a) (suc m) w q m (omega arith) z
    total (WRepeat a) w q m z = repeats a (total a) (suc m) w q m (omega arith) z
    total (WGiven p as') w q zero z = z (Stop w Spent [] zero, given_spent, tt)
    total (WGiven p as') w q (suc m) z =
        arms as' w q m (λ x. z (Done w false [] m, given_no (λ f. z (x.0, given f x.1, falls_more m x.0 x.2)), omega arith))

    arms : (as' : WholeArms) (w : TermTree) (q : List ℕ) (m : ℕ) → Went (Walk as') w q m
    arms NoWholes w q m z = z (Done w false [] m, walk_end, omega arith)
    arms (MoreWholes p s as') w q m z =
        total s w (q ++ p) m (λ x. after Always (Walk as') q m x.0 x.2 (λ w' m' i. arms as' w' q m')
        (λ y. z (y.0, walk x.1 y.1, falls_keep m y.0 y.2)))

pub some_outcome : (G : World) → SomeOutcome G
some_outcome G = λ s w q m h. total G s w q m (λ r. h r.0 r.1)
