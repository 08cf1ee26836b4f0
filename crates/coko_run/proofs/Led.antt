-- One lemma for each move of the machine.
use Rattle.std.proofs.Common.{◌≡◌, ℕ, zero, suc, Bool, true, false, ◌||◌, refl, sym, ap, subst, List, [], ◌∷◌, ◌++◌}
use Rattle.std.proofs.Math.Bool.{or_assoc}
use Rattle.kola_term.specs.Terms.{TermTree}
use Rattle.coko_plan.specs.Wholes.{WholeTree, WFire, WSkip, WFail, WSeq, WThen, WElse, WBu, WTd, WRepeat, WGiven, WholeArms, NoWholes, MoreWholes}
use Rattle.coko_run.specs.Outcomes.{Why, Spent, Size, Event, Fired, Outcome, Done, Stop, joined, When, Always, OnOk, OnFail, goes, kids, each}
use Rattle.coko_run.specs.Runs.{World, Job, Do, Step, Kids, Walk, Runs, step_spent, step, fire_spent, fire_hit, fire_size, fire_miss, skip_spent, skip, fail_spent, fail, seq, then_, else_, bu, td, turns, given_spent, given_no, given, at_kids, walk_end, walk, Next, halt, go, stay}
use Rattle.coko_run.specs.Notes.{Notes, noted}
use Rattle.coko_run.specs.Moves.{Plain, Fin, Halt, onto, Fr, FOr, FAfter, merged, Rest, r_end, r_halt, r_or, r_go, r_stay, Conf, Going, Back, Over, Ended, Moves, Reached}
use Rattle.coko_run.specs.Weights.{IsEnd}
use Rattle.coko_run.proofs.Noted.{noted_none, noted_both}

or_in : Bool → Plain → Plain
or_in k (Fin w b l m) = Fin w (k || b) l m
or_in k (Halt w y l m) = Halt w y l m

logs : (k : Bool) (l : Notes) (f : List Event) (e : Outcome) → or_in k (onto (noted l f) e) ≡ onto l (joined k f e)
unfolding or_in
logs k l f (Done w b g m) = ap (λ z. Fin w (k || b) z m) (noted_both l f g)
logs k l f (Stop w y g m) = ap (λ z. Halt w y z m) (noted_both l f g)

abbrev term_in : Plain → TermTree
term_in (Fin w b l m) = w
term_in (Halt w y l m) = w

abbrev ok_in : Plain → Bool
ok_in (Fin w b l m) = b
ok_in (Halt w y l m) = false

abbrev why_in : Plain → Why
why_in (Fin w b l m) = Spent
why_in (Halt w y l m) = y

abbrev left_of : Plain → ℕ
left_of (Fin w b l m) = m
left_of (Halt w y l m) = m

abbrev notes_of : Plain → Notes
notes_of (Fin w b l m) = l
notes_of (Halt w y l m) = l

module _ (G : World) where
  rest_halt : (fs : List Fr) (w : TermTree) (y : Why) (l : Notes) (m : ℕ) → Rest G fs (Halt w y l m) (Halt w y l m)
  rest_halt [] w y l m = r_end
  rest_halt (a ∷ fs) w y l m = r_halt

  or_out : {k : Bool} (fs : List Fr) (e : Plain) {o : Plain} → Rest G (FOr k ∷ fs) e o → Rest G fs (or_in k e) o
  unfolding or_in
  or_out fs _ (r_halt {w = w} {y = y} {l = l} {m = m}) = rest_halt fs w y l m
  or_out fs _ (r_or r) = r

  -- a job of two parts
  pushed : (j j1 j2 : Job) (c : When) (w : TermTree) (q q1 : List ℕ) (m : ℕ) (l : Notes) (fs : List Fr) → ((e o : Outcome) → Runs G j1 w q1 m e → Next G c j2 q e o → Runs G j w q m o) → Moves G (Going j w q m l fs) (Going j1 w q1 m l (FAfter c j2 q ∷ fs))
  unfolding Moves
  pushed j j1 j2 c w q q1 m l fs K o (e, x, r) = at e o x r
    where
      at : (e : Outcome) (o : Plain) → Runs G j1 w q1 m e → Rest G (FAfter c j2 q ∷ fs) (onto l e) o → (e' : Outcome) × Runs G j w q m e' × Rest G fs (onto l e') o
      at (Stop w1 y f m1) _ x r_halt = (Stop w1 y f m1, K _ _ x halt, rest_halt fs w1 y (noted l f) m1)
      at (Done w1 b f m1) o x (r_go {e = e2} i y r) = (joined b f e2, K _ _ x (go i y), subst (λ z. Rest G fs z o) (logs b l f e2) (or_out fs (onto (noted l f) e2) r))
      at (Done w1 b f m1) o x (r_stay i r) = (Done w1 b f m1, K _ _ x (stay i), r)

  -- a job of one part
  passed : (j j1 : Job) (w : TermTree) (q q1 : List ℕ) (m m1 : ℕ) (l : Notes) (fs : List Fr) → ((o : Outcome) → Runs G j1 w q1 m1 o → Runs G j w q m o) → Moves G (Going j w q m l fs) (Going j1 w q1 m1 l fs)
  unfolding Moves
  passed j j1 w q q1 m m1 l fs K o (e, x, r) = (e, K _ x, r)

  -- a job that is over
  ended : (j : Job) (w w1 : TermTree) (q : List ℕ) (m m1 : ℕ) (k : Bool) (f : List Event) (l : Notes) (fs : List Fr) → Runs G j w q m (Done w1 k f m1) → Moves G (Going j w q m l fs) (Back k w1 m1 (noted l f) fs)
  unfolding Moves
  ended j w w1 q m m1 k f l fs x o r = (Done w1 k f m1, x, r)

  quiet : (j : Job) (w w1 : TermTree) (q : List ℕ) (m m1 : ℕ) (k : Bool) (l : Notes) (fs : List Fr) → Runs G j w q m (Done w1 k [] m1) → Moves G (Going j w q m l fs) (Back k w1 m1 l fs)
  quiet j w w1 q m m1 k l fs x = subst (λ z. Moves G (Going j w q m l fs) (Back k w1 m1 z fs)) (noted_none l) (ended j w w1 q m m1 k [] l fs x)

  stopped : (j : Job) (w w1 : TermTree) (q : List ℕ) (m m1 : ℕ) (y : Why) (f : List Event) (l : Notes) (fs : List Fr) → Runs G j w q m (Stop w1 y f m1) → Moves G (Going j w q m l fs) (Over w1 y m1 (noted l f))
  unfolding Moves
  stopped j w w1 q m m1 y f l fs x o e = (Stop w1 y f m1, x, subst (Rest G fs (Halt w1 y (noted l f) m1)) (sym e) (rest_halt fs w1 y (noted l f) m1))

  halted : (j : Job) (w w1 : TermTree) (q : List ℕ) (m m1 : ℕ) (y : Why) (l : Notes) (fs : List Fr) → Runs G j w q m (Stop w1 y [] m1) → Moves G (Going j w q m l fs) (Over w1 y m1 l)
  halted j w w1 q m m1 y l fs x = subst (λ z. Moves G (Going j w q m l fs) (Over w1 y m1 z)) (noted_none l) (stopped j w w1 q m m1 y [] l fs x)

  pub then_moves : (a b c : Conf) → Moves G a b → Moves G b c → Moves G a c
  unfolding Moves
  then_moves a b c h k o e = h o (k o e)

  pub no_move : (a : Conf) → Moves G a a
  unfolding Moves
  no_move a o e = e

  pub m_seq : (a b : WholeTree) (w : TermTree) (q : List ℕ) (m : ℕ) (l : Notes) (fs : List Fr) → Moves G (Going (Do (WSeq a b)) w q m l fs) (Going (Do a) w q m l (FAfter Always (Do b) q ∷ fs))
  m_seq a b w q m l fs = pushed _ _ _ _ w q q m l fs (λ e o x y. seq x y)

  pub m_then : (a b : WholeTree) (w : TermTree) (q : List ℕ) (m : ℕ) (l : Notes) (fs : List Fr) → Moves G (Going (Do (WThen a b)) w q m l fs) (Going (Do a) w q m l (FAfter OnOk (Do b) q ∷ fs))
  m_then a b w q m l fs = pushed _ _ _ _ w q q m l fs (λ e o x y. then_ x y)

  pub m_else : (a b : WholeTree) (w : TermTree) (q : List ℕ) (m : ℕ) (l : Notes) (fs : List Fr) → Moves G (Going (Do (WElse a b)) w q m l fs) (Going (Do a) w q m l (FAfter OnFail (Do b) q ∷ fs))
  m_else a b w q m l fs = pushed _ _ _ _ w q q m l fs (λ e o x y. else_ x y)

  pub m_bu : (a : WholeTree) (w : TermTree) (q : List ℕ) (m : ℕ) (l : Notes) (fs : List Fr) → Moves G (Going (Do (WBu a)) w q m l fs) (Going (Kids (WBu a)) w q m l (FAfter Always (Step a) q ∷ fs))
  m_bu a w q m l fs = pushed _ _ _ _ w q q m l fs (λ e o x y. bu x y)

  pub m_walk : (p : List ℕ) (s : WholeTree) (as' : WholeArms) (w : TermTree) (q : List ℕ) (m : ℕ) (l : Notes) (fs : List Fr) → Moves G (Going (Walk (MoreWholes p s as')) w q m l fs) (Going (Do s) w (q ++ p) m l (FAfter Always (Walk as') q ∷ fs))
  m_walk p s as' w q m l fs = pushed _ _ _ _ w q (q ++ p) m l fs (λ e o x y. walk x y)

  pub m_kids : (s : WholeTree) (w : TermTree) (q : List ℕ) (m : ℕ) (l : Notes) (fs : List Fr) → Moves G (Going (Kids s) w q m l fs) (Going (Walk (each s (kids w q))) w q m l fs)
  m_kids s w q m l fs = passed _ _ w q q m m l fs (λ o x. at_kids x)

  pub m_walk_end : (w : TermTree) (q : List ℕ) (m : ℕ) (l : Notes) (fs : List Fr) → Moves G (Going (Walk NoWholes) w q m l fs) (Back false w m l fs)
  m_walk_end w q m l fs = quiet _ w w q m m false l fs walk_end

  pub m_step : (s : WholeTree) (w : TermTree) (q : List ℕ) (m : ℕ) (l : Notes) (fs : List Fr) → Moves G (Going (Step s) w q (suc m) l fs) (Going (Do s) w q m l fs)
  m_step s w q m l fs = passed _ _ w q q (suc m) m l fs (λ o x. step x)

  pub m_step_spent : (s : WholeTree) (w : TermTree) (q : List ℕ) (l : Notes) (fs : List Fr) → Moves G (Going (Step s) w q zero l fs) (Over w Spent zero l)
  m_step_spent s w q l fs = halted _ w w q zero zero Spent l fs step_spent

  -- TD and REPEAT push their frame in the move that takes the step
  pub m_td : (a : WholeTree) (w : TermTree) (q : List ℕ) (m : ℕ) (l : Notes) (fs : List Fr) → Moves G (Going (Do (WTd a)) w q (suc m) l fs) (Going (Do a) w q m l (FAfter Always (Kids (WTd a)) q ∷ fs))
  m_td a w q m l fs = then_moves _ (Going (Step a) w q (suc m) l (FAfter Always (Kids (WTd a)) q ∷ fs)) _ (pushed _ _ _ _ w q q (suc m) l fs (λ e o x y. td x y)) (m_step a w q m l _)

  pub m_td_spent : (a : WholeTree) (w : TermTree) (q : List ℕ) (l : Notes) (fs : List Fr) → Moves G (Going (Do (WTd a)) w q zero l fs) (Over w Spent zero l)
  m_td_spent a w q l fs = then_moves _ (Going (Step a) w q zero l (FAfter Always (Kids (WTd a)) q ∷ fs)) _ (pushed _ _ _ _ w q q zero l fs (λ e o x y. td x y)) (m_step_spent a w q l _)

  pub m_repeat : (a : WholeTree) (w : TermTree) (q : List ℕ) (m : ℕ) (l : Notes) (fs : List Fr) → Moves G (Going (Do (WRepeat a)) w q (suc m) l fs) (Going (Do a) w q m l (FAfter OnOk (Do (WRepeat a)) q ∷ fs))
  m_repeat a w q m l fs = then_moves _ (Going (Step a) w q (suc m) l (FAfter OnOk (Do (WRepeat a)) q ∷ fs)) _ (pushed _ _ _ _ w q q (suc m) l fs (λ e o x y. turns x y)) (m_step a w q m l _)

  pub m_repeat_spent : (a : WholeTree) (w : TermTree) (q : List ℕ) (l : Notes) (fs : List Fr) → Moves G (Going (Do (WRepeat a)) w q zero l fs) (Over w Spent zero l)
  m_repeat_spent a w q l fs = then_moves _ (Going (Step a) w q zero l (FAfter OnOk (Do (WRepeat a)) q ∷ fs)) _ (pushed _ _ _ _ w q q zero l fs (λ e o x y. turns x y)) (m_step_spent a w q l _)

  pub m_given : (p : TermTree) (as' : WholeArms) (w : TermTree) (q : List ℕ) (m : ℕ) (l : Notes) (fs : List Fr) → G.form p w q → Moves G (Going (Do (WGiven p as')) w q (suc m) l fs) (Going (Walk as') w q m l fs)
  m_given p as' w q m l fs i = passed _ _ w q q (suc m) m l fs (λ o x. given i x)

  pub m_given_no : (p : TermTree) (as' : WholeArms) (w : TermTree) (q : List ℕ) (m : ℕ) (l : Notes) (fs : List Fr) → (G.form p w q → ⊥) → Moves G (Going (Do (WGiven p as')) w q (suc m) l fs) (Back false w m l fs)
  m_given_no p as' w q m l fs i = quiet _ w w q (suc m) m false l fs (given_no i)

  pub m_given_spent : (p : TermTree) (as' : WholeArms) (w : TermTree) (q : List ℕ) (l : Notes) (fs : List Fr) → Moves G (Going (Do (WGiven p as')) w q zero l fs) (Over w Spent zero l)
  m_given_spent p as' w q l fs = halted _ w w q zero zero Spent l fs given_spent

  pub m_skip : (w : TermTree) (q : List ℕ) (m : ℕ) (l : Notes) (fs : List Fr) → Moves G (Going (Do WSkip) w q (suc m) l fs) (Back true w m l fs)
  m_skip w q m l fs = quiet _ w w q (suc m) m true l fs skip

  pub m_skip_spent : (w : TermTree) (q : List ℕ) (l : Notes) (fs : List Fr) → Moves G (Going (Do WSkip) w q zero l fs) (Over w Spent zero l)
  m_skip_spent w q l fs = halted _ w w q zero zero Spent l fs skip_spent

  pub m_fail : (w : TermTree) (q : List ℕ) (m : ℕ) (l : Notes) (fs : List Fr) → Moves G (Going (Do WFail) w q (suc m) l fs) (Back false w m l fs)
  m_fail w q m l fs = quiet _ w w q (suc m) m false l fs fail

  pub m_fail_spent : (w : TermTree) (q : List ℕ) (l : Notes) (fs : List Fr) → Moves G (Going (Do WFail) w q zero l fs) (Over w Spent zero l)
  m_fail_spent w q l fs = halted _ w w q zero zero Spent l fs fail_spent

  pub m_fire_spent : (r : ℕ) (v : Bool) (w : TermTree) (q : List ℕ) (l : Notes) (fs : List Fr) → Moves G (Going (Do (WFire r v)) w q zero l fs) (Over w Spent zero l)
  m_fire_spent r v w q l fs = halted _ w w q zero zero Spent l fs fire_spent

  pub m_fire : (r : ℕ) (v : Bool) (w w1 : TermTree) (q : List ℕ) (m : ℕ) (l : Notes) (fs : List Fr) → G.hits r v w q w1 → G.fit w1 → Moves G (Going (Do (WFire r v)) w q (suc m) l fs) (Back true w1 m (noted l (Fired r v q ∷ [])) fs)
  m_fire r v w w1 q m l fs h i = ended _ w w1 q (suc m) m true _ l fs (fire_hit h i)

  pub m_size : (r : ℕ) (v : Bool) (w w1 : TermTree) (q : List ℕ) (m : ℕ) (l : Notes) (fs : List Fr) → G.hits r v w q w1 → (G.fit w1 → ⊥) → Moves G (Going (Do (WFire r v)) w q (suc m) l fs) (Over w Size m l)
  m_size r v w w1 q m l fs h i = halted _ w w q (suc m) m Size l fs (fire_size h i)

  pub m_miss : (r : ℕ) (v : Bool) (w : TermTree) (q : List ℕ) (m : ℕ) (l : Notes) (fs : List Fr) → ((w1 : TermTree) → G.hits r v w q w1 → ⊥) → Moves G (Going (Do (WFire r v)) w q (suc m) l fs) (Back false w m (noted l (G.missed r v w q)) fs)
  m_miss r v w q m l fs h = ended _ w w q (suc m) m false _ l fs (fire_miss h)

  pub b_or : (k b : Bool) (w : TermTree) (m : ℕ) (l : Notes) (fs : List Fr) → Moves G (Back b w m l (FOr k ∷ fs)) (Back (k || b) w m l fs)
  unfolding Moves
  b_or k b w m l fs o r = r_or r

  -- two ors in one
  or_twice : (k b : Bool) (fs : List Fr) (e o : Plain) → Rest G (FOr (k || b) ∷ fs) e o → Rest G (FOr b ∷ FOr k ∷ fs) e o
  or_twice k b fs _ _ r_halt = r_halt
  or_twice k b fs _ o (r_or {b = x} {w = w} {l = l} {m = m} r) = r_or (r_or (subst (λ z. Rest G fs (Fin w z l m) o) (or_assoc k b x) r))

  or_merged : (b : Bool) (fs : List Fr) (e o : Plain) → Rest G (merged b fs) e o → Rest G (FOr b ∷ fs) e o
  or_merged b [] e o r = r
  or_merged b (FOr k ∷ fs) e o r = or_twice k b fs e o r
  or_merged b (FAfter c j q ∷ fs) e o r = r

  pub b_go : (c : When) (j : Job) (q : List ℕ) (b : Bool) (w : TermTree) (m : ℕ) (l : Notes) (fs : List Fr) → goes c b ≡ true → Moves G (Back b w m l (FAfter c j q ∷ fs)) (Going j w q m l (merged b fs))
  unfolding Moves
  b_go c j q b w m l fs i o (e, x, r) = r_go i x (or_merged b fs (onto l e) o r)

  pub b_stay : (c : When) (j : Job) (q : List ℕ) (b : Bool) (w : TermTree) (m : ℕ) (l : Notes) (fs : List Fr) → goes c b ≡ false → Moves G (Back b w m l (FAfter c j q ∷ fs)) (Back b w m l fs)
  unfolding Moves
  b_stay c j q b w m l fs i o r = r_stay i r

  pub b_end : (b : Bool) (w : TermTree) (m : ℕ) (l : Notes) → Moves G (Back b w m l []) (Ended b w m l)
  unfolding Moves
  b_end b w m l o e = subst (Rest G [] (Fin w b l m)) (sym e) r_end

  -- what the last state says of the first
  last : (e o : Plain) → Rest G [] e o → e ≡ o
  last _ _ r_end = refl

  fin_of : (j : Job) (w w1 : TermTree) (q : List ℕ) (m m1 : ℕ) (k : Bool) (l l1 : Notes) (e : Outcome) → Runs G j w q m e → onto l e ≡ Fin w1 k l1 m1 → (f : List Event) × Runs G j w q m (Done w1 k f m1) × (l1 ≡ noted l f)
  fin_of j w w1 q m m1 k l l1 (Stop w2 y f m2) x i = absurd (cc)
  fin_of j w w1 q m m1 k l l1 (Done w2 k2 f m2) x i =
      (f, subst (λ z. Runs G j w q m (Done (term_in z) (ok_in z) f (left_of z))) i x, sym (ap notes_of i))

  halt_of : (j : Job) (w w1 : TermTree) (q : List ℕ) (m m1 : ℕ) (y : Why) (l l1 : Notes) (e : Outcome) → Runs G j w q m e → onto l e ≡ Halt w1 y l1 m1 → (f : List Event) × Runs G j w q m (Stop w1 y f m1) × (l1 ≡ noted l f)
  halt_of j w w1 q m m1 y l l1 (Done w2 k2 f m2) x i = absurd (cc)
  halt_of j w w1 q m m1 y l l1 (Stop w2 y2 f m2) x i =
      (f, subst (λ z. Runs G j w q m (Stop (term_in z) (why_in z) f (left_of z))) i x, sym (ap notes_of i))

  pub reached : (j : Job) (w : TermTree) (m : ℕ) (l : Notes) (c : Conf) → IsEnd c → Moves G (Going j w [] m l []) c → Reached G j w m l c
  unfolding Moves
  reached j w m l (Ended k w1 m1 l1) n h = let r = h (Fin w1 k l1 m1) refl in fin_of j w w1 [] m m1 k l l1 r.0 r.1 (last _ _ r.2)
  reached j w m l (Over w1 y m1 l1) n h = let r = h (Halt w1 y l1 m1) refl in halt_of j w w1 [] m m1 y l l1 r.0 r.1 (last _ _ r.2)
  reached j w m l (Going _ _ _ _ _ _) n h = n
  reached j w m l (Back _ _ _ _ _) n h = n
