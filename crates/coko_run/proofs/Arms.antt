-- What each move of the code does.
use Rattle.std.proofs.Common.{◌≡◌, inl, inr, ℕ, zero, suc, ◌+◌, ◌-◌, ◌<◌, ◌≤◌, Bool, true, false, ◌||◌, refl, sym, ap, subst, List, [], ◌∷◌, ◌++◌, IfOk, Result, Ok, Err, arith}
use Rattle.kola_term.specs.Terms.{TermTree}
use Rattle.coko_plan.specs.Wholes.{WholeTree, WFire, WSkip, WFail, WSeq, WThen, WElse, WBu, WTd, WRepeat, WGiven, WholeArms, NoWholes, MoreWholes}
use Rattle.coko_run.specs.Outcomes.{Fired, Spent, Size, When, Always, OnOk, OnFail, goes, kids, each}
use Rattle.coko_run.specs.Runs.{World, Job, Do, Step, Kids, Walk}
use Rattle.coko_run.specs.Notes.{Notes, noted}
use Rattle.coko_run.specs.Moves.{Fr, FOr, FAfter, merged, Conf, Going, Back, Over, Ended, Moves}
use Rattle.coko_run.specs.Weights.{Apart, frames_in, whole_in, weight, left_in, count_in, IsEnd, fewer, lighter, over, Leads}
use Rattle.coko_run.specs.Views.{idle_of, before, arms_of}
use Rattle.coko_run.specs.Fires.{Stepped}
use Rattle.coko_run.specs.declared.machine.Held.{Held}
use Rattle.coko_run.proofs.Weight.{falls_seq, falls_then, falls_else, falls_bu, falls_kids, falls_walk, falls_walk_end, falls_or, falls_merge, falls_stay, falls_end}
use Rattle.coko_run.proofs.Led.{m_seq, m_then, m_else, m_bu, m_td, m_td_spent, m_repeat, m_repeat_spent, m_given, m_given_no, m_given_spent, m_walk, m_kids, m_walk_end, m_step, m_step_spent, m_skip, m_skip_spent, m_fail, m_fail_spent, m_fire, m_size, m_fire_spent, m_miss, b_or, b_go, b_stay, b_end, no_move}

apart_merged : (b : Bool) (fs : List Fr) → Apart fs → Apart (merged b fs)
apart_merged b [] h = (tt, tt)
apart_merged b (FOr k ∷ fs) h = h
apart_merged b (FAfter c j q ∷ fs) h = (tt, h)

one_more_count : (l : Notes) (r : ℕ) (v : Bool) (q : List ℕ) → (noted l (Fired r v q ∷ [])).count ≡ l.count + 1
unfolding noted
one_more_count l r v q = refl

module _ (G : World) where
  -- a move that takes no step
  keeps : (a b : Conf) → Moves G a b → left_in b ≡ left_in a → count_in b ≡ count_in a → weight b < weight a → (Apart (frames_in a) → Apart (frames_in b)) → (G.fit (whole_in a) → G.fit (whole_in b)) → Leads G a b
  keeps a b h i j k p f = record { moves = h; falls = lighter i k; counts = omega (arith, i, j); apart = p; fits = f }

  -- a move that takes one
  takes : (a b : Conf) → Moves G a b → left_in a ≡ suc (left_in b) → count_in b ≤ count_in a + 1 → (Apart (frames_in a) → Apart (frames_in b)) → (G.fit (whole_in a) → G.fit (whole_in b)) → Leads G a b
  takes a b h i j p f = record { moves = h; falls = fewer (omega (arith, i)); counts = omega (arith, i, j); apart = p; fits = f }

  -- the same states
  pub from_stmt : (s s1 : WholeTree) (w : TermTree) (q : List ℕ) (m : ℕ) (l : Notes) (fs : List Fr) (b : Conf) → s ≡ s1 → Leads G (Going (Do s1) w q m l fs) b → Leads G (Going (Do s) w q m l fs) b
  from_stmt s s1 w q m l fs b e h = subst (λ z. Leads G (Going (Do z) w q m l fs) b) (sym e) h

  pub from_arms : (s s1 : WholeArms) (w : TermTree) (q : List ℕ) (m : ℕ) (l : Notes) (fs : List Fr) (b : Conf) → s ≡ s1 → Leads G (Going (Walk s1) w q m l fs) b → Leads G (Going (Walk s) w q m l fs) b
  from_arms s s1 w q m l fs b e h = subst (λ z. Leads G (Going (Walk z) w q m l fs) b) (sym e) h

  pub from_conf : (a a1 b : Conf) → a ≡ a1 → Leads G a1 b → Leads G a b
  from_conf a a1 b e h = subst (λ z. Leads G z b) (sym e) h

  pub to_conf : (a b b1 : Conf) → b ≡ b1 → Leads G a b1 → Leads G a b
  to_conf a b b1 e h = subst (Leads G a) (sym e) h

  pub lead_ok : {V E : Type 0} (r : Result V E) (C : V → Conf) (a b : Conf) → IfOk r (λ x. C x ≡ b) → Leads G a b → IfOk r (λ x. Leads G a (C x))
  lead_ok (Ok x) C a b e h = to_conf a (C x) b e h
  lead_ok (Err x) C a b e h = tt

  pub seq : (a b : WholeTree) (w : TermTree) (q : List ℕ) (m : ℕ) (l : Notes) (fs : List Fr) → Leads G (Going (Do (WSeq a b)) w q m l fs) (Going (Do a) w q m l (FAfter Always (Do b) q ∷ fs))
  seq a b w q m l fs = keeps _ _ (m_seq G a b w q m l fs) refl refl (falls_seq a b w q m l fs) (λ h. h) (λ h. h)

  pub then_ : (a b : WholeTree) (w : TermTree) (q : List ℕ) (m : ℕ) (l : Notes) (fs : List Fr) → Leads G (Going (Do (WThen a b)) w q m l fs) (Going (Do a) w q m l (FAfter OnOk (Do b) q ∷ fs))
  then_ a b w q m l fs = keeps _ _ (m_then G a b w q m l fs) refl refl (falls_then a b w q m l fs) (λ h. h) (λ h. h)

  pub else_ : (a b : WholeTree) (w : TermTree) (q : List ℕ) (m : ℕ) (l : Notes) (fs : List Fr) → Leads G (Going (Do (WElse a b)) w q m l fs) (Going (Do a) w q m l (FAfter OnFail (Do b) q ∷ fs))
  else_ a b w q m l fs = keeps _ _ (m_else G a b w q m l fs) refl refl (falls_else a b w q m l fs) (λ h. h) (λ h. h)

  pub bu : (s a : WholeTree) (w : TermTree) (q : List ℕ) (m : ℕ) (l : Notes) (fs : List Fr) → s ≡ WBu a → Leads G (Going (Do s) w q m l fs) (Going (Kids s) w q m l (FAfter Always (Step a) q ∷ fs))
  bu s a w q m l fs e = subst (λ z. Leads G (Going (Do z) w q m l fs) (Going (Kids z) w q m l (FAfter Always (Step a) q ∷ fs))) (sym e) (keeps _ _ (m_bu G a w q m l fs) refl refl (falls_bu a w q m l fs) (λ h. h) (λ h. h))

  pub walk : (p : List ℕ) (s : WholeTree) (as' : WholeArms) (w : TermTree) (q : List ℕ) (m : ℕ) (l : Notes) (fs : List Fr) → Leads G (Going (Walk (MoreWholes p s as')) w q m l fs) (Going (Do s) w (q ++ p) m l (FAfter Always (Walk as') q ∷ fs))
  walk p s as' w q m l fs = keeps _ _ (m_walk G p s as' w q m l fs) refl refl (falls_walk p s as' w q m l fs) (λ h. h) (λ h. h)

  pub walk_at : (p r : List ℕ) (s : WholeTree) (as' : WholeArms) (w : TermTree) (q : List ℕ) (m : ℕ) (l : Notes) (fs : List Fr) → r ≡ p → Leads G (Going (Walk (MoreWholes p s as')) w q m l fs) (Going (Do s) w (q ++ r) m l (FAfter Always (Walk as') q ∷ fs))
  walk_at p r s as' w q m l fs e = subst (λ z. Leads G (Going (Walk (MoreWholes p s as')) w q m l fs) (Going (Do s) w (q ++ z) m l (FAfter Always (Walk as') q ∷ fs))) (sym e) (walk p s as' w q m l fs)

  pub walk_end : (w : TermTree) (q : List ℕ) (m : ℕ) (l : Notes) (fs : List Fr) → Leads G (Going (Walk NoWholes) w q m l fs) (Back false w m l fs)
  walk_end w q m l fs = keeps _ _ (m_walk_end G w q m l fs) refl refl (falls_walk_end w q m l fs) (λ h. h) (λ h. h)

  pub kids_are : (s : WholeTree) (w : TermTree) (q : List ℕ) (m : ℕ) (l : Notes) (fs : List Fr) (ns : List ℕ) → ns ≡ kids w q → Leads G (Going (Kids s) w q m l fs) (Going (Walk (each s ns)) w q m l fs)
  kids_are s w q m l fs ns e = subst (λ z. Leads G (Going (Kids s) w q m l fs) (Going (Walk (each s z)) w q m l fs)) (sym e) (keeps _ _ (m_kids G s w q m l fs) refl refl (falls_kids s w q m l fs) (λ h. h) (λ h. h))

  -- no step is left
  none_left : (j : Job) (w : TermTree) (q : List ℕ) (m : ℕ) (l : Notes) (fs : List Fr) → m ≡ 0 → Moves G (Going j w q zero l fs) (Over w Spent zero l) → Leads G (Going j w q m l fs) (Over w Spent m l)
  none_left j w q m l fs e h = subst (λ z. Leads G (Going j w q z l fs) (Over w Spent z l)) (sym e) (keeps _ _ h refl refl (omega arith) (λ h. tt) (λ h. h))

  -- a step is left
  some_left : (j : Job) (w : TermTree) (q : List ℕ) (m : ℕ) (l : Notes) (fs : List Fr) (b : Conf) → (m ≡ 0 → ⊥) → Leads G (Going j w q (suc (m - 1)) l fs) b → Leads G (Going j w q m l fs) b
  some_left j w q m l fs b h k = subst (λ z. Leads G (Going j w q z l fs) b) (let e : suc (m - 1) ≡ m = omega (arith, h) in e) k

  pub step_none : (s : WholeTree) (w : TermTree) (q : List ℕ) (m : ℕ) (l : Notes) (fs : List Fr) → m ≡ 0 → Leads G (Going (Step s) w q m l fs) (Over w Spent m l)
  step_none s w q m l fs i = none_left (Step s) w q m l fs i (m_step_spent G s w q l fs)

  pub step_some : (s : WholeTree) (w : TermTree) (q : List ℕ) (m : ℕ) (l : Notes) (fs : List Fr) → (m ≡ 0 → ⊥) → Leads G (Going (Step s) w q m l fs) (Going (Do s) w q (m - 1) l fs)
  step_some s w q m l fs i = some_left (Step s) w q m l fs _ i (takes _ _ (m_step G s w q (m - 1) l fs) refl (omega arith) (λ h. h) (λ h. h))

  pub idle_none : (ok : Bool) (w : TermTree) (q : List ℕ) (m : ℕ) (l : Notes) (fs : List Fr) → m ≡ 0 → Leads G (Going (Do (idle_of ok)) w q m l fs) (Over w Spent m l)
  idle_none true w q m l fs i = none_left (Do WSkip) w q m l fs i (m_skip_spent G w q l fs)
  idle_none false w q m l fs i = none_left (Do WFail) w q m l fs i (m_fail_spent G w q l fs)

  pub idle_some : (ok : Bool) (w : TermTree) (q : List ℕ) (m : ℕ) (l : Notes) (fs : List Fr) → (m ≡ 0 → ⊥) → Leads G (Going (Do (idle_of ok)) w q m l fs) (Back ok w (m - 1) l fs)
  idle_some true w q m l fs i = some_left (Do WSkip) w q m l fs _ i (takes _ _ (m_skip G w q (m - 1) l fs) refl (omega arith) (λ h. h) (λ h. h))
  idle_some false w q m l fs i = some_left (Do WFail) w q m l fs _ i (takes _ _ (m_fail G w q (m - 1) l fs) refl (omega arith) (λ h. h) (λ h. h))

  td_moves : (t : List WholeTree) (h : Held) (a : WholeTree) (q : List ℕ) (r : Conf) → Stepped t h Always (Kids (WTd a)) a q r → Leads G (before t h (Do (WTd a)) q) r
  td_moves t h a q r (inl p) = to_conf _ r _ p.1 (none_left (Do (WTd a)) _ q h.left _ _ p.0 (m_td_spent G a _ q _ _))
  td_moves t h a q r (inr p) = to_conf _ r _ p.1 (some_left (Do (WTd a)) _ q h.left _ _ _ p.0 (takes _ _ (m_td G a _ q (h.left - 1) _ _) refl (omega arith) (λ z. z) (λ z. z)))

  pub td : (t : List WholeTree) (h : Held) (s a : WholeTree) (q : List ℕ) (r : Conf) → s ≡ WTd a → Stepped t h Always (Kids s) a q r → Leads G (before t h (Do s) q) r
  td t h s a q r e k = subst (λ z. Leads G (before t h (Do z) q) r) (sym e) (td_moves t h a q r (subst (λ z. Stepped t h Always (Kids z) a q r) e k))

  repeat_moves : (t : List WholeTree) (h : Held) (a : WholeTree) (q : List ℕ) (r : Conf) → Stepped t h OnOk (Do (WRepeat a)) a q r → Leads G (before t h (Do (WRepeat a)) q) r
  repeat_moves t h a q r (inl p) = to_conf _ r _ p.1 (none_left (Do (WRepeat a)) _ q h.left _ _ p.0 (m_repeat_spent G a _ q _ _))
  repeat_moves t h a q r (inr p) = to_conf _ r _ p.1 (some_left (Do (WRepeat a)) _ q h.left _ _ _ p.0 (takes _ _ (m_repeat G a _ q (h.left - 1) _ _) refl (omega arith) (λ z. z) (λ z. z)))

  pub repeat : (t : List WholeTree) (h : Held) (s a : WholeTree) (q : List ℕ) (r : Conf) → s ≡ WRepeat a → Stepped t h OnOk (Do s) a q r → Leads G (before t h (Do s) q) r
  repeat t h s a q r e k = subst (λ z. Leads G (before t h (Do z) q) r) (sym e) (repeat_moves t h a q r (subst (λ z. Stepped t h OnOk (Do z) a q r) e k))

  -- the same behind a call
  pub td_ok : {V E : Type 0} (r : Result V E) (C : V → Conf) (t : List WholeTree) (h : Held) (s a : WholeTree) (q : List ℕ) → s ≡ WTd a → IfOk r (λ x. Stepped t h Always (Kids s) a q (C x)) → IfOk r (λ x. Leads G (before t h (Do s) q) (C x))
  td_ok (Ok x) C t h s a q e k = td t h s a q (C x) e k
  td_ok (Err x) C t h s a q e k = tt

  pub repeat_ok : {V E : Type 0} (r : Result V E) (C : V → Conf) (t : List WholeTree) (h : Held) (s a : WholeTree) (q : List ℕ) → s ≡ WRepeat a → IfOk r (λ x. Stepped t h OnOk (Do s) a q (C x)) → IfOk r (λ x. Leads G (before t h (Do s) q) (C x))
  repeat_ok (Ok x) C t h s a q e k = repeat t h s a q (C x) e k
  repeat_ok (Err x) C t h s a q e k = tt

  -- GIVEN
  pub given_none : (s : WholeTree) (p : TermTree) (as' : WholeArms) (w : TermTree) (q : List ℕ) (m : ℕ) (l : Notes) (fs : List Fr) → s ≡ WGiven p as' → m ≡ 0 → Leads G (Going (Do s) w q m l fs) (Over w Spent m l)
  given_none s p as' w q m l fs e i = from_stmt s (WGiven p as') w q m l fs _ e (none_left (Do (WGiven p as')) w q m l fs i (m_given_spent G p as' w q l fs))

  pub given_some : (s : WholeTree) (p : TermTree) (as' : WholeArms) (w : TermTree) (q : List ℕ) (m : ℕ) (l : Notes) (fs : List Fr) → s ≡ WGiven p as' → (m ≡ 0 → ⊥) → G.form p w q → Leads G (Going (Do s) w q m l fs) (Going (Walk (arms_of 0 s)) w q (m - 1) l fs)
  given_some s p as' w q m l fs e i f =
      subst (λ z. Leads G (Going (Do z) w q m l fs) (Going (Walk (arms_of 0 z)) w q (m - 1) l fs)) (sym e)
      (some_left (Do (WGiven p as')) w q m l fs _ i (takes _ _ (m_given G p as' w q (m - 1) l fs f) refl (omega arith) (λ h. h) (λ h. h)))

  pub given_not : (s : WholeTree) (p : TermTree) (as' : WholeArms) (w : TermTree) (q : List ℕ) (m : ℕ) (l : Notes) (fs : List Fr) → s ≡ WGiven p as' → (m ≡ 0 → ⊥) → (G.form p w q → ⊥) → Leads G (Going (Do s) w q m l fs) (Back false w (m - 1) l fs)
  given_not s p as' w q m l fs e i f =
      from_stmt s (WGiven p as') w q m l fs _ e (some_left (Do (WGiven p as')) w q m l fs _ i (takes _ _ (m_given_no G p as' w q (m - 1) l fs f) refl (omega arith) (λ h. h) (λ h. h)))

  -- FIRE
  pub fire_none : (n : ℕ) (v : Bool) (w : TermTree) (q : List ℕ) (m : ℕ) (l : Notes) (fs : List Fr) → m ≡ 0 → Leads G (Going (Do (WFire n v)) w q m l fs) (Over w Spent m l)
  fire_none n v w q m l fs i = none_left (Do (WFire n v)) w q m l fs i (m_fire_spent G n v w q l fs)

  pub fire_some : (n : ℕ) (v : Bool) (w w1 : TermTree) (q : List ℕ) (m : ℕ) (l l1 : Notes) (fs : List Fr) → (m ≡ 0 → ⊥) → G.hits n v w q w1 → G.fit w1 → l1 ≡ noted l (Fired n v q ∷ []) → Leads G (Going (Do (WFire n v)) w q m l fs) (Back true w1 (m - 1) l1 fs)
  fire_some n v w w1 q m l l1 fs i h f e =
      subst (λ z. Leads G (Going (Do (WFire n v)) w q m l fs) (Back true w1 (m - 1) z fs)) (sym e)
      (some_left (Do (WFire n v)) w q m l fs _ i (takes _ _ (m_fire G n v w w1 q (m - 1) l fs h f) refl (omega (arith, one_more_count l n v q)) (λ h. h) (λ h. f)))

  pub fire_size : (n : ℕ) (v : Bool) (w w1 : TermTree) (q : List ℕ) (m : ℕ) (l : Notes) (fs : List Fr) → (m ≡ 0 → ⊥) → G.hits n v w q w1 → (G.fit w1 → ⊥) → Leads G (Going (Do (WFire n v)) w q m l fs) (Over w Size (m - 1) l)
  fire_size n v w w1 q m l fs i h f = some_left (Do (WFire n v)) w q m l fs _ i (takes _ _ (m_size G n v w w1 q (m - 1) l fs h f) refl (omega arith) (λ h. tt) (λ h. h))

  pub fire_miss : (n : ℕ) (v : Bool) (w : TermTree) (q : List ℕ) (m : ℕ) (l : Notes) (fs : List Fr) → (m ≡ 0 → ⊥) → ((w1 : TermTree) → G.hits n v w q w1 → ⊥) → noted l (G.missed n v w q) ≡ l → Leads G (Going (Do (WFire n v)) w q m l fs) (Back false w (m - 1) l fs)
  fire_miss n v w q m l fs i h e =
      some_left (Do (WFire n v)) w q m l fs _ i (subst (λ z. Leads G (Going (Do (WFire n v)) w q (suc (m - 1)) l fs) (Back false w (m - 1) z fs)) e
      (takes _ _ (m_miss G n v w q (m - 1) l fs h) refl (omega (arith, ap (λ (z : Notes). z.count) e)) (λ h. h) (λ h. h)))

  -- behind a part
  pub back_or : (k b r : Bool) (w : TermTree) (m : ℕ) (l : Notes) (gs fs : List Fr) → gs ≡ FOr k ∷ fs → r ≡ (k || b) → Leads G (Back b w m l gs) (Back r w m l fs)
  back_or k b r w m l gs fs e h =
      subst (λ z. Leads G (Back b w m l gs) (Back z w m l fs)) (sym h)
      (subst (λ z. Leads G (Back b w m l z) (Back (k || b) w m l fs)) (sym e) (keeps _ _ (b_or G k b w m l fs) refl refl (falls_or k b (k || b) w m l fs) (λ h. h.1) (λ h. h)))

  pub back_go : (c : When) (j : Job) (q : List ℕ) (b : Bool) (w : TermTree) (m : ℕ) (l : Notes) (gs fs hs : List Fr) → gs ≡ FAfter c j q ∷ fs → goes c b ≡ true → hs ≡ merged b fs → Leads G (Back b w m l gs) (Going j w q m l hs)
  back_go c j q b w m l gs fs hs e h i = subst (λ z. Leads G (Back b w m l z) (Going j w q m l hs)) (sym e) (subst (λ z. Leads G (Back b w m l (FAfter c j q ∷ fs)) (Going j w q m l z)) (sym i) (keeps _ _ (b_go G c j q b w m l fs h) refl refl (falls_merge c j q b w m l fs) (apart_merged b fs) (λ h. h)))

  pub back_stay : (c : When) (j : Job) (q : List ℕ) (b : Bool) (w : TermTree) (m : ℕ) (l : Notes) (gs fs : List Fr) → gs ≡ FAfter c j q ∷ fs → goes c b ≡ false → Leads G (Back b w m l gs) (Back b w m l fs)
  back_stay c j q b w m l gs fs e h = subst (λ z. Leads G (Back b w m l z) (Back b w m l fs)) (sym e) (keeps _ _ (b_stay G c j q b w m l fs h) refl refl (falls_stay c j q b w m l fs) (λ h. h) (λ h. h))

  pub back_end : (b : Bool) (w : TermTree) (m : ℕ) (l : Notes) (gs : List Fr) → gs ≡ [] → Leads G (Back b w m l gs) (Ended b w m l)
  back_end b w m l gs e = subst (λ z. Leads G (Back b w m l z) (Ended b w m l)) (sym e) (keeps _ _ (b_end G b w m l) refl refl (falls_end b w m l) (λ h. tt) (λ h. h))

  pub at_end : (a b : Conf) → a ≡ b → IsEnd b → Leads G a b
  at_end a b e h = from_conf a b b e (record { moves = no_move G b; falls = over h; counts = omega arith; apart = λ z. z; fits = λ z. z })
