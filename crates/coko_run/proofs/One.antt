-- At most one outcome.
use Rattle.std.proofs.Common.{◌≡◌, ℕ, Bool, true, false, refl, sym, ap, ◌∙◌, subst, List, [], ◌∷◌}
use Rattle.kola_term.specs.Terms.{TermTree}
use Rattle.coko_plan.specs.Wholes.{WholeTree}
use Rattle.coko_run.specs.Outcomes.{Fired, Outcome, Done, joined, When, goes, term_of, left_of, ok_of, log_of, kids, each}
use Rattle.coko_run.specs.Runs.{World, Job, Runs, step_spent, step, fire_spent, fire_hit, fire_size, fire_miss, skip_spent, skip, fail_spent, fail, seq, then_, else_, bu, td, turns, given_spent, given_no, given, at_kids, walk_end, walk, Next, halt, go, stay, OneResult, OneOutcome, AllFire, AllFires, JobFires}

each_fires : (L : ℕ → Bool → Type 0) (s : WholeTree) (ns : List ℕ) → AllFire L s → AllFires L (each s ns)
each_fires L s [] h = tt
each_fires L s (n ∷ ns) h = (h, each_fires L s ns h)

clash : (a b : Bool) → a ≡ b → a ≡ true → b ≡ false → ⊥
clash true b e i j = absurd (cc)
clash false b e i j = absurd (cc)

mutual
  pub one : (G : World) {j : Job} {w : TermTree} {q : List ℕ} {m : ℕ} {o e : Outcome} → JobFires (OneResult G) j → Runs G j w q m o → Runs G j w q m e → o ≡ e
  one G u step_spent step_spent = refl
  one G u (step x) (step y) = one G u x y
  one G u fire_spent fire_spent = refl
  one G u (fire_hit {r = r} {v = v} {w = w} {q = q} {m = m} {w' = a} h i) (fire_hit {w' = b} k l) = ap (λ z. Done z true (Fired r v q ∷ []) m) (u w q a b h k)
  one G u (fire_hit {w = w} {q = q} {w' = a} h i) (fire_size {w' = b} k l) = absurd (l (subst G.fit (u w q a b h k) i))
  one G u (fire_hit {w' = a} h i) (fire_miss n) = absurd (n a h)
  one G u (fire_size {w = w} {q = q} {w' = a} h i) (fire_hit {w' = b} k l) = absurd (i (subst G.fit (u w q b a k h) l))
  one G u (fire_size h i) (fire_size k l) = refl
  one G u (fire_size {w' = a} h i) (fire_miss n) = absurd (n a h)
  one G u (fire_miss n) (fire_hit {w' = a} h i) = absurd (n a h)
  one G u (fire_miss n) (fire_size {w' = a} h i) = absurd (n a h)
  one G u (fire_miss n) (fire_miss k) = refl
  one G u skip_spent skip_spent = refl
  one G u skip skip = refl
  one G u fail_spent fail_spent = refl
  one G u fail fail = refl
  one G u (seq x y) (seq k l) = one_next G u.1 (one G u.0 x k) y l
  one G u (then_ x y) (then_ k l) = one_next G u.1 (one G u.0 x k) y l
  one G u (else_ x y) (else_ k l) = one_next G u.1 (one G u.0 x k) y l
  one G u (bu x y) (bu k l) = one_next G u (one G u x k) y l
  one G u (td x y) (td k l) = one_next G u (one G u x k) y l
  one G u (turns x y) (turns k l) = one_next G u (one G u x k) y l
  one G u given_spent given_spent = refl
  one G u (given_no i) (given_no k) = refl
  one G u (given_no i) (given k x) = absurd (i k)
  one G u (given i x) (given_no k) = absurd (k i)
  one G u (given i x) (given k y) = one G u x y
  one G u (at_kids {s = s} {w = w} {q = q} x) (at_kids y) = one G (each_fires (OneResult G) s (kids w q) u) x y
  one G u walk_end walk_end = refl
  one G u (walk x y) (walk k l) = one_next G u.1 (one G u.0 x k) y l

  pub one_next : (G : World) {c : When} {j : Job} {q : List ℕ} {a b o e : Outcome} → JobFires (OneResult G) j → a ≡ b → Next G c j q a o → Next G c j q b e → o ≡ e
  one_next G u i halt halt = i
  one_next G u i halt (go k x) = absurd (cc)
  one_next G u i halt (stay k) = absurd (cc)
  one_next G u i (go k x) halt = absurd (cc)
  one_next G u i (go {c = c} {j = j} {q = q} {k = k} {f = f} h x) (go {o = o'} h' y) =
      ap (joined k f) (one G u x (subst (λ z. Runs G j (term_of z) q (left_of z) o') (sym i) y)) ∙ ap (λ z. joined (ok_of z) (log_of z) o') i
  one_next G u i (go {c = c} {k = k} h x) (stay {k = k'} h') = absurd (clash (goes c k) (goes c k') (ap (λ z. goes c (ok_of z)) i) h h')
  one_next G u i (stay k) halt = absurd (cc)
  one_next G u i (stay {c = c} {k = k} h) (go {k = k'} h' y) = absurd (clash (goes c k') (goes c k) (ap (λ z. goes c (ok_of z)) (sym i)) h' h)
  one_next G u i (stay k) (stay l) = i

pub one_outcome : (G : World) → OneOutcome G
one_outcome G = λ s u w q m o e x y. one G u x y
