-- A weight that falls at each move that takes no step.
use Rattle.std.proofs.Common.{◌≡◌, ℕ, suc, ◌+◌, ◌*◌, ◌<◌, ◌≤◌, Bool, false, ap, List, [], ◌∷◌, ◌++◌, length, Option, Some, None, option_and_then, arith}
use Rattle.kola_term.specs.Terms.{FComp, FPair, FTimes, FK, FC, FIf, FIterate, FIter, FJoin, FNest, FUnnest, PAt, PAnd, POr, PNot, PInv, PCP, PEx, PFa, TermTree, TermF, TermP, TermC}
use Rattle.kola_term.specs.Places.{children, nth, sub_at}
use Rattle.coko_plan.specs.Wholes.{WholeTree, WSeq, WThen, WElse, WBu, WholeArms, NoWholes, MoreWholes}
use Rattle.coko_run.specs.Outcomes.{When, Always, OnOk, OnFail, live, live_of, kids, each}
use Rattle.coko_run.specs.Runs.{Job, Do, Step, Kids, Walk}
use Rattle.kola_term.specs.Counts.{nodes}
use Rattle.coko_run.proofs.Smaller.{nodes_all, nodes_children, one_more}
use Rattle.coko_run.specs.Notes.{Notes}
use Rattle.coko_run.specs.Weights.{Apart, NoOr, nodes_of, weight_arms, weight_frames, weight}
use Rattle.coko_run.specs.Moves.{merged, Fr, FOr, FAfter, Going, Back, Ended}

few_children : (t : TermTree) → length (children t) ≤ 3
few_children (TermF (FComp f g)) = omega arith
few_children (TermF (FPair f g)) = omega arith
few_children (TermF (FTimes f g)) = omega arith
few_children (TermF (FK c)) = omega arith
few_children (TermF (FC f c)) = omega arith
few_children (TermF (FIf p f g)) = omega arith
few_children (TermF (FIterate p f)) = omega arith
few_children (TermF (FIter p f)) = omega arith
few_children (TermF (FJoin p f)) = omega arith
few_children (TermF (FNest f g)) = omega arith
few_children (TermF (FUnnest f g)) = omega arith
few_children (TermP (PAt p f)) = omega arith
few_children (TermP (PAnd p f)) = omega arith
few_children (TermP (POr p f)) = omega arith
few_children (TermP (PNot p)) = omega arith
few_children (TermP (PInv p)) = omega arith
few_children (TermP (PCP p c)) = omega arith
few_children (TermP (PEx p)) = omega arith
few_children (TermP (PFa p)) = omega arith
few_children _ = omega arith

module _ (a : WholeTree) (w : TermTree) (q : List ℕ) where
  -- the subterms from number i on have the nodes of the list
  abbrev From : ℕ → List TermTree → Type 0
  From i [] = Unit {0}
  From i (t ∷ ts) = (nodes_of (sub_at w (q ++ (i ∷ []))) ≡ nodes t) × From (suc i) ts

  children_weight : (i : ℕ) (ts : List TermTree) → From i ts → weight_arms (each (WBu a) (live i ts)) w q ≤ 30 * nodes_all ts + 9 * length ts + 1
  children_weight i [] h = omega arith
  children_weight i (TermF f ∷ ts) h = omega (arith, h.0, children_weight (suc i) ts h.1)
  children_weight i (TermP p ∷ ts) h = omega (arith, h.0, children_weight (suc i) ts h.1)
  children_weight i (TermC c ∷ ts) h = omega (arith, children_weight (suc i) ts h.1)

  from_nth : (ts : List TermTree) → length ts ≤ 3 → ((k : ℕ) → nodes_of (sub_at w (q ++ (k ∷ []))) ≡ nodes_of (nth k ts)) → From 1 ts
  from_nth [] l g = tt
  from_nth (x ∷ []) l g = (g 1, tt)
  from_nth (x ∷ y ∷ []) l g = (g 1, (g 2, tt))
  from_nth (x ∷ y ∷ z ∷ []) l g = (g 1, (g 2, (g 3, tt)))
  from_nth (x ∷ y ∷ z ∷ u ∷ us) l g = absurd (omega (arith, l))

  kids_weight : weight_arms (each (WBu a) (kids w q)) w q ≤ 30 * nodes_of (sub_at w q) + 1
  kids_weight = at (sub_at w q) (λ k. ap nodes_of (one_more w q k))
    where
      at : (o : Option TermTree) → ((k : ℕ) → nodes_of (sub_at w (q ++ (k ∷ []))) ≡ nodes_of (option_and_then (λ c. nth k (children c)) o)) → weight_arms (each (WBu a) (live_of o)) w q ≤ 30 * nodes_of o + 1
      at None g = omega arith
      at (Some t) g = omega (arith, few_children t, nodes_children t, children_weight 1 (children t) (from_nth (children t) (few_children t) g))

pub falls_seq : (a b : WholeTree) (w : TermTree) (q : List ℕ) (m : ℕ) (l : Notes) (fs : List Fr) → weight (Going (Do a) w q m l (FAfter Always (Do b) q ∷ fs)) < weight (Going (Do (WSeq a b)) w q m l fs)
falls_seq a b w q m l fs = omega arith

pub falls_then : (a b : WholeTree) (w : TermTree) (q : List ℕ) (m : ℕ) (l : Notes) (fs : List Fr) → weight (Going (Do a) w q m l (FAfter OnOk (Do b) q ∷ fs)) < weight (Going (Do (WThen a b)) w q m l fs)
falls_then a b w q m l fs = omega arith

pub falls_else : (a b : WholeTree) (w : TermTree) (q : List ℕ) (m : ℕ) (l : Notes) (fs : List Fr) → weight (Going (Do a) w q m l (FAfter OnFail (Do b) q ∷ fs)) < weight (Going (Do (WElse a b)) w q m l fs)
falls_else a b w q m l fs = omega arith

pub falls_bu : (a : WholeTree) (w : TermTree) (q : List ℕ) (m : ℕ) (l : Notes) (fs : List Fr) → weight (Going (Kids (WBu a)) w q m l (FAfter Always (Step a) q ∷ fs)) < weight (Going (Do (WBu a)) w q m l fs)
falls_bu a w q m l fs = omega (arith, kids_weight a w q)

pub falls_kids : (s : WholeTree) (w : TermTree) (q : List ℕ) (m : ℕ) (l : Notes) (fs : List Fr) → weight (Going (Walk (each s (kids w q))) w q m l fs) < weight (Going (Kids s) w q m l fs)
falls_kids s w q m l fs = omega arith

pub falls_walk : (p : List ℕ) (s : WholeTree) (as' : WholeArms) (w : TermTree) (q : List ℕ) (m : ℕ) (l : Notes) (fs : List Fr) → weight (Going (Do s) w (q ++ p) m l (FAfter Always (Walk as') q ∷ fs)) < weight (Going (Walk (MoreWholes p s as')) w q m l fs)
falls_walk p s as' w q m l fs = omega arith

pub falls_walk_end : (w : TermTree) (q : List ℕ) (m : ℕ) (l : Notes) (fs : List Fr) → weight (Back false w m l fs) < weight (Going (Walk NoWholes) w q m l fs)
falls_walk_end w q m l fs = omega arith

pub falls_or : (k b c : Bool) (w : TermTree) (m : ℕ) (l : Notes) (fs : List Fr) → weight (Back c w m l fs) < weight (Back b w m l (FOr k ∷ fs))
falls_or k b c w m l fs = omega arith

pub falls_go : (c : When) (j : Job) (q : List ℕ) (b : Bool) (w : TermTree) (m : ℕ) (l : Notes) (fs : List Fr) → weight (Going j w q m l (FOr b ∷ fs)) < weight (Back b w m l (FAfter c j q ∷ fs))
falls_go c j q b w m l fs = omega arith

pub falls_stay : (c : When) (j : Job) (q : List ℕ) (b : Bool) (w : TermTree) (m : ℕ) (l : Notes) (fs : List Fr) → weight (Back b w m l fs) < weight (Back b w m l (FAfter c j q ∷ fs))
falls_stay c j q b w m l fs = omega arith

pub falls_end : (b : Bool) (w : TermTree) (m : ℕ) (l : Notes) → weight (Ended b w m l) < weight (Back b w m l [])
falls_end b w m l = omega arith

merged_weight : (b : Bool) (w : TermTree) (fs : List Fr) → weight_frames w (merged b fs) ≤ 1 + weight_frames w fs
merged_weight b w [] = omega arith
merged_weight b w (FOr k ∷ fs) = omega arith
merged_weight b w (FAfter c j q ∷ fs) = omega arith

pub falls_merge : (c : When) (j : Job) (q : List ℕ) (b : Bool) (w : TermTree) (m : ℕ) (l : Notes) (fs : List Fr) → weight (Going j w q m l (merged b fs)) < weight (Back b w m l (FAfter c j q ∷ fs))
falls_merge c j q b w m l fs = omega (arith, merged_weight b w fs)

-- with no two ors on one another there is at most one more of them than of the others
abbrev pub afters : List Fr → ℕ
afters [] = 0
afters (FOr k ∷ fs) = afters fs
afters (FAfter c j q ∷ fs) = afters fs + 1

few_above : (fs : List Fr) → Apart fs → NoOr fs → length fs ≤ 2 * afters fs
few_above [] h n = omega arith
few_above (FOr k ∷ fs) h n = absurd n
few_above (FAfter c j q ∷ []) h n = omega arith
few_above (FAfter c j q ∷ FOr k ∷ fs) h n = omega (arith, few_above fs h.1 h.0)
few_above (FAfter c j q ∷ FAfter d i r ∷ fs) h n = omega (arith, few_above (FAfter d i r ∷ fs) h tt)

pub few_frames : (fs : List Fr) → Apart fs → length fs ≤ 2 * afters fs + 1
few_frames [] h = omega arith
few_frames (FOr k ∷ fs) h = omega (arith, few_above fs h.1 h.0)
few_frames (FAfter c j q ∷ fs) h = omega (arith, few_above (FAfter c j q ∷ fs) h tt)
