-- What is left to do: a job or an answer, with frames; and when one such state leads to another.
use Rattle.std.specs.Prelude.{ℕ, Bool, true, false, ◌||◌, List, [], ◌∷◌, ◌≡◌}
use Rattle.kola_term.specs.Terms.{TermTree}
use Rattle.coko_run.specs.Outcomes.{Why, Event, Outcome, Done, Stop, When, goes}
use Rattle.coko_run.specs.Runs.{World, Job, Runs}
use Rattle.coko_run.specs.Notes.{Notes, noted}

-- an outcome, with what is kept of the events up to it
pub data Plain : Type 0 where
  Fin : TermTree → Bool → Notes → ℕ → Plain
  Halt : TermTree → Why → Notes → ℕ → Plain

-- an outcome after what was kept before
abbrev pub onto : Notes → Outcome → Plain
onto l (Done w k f m) = Fin w k (noted l f) m
onto l (Stop w y f m) = Halt w y (noted l f) m

pub data Fr : Type 0 where
  FOr : Bool → Fr
  FAfter : When → Job → List ℕ → Fr

-- with the or of a part before; two of them are one
abbrev pub merged : Bool → List Fr → List Fr
merged b [] = FOr b ∷ []
merged b (FOr k ∷ fs) = FOr (k || b) ∷ fs
merged b (FAfter c j q ∷ fs) = FOr b ∷ FAfter c j q ∷ fs

pub data Rest (G : World) : List Fr → Plain → Plain → Type 0 where
  r_end : {e : Plain} → Rest G [] e e
  r_halt : {a : Fr} {fs : List Fr} {w : TermTree} {y : Why} {l : Notes} {m : ℕ} → Rest G (a ∷ fs) (Halt w y l m) (Halt w y l m)
  r_or : {k b : Bool} {fs : List Fr} {w : TermTree} {l : Notes} {m : ℕ} {o : Plain} → Rest G fs (Fin w (k || b) l m) o → Rest G (FOr k ∷ fs) (Fin w b l m) o
  r_go : {c : When} {j : Job} {q : List ℕ} {b : Bool} {fs : List Fr} {w : TermTree} {l : Notes} {m : ℕ} {e : Outcome} {o : Plain} → goes c b ≡ true → Runs G j w q m e → Rest G (FOr b ∷ fs) (onto l e) o → Rest G (FAfter c j q ∷ fs) (Fin w b l m) o
  r_stay : {c : When} {j : Job} {q : List ℕ} {b : Bool} {fs : List Fr} {w : TermTree} {l : Notes} {m : ℕ} {o : Plain} → goes c b ≡ false → Rest G fs (Fin w b l m) o → Rest G (FAfter c j q ∷ fs) (Fin w b l m) o

pub data Conf : Type 0 where
  Going : Job → TermTree → List ℕ → ℕ → Notes → List Fr → Conf
  Back : Bool → TermTree → ℕ → Notes → List Fr → Conf
  Over : TermTree → Why → ℕ → Notes → Conf
  Ended : Bool → TermTree → ℕ → Notes → Conf

abbrev pub Ends : World → Conf → Plain → Type 0
Ends G (Going j w q m l fs) o = (e : Outcome) × Runs G j w q m e × Rest G fs (onto l e) o
Ends G (Back k w m l fs) o = Rest G fs (Fin w k l m) o
Ends G (Over w y m l) o = o ≡ Halt w y l m
Ends G (Ended k w m l) o = o ≡ Fin w k l m

unfoldable pub Moves : World → Conf → Conf → Type 0
Moves G a b = (o : Plain) → Ends G b o → Ends G a o

-- the outcome that an end shows, with the events of which its notes are kept
abbrev pub Reached : World → Job → TermTree → ℕ → Notes → Conf → Type 0
Reached G j w m l (Ended k w1 m1 l1) = (f : List Event) × Runs G j w [] m (Done w1 k f m1) × (l1 ≡ noted l f)
Reached G j w m l (Over w1 y m1 l1) = (f : List Event) × Runs G j w [] m (Stop w1 y f m1) × (l1 ≡ noted l f)
Reached G j w m l _ = ⊥
