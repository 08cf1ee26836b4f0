-- The outcome of a statement at a path, with the steps that are left.
use Rattle.std.specs.Prelude.{ℕ, zero, suc, Bool, true, false, List, [], ◌∷◌, ◌++◌, ◌≡◌}
use Rattle.kola_term.specs.Terms.{TermTree}
use Rattle.coko_plan.specs.Wholes.{WholeTree, WFire, WSkip, WFail, WSeq, WThen, WElse, WBu, WTd, WRepeat, WGiven, WholeArms, NoWholes, MoreWholes}
use Rattle.coko_run.specs.Outcomes.{Why, Spent, Size, Event, Fired, Outcome, Done, Stop, joined, kids, each, When, Always, OnOk, OnFail, goes}

-- what the schema and the table of rules give: the firings of a rule in a direction at a path, the note of a failed attempt,
-- whether a term fits at unit, and whether the subterm at a path has the form of a pattern
pub record World : Type 1 where
  pub hits : ℕ → Bool → TermTree → List ℕ → TermTree → Type 0
  pub missed : ℕ → Bool → TermTree → List ℕ → List Event
  pub fit : TermTree → Type 0
  pub form : TermTree → TermTree → List ℕ → Type 0

-- a statement; a step and then a statement; a statement at each child that is no constant; arms in order
pub data Job : Type 0 where
  Do : WholeTree → Job
  Step : WholeTree → Job
  Kids : WholeTree → Job
  Walk : WholeArms → Job

mutual
  pub data Runs (G : World) : Job → TermTree → List ℕ → ℕ → Outcome → Type 0 where
    step_spent : {s : WholeTree} {w : TermTree} {q : List ℕ} → Runs G (Step s) w q zero (Stop w Spent [] zero)
    step : {s : WholeTree} {w : TermTree} {q : List ℕ} {m : ℕ} {o : Outcome} → Runs G (Do s) w q m o → Runs G (Step s) w q (suc m) o
    fire_spent : {r : ℕ} {v : Bool} {w : TermTree} {q : List ℕ} → Runs G (Do (WFire r v)) w q zero (Stop w Spent [] zero)
    fire_hit : {r : ℕ} {v : Bool} {w : TermTree} {q : List ℕ} {m : ℕ} {w' : TermTree} → G.hits r v w q w' → G.fit w' → Runs G (Do (WFire r v)) w q (suc m) (Done w' true (Fired r v q ∷ []) m)
    fire_size : {r : ℕ} {v : Bool} {w : TermTree} {q : List ℕ} {m : ℕ} {w' : TermTree} → G.hits r v w q w' → (G.fit w' → ⊥) → Runs G (Do (WFire r v)) w q (suc m) (Stop w Size [] m)
    fire_miss : {r : ℕ} {v : Bool} {w : TermTree} {q : List ℕ} {m : ℕ} → ((w' : TermTree) → G.hits r v w q w' → ⊥) → Runs G (Do (WFire r v)) w q (suc m) (Done w false (G.missed r v w q) m)
    skip_spent : {w : TermTree} {q : List ℕ} → Runs G (Do WSkip) w q zero (Stop w Spent [] zero)
    skip : {w : TermTree} {q : List ℕ} {m : ℕ} → Runs G (Do WSkip) w q (suc m) (Done w true [] m)
    fail_spent : {w : TermTree} {q : List ℕ} → Runs G (Do WFail) w q zero (Stop w Spent [] zero)
    fail : {w : TermTree} {q : List ℕ} {m : ℕ} → Runs G (Do WFail) w q (suc m) (Done w false [] m)
    seq : {a b : WholeTree} {w : TermTree} {q : List ℕ} {m : ℕ} {e o : Outcome} → Runs G (Do a) w q m e → Next G Always (Do b) q e o → Runs G (Do (WSeq a b)) w q m o
    then_ : {a b : WholeTree} {w : TermTree} {q : List ℕ} {m : ℕ} {e o : Outcome} → Runs G (Do a) w q m e → Next G OnOk (Do b) q e o → Runs G (Do (WThen a b)) w q m o
    else_ : {a b : WholeTree} {w : TermTree} {q : List ℕ} {m : ℕ} {e o : Outcome} → Runs G (Do a) w q m e → Next G OnFail (Do b) q e o → Runs G (Do (WElse a b)) w q m o
    bu : {a : WholeTree} {w : TermTree} {q : List ℕ} {m : ℕ} {e o : Outcome} → Runs G (Kids (WBu a)) w q m e → Next G Always (Step a) q e o → Runs G (Do (WBu a)) w q m o
    td : {a : WholeTree} {w : TermTree} {q : List ℕ} {m : ℕ} {e o : Outcome} → Runs G (Step a) w q m e → Next G Always (Kids (WTd a)) q e o → Runs G (Do (WTd a)) w q m o
    turns : {a : WholeTree} {w : TermTree} {q : List ℕ} {m : ℕ} {e o : Outcome} → Runs G (Step a) w q m e → Next G OnOk (Do (WRepeat a)) q e o → Runs G (Do (WRepeat a)) w q m o
    given_spent : {p : TermTree} {as' : WholeArms} {w : TermTree} {q : List ℕ} → Runs G (Do (WGiven p as')) w q zero (Stop w Spent [] zero)
    given_no : {p : TermTree} {as' : WholeArms} {w : TermTree} {q : List ℕ} {m : ℕ} → (G.form p w q → ⊥) → Runs G (Do (WGiven p as')) w q (suc m) (Done w false [] m)
    given : {p : TermTree} {as' : WholeArms} {w : TermTree} {q : List ℕ} {m : ℕ} {o : Outcome} → G.form p w q → Runs G (Walk as') w q m o → Runs G (Do (WGiven p as')) w q (suc m) o
    at_kids : {s : WholeTree} {w : TermTree} {q : List ℕ} {m : ℕ} {o : Outcome} → Runs G (Walk (each s (kids w q))) w q m o → Runs G (Kids s) w q m o
    walk_end : {w : TermTree} {q : List ℕ} {m : ℕ} → Runs G (Walk NoWholes) w q m (Done w false [] m)
    walk : {p : List ℕ} {s : WholeTree} {as' : WholeArms} {w : TermTree} {q : List ℕ} {m : ℕ} {e o : Outcome} → Runs G (Do s) w (q ++ p) m e → Next G Always (Walk as') q e o → Runs G (Walk (MoreWholes p s as')) w q m o

  -- what follows a part
  pub data Next (G : World) : When → Job → List ℕ → Outcome → Outcome → Type 0 where
    halt : {c : When} {j : Job} {q : List ℕ} {w : TermTree} {y : Why} {f : List Event} {m : ℕ} → Next G c j q (Stop w y f m) (Stop w y f m)
    go : {c : When} {j : Job} {q : List ℕ} {w : TermTree} {k : Bool} {f : List Event} {m : ℕ} {o : Outcome} → goes c k ≡ true → Runs G j w q m o → Next G c j q (Done w k f m) (joined k f o)
    stay : {c : When} {j : Job} {q : List ℕ} {w : TermTree} {k : Bool} {f : List Event} {m : ℕ} → goes c k ≡ false → Next G c j q (Done w k f m) (Done w k f m)

-- something of every firing of a statement
abbrev mutual
  pub AllFire : (ℕ → Bool → Type 0) → WholeTree → Type 0
  AllFire L (WFire r v) = L r v
  AllFire L (WSeq a b) = AllFire L a × AllFire L b
  AllFire L (WThen a b) = AllFire L a × AllFire L b
  AllFire L (WElse a b) = AllFire L a × AllFire L b
  AllFire L (WBu a) = AllFire L a
  AllFire L (WTd a) = AllFire L a
  AllFire L (WRepeat a) = AllFire L a
  AllFire L (WGiven p as') = AllFires L as'
  AllFire L _ = Unit {0}

  pub AllFires : (ℕ → Bool → Type 0) → WholeArms → Type 0
  AllFires L NoWholes = Unit {0}
  AllFires L (MoreWholes p s as') = AllFire L s × AllFires L as'

abbrev pub JobFires : (ℕ → Bool → Type 0) → Job → Type 0
JobFires L (Do s) = AllFire L s
JobFires L (Step s) = AllFire L s
JobFires L (Kids s) = AllFire L s
JobFires L (Walk as') = AllFires L as'

-- a rule in a direction has at most one result at a place
abbrev pub OneResult : World → ℕ → Bool → Type 0
OneResult G r v = (w : TermTree) (q : List ℕ) (a b : TermTree) → G.hits r v w q a → G.hits r v w q b → a ≡ b

-- a statement whose firings have one result has no two outcomes
abbrev pub OneOutcome : World → Type 0
OneOutcome G = (s : WholeTree) → AllFire (OneResult G) s → (w : TermTree) (q : List ℕ) (m : ℕ) (o e : Outcome) → Runs G (Do s) w q m o → Runs G (Do s) w q m e → o ≡ e

-- no statement is without an outcome
abbrev pub SomeOutcome : World → Type 0
SomeOutcome G = (s : WholeTree) (w : TermTree) (q : List ℕ) (m : ℕ) → ((o : Outcome) → Runs G (Do s) w q m o → ⊥) → ⊥
