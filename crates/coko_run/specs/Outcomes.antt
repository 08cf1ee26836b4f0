-- What a run of a statement does and comes to.
use Rattle.std.specs.Prelude.{ℕ, suc, Bool, true, false, not, ◌||◌, List, [], ◌∷◌, ◌++◌, Option, Some, None}
use Rattle.kola_values.specs.Types.{TypeTree}
use Rattle.kola_term.specs.Terms.{TermTree, TermF, TermP, TermC}
use Rattle.kola_term.specs.Places.{children, sub_at}
use Rattle.coko_plan.specs.Wholes.{WholeTree, WholeArms, NoWholes, MoreWholes}

-- why a run stops: its steps are used up, or a firing would give a term that does not fit
pub data Why : Type 0 where
  Spent : Why
  Size : Why

-- a firing of a rule in a direction at a path; a failed attempt at a subterm of an input type
pub data Event : Type 0 where
  Fired : ℕ → Bool → List ℕ → Event
  Missed : TermTree → TypeTree → ℕ → Bool → Event

-- the whole term, success, the events within the statement in order, the steps that are left
pub data Outcome : Type 0 where
  Done : TermTree → Bool → List Event → ℕ → Outcome
  Stop : TermTree → Why → List Event → ℕ → Outcome

-- a part that ran after a part with this success and these events
abbrev pub joined : Bool → List Event → Outcome → Outcome
joined k f (Done w j g m) = Done w (k || j) (f ++ g) m
joined k f (Stop w y g m) = Stop w y (f ++ g) m

abbrev pub term_of : Outcome → TermTree
term_of (Done w k f m) = w
term_of (Stop w y f m) = w

abbrev pub ok_of : Outcome → Bool
ok_of (Done w k f m) = k
ok_of (Stop w y f m) = false

abbrev pub log_of : Outcome → List Event
log_of (Done w k f m) = f
log_of (Stop w y f m) = f

abbrev pub left_of : Outcome → ℕ
left_of (Done w k f m) = m
left_of (Stop w y f m) = m

-- the numbers of the children that are no constants
abbrev pub live : ℕ → List TermTree → List ℕ
live n [] = []
live n (TermF f ∷ ts) = n ∷ live (suc n) ts
live n (TermP p ∷ ts) = n ∷ live (suc n) ts
live n (TermC c ∷ ts) = live (suc n) ts

abbrev pub live_of : Option TermTree → List ℕ
live_of (Some t) = live 1 (children t)
live_of None = []

abbrev pub kids : TermTree → List ℕ → List ℕ
kids w q = live_of (sub_at w q)

abbrev pub each : WholeTree → List ℕ → WholeArms
each s [] = NoWholes
each s (n ∷ ns) = MoreWholes (n ∷ []) s (each s ns)

-- when the second part runs
pub data When : Type 0 where
  Always : When
  OnOk : When
  OnFail : When

abbrev pub goes : When → Bool → Bool
goes Always k = true
goes OnOk k = k
goes OnFail k = not k
