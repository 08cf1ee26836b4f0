-- What the machine keeps of the events: how many firings, and where it keeps a list, which.
use Rattle.std.specs.Prelude.{ℕ, ◌+◌, List, [], ◌∷◌, ◌++◌, length, Option, option_map}
use Rattle.coko_run.specs.Outcomes.{Event, Fired, Missed}

-- the firings among the events
abbrev pub fired : List Event → List Event
fired [] = []
fired (Fired r v q ∷ es) = Fired r v q ∷ fired es
fired (Missed t i r v ∷ es) = fired es

pub record Notes : Type 0 where
  pub count : ℕ
  pub list : Option (List Event)

unfoldable pub noted : Notes → List Event → Notes
noted l f = record { count = l.count + length (fired f); list = option_map (λ g. g ++ fired f) l.list }
