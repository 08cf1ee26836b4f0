-- Readers by how many levels are left. step makes the readers of a level from those one level below, where there is one.
use Rattle.std.specs.Prelude.{ℕ, zero, suc, Option, Some, None}

-- the readers one level below, where d levels are left
abbrev pub below : {I : Type 0} → (Option I → I) → ℕ → Option I
below step zero = None
below step (suc d) = Some (step (below step d))
