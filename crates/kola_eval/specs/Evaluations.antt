-- What the answer to an evaluation says of the limit on visits.
use Rattle.std.specs.Prelude.{◌≡◌, ℕ, ◌≤◌, ◌<◌, Result, Ok, Err}
use Rattle.kola_eval.specs.declared.fault.EvalFault.{EvalFault}
use Rattle.kola_eval.specs.declared.fault.EvalFault.TheVariants.{VisitLimit, Memory}

-- an answer where the visits are no more than the limit, and `VisitLimit` with that limit where they are more; want of memory says nothing
abbrev pub IsWithin : {A : Type 0} → ℕ → ℕ → Result A EvalFault → Type 0
IsWithin limit visits (Ok e) = visits ≤ limit
IsWithin limit visits (Err (VisitLimit l)) = (l ≡ limit) × (limit < visits)
IsWithin limit visits (Err Memory) = Unit {0}
