-- A line of stages, of which each refuses, with the status and the bytes that are then the answer, or accepts and goes on to those behind it. Private clauses cite it: what is promised stands in Answer.antt.
use Rattle.std.specs.Prelude.{ℕ, List}
use Rattle.kola_top.specs.declared.status.Status.{Status}

abbrev pub Says : Type 1
Says = Status → List ℕ → Type 0

-- nothing is said
pub data Nothing : Status → List ℕ → Type 0 where

-- a stage: its refusals with what each answers, and what is accepted
pub record Stage (F R : Type 0) : Type 1 where
  pub refuses : F → Type 0
  pub accepts : R → Type 0
  pub status : F → Status
  pub bytes : F → List ℕ

-- the answer of a stage with those behind it
pub data Then {F R : Type 0} (g : Stage F R) (rest : R → Says) : Status → List ℕ → Type 0 where
  refused : (e : F) → g.refuses e → Then g rest (g.status e) (g.bytes e)
  onward : (x : R) (s : Status) (b : List ℕ) → g.accepts x → rest x s b → Then g rest s b
