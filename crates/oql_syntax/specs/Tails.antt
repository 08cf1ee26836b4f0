-- How the text of an expression ended: what may go on it depends on this alone.
use Rattle.std.specs.Prelude.{ℕ, List, Bool}

pub data Tail : Type 0 where
  -- in a closed operand, to which a comparison may still come
  Plain : Tail
  -- in a comparison
  Compared : Tail
  -- the same in the body of a quantifier or in the condition of a select
  OpenPlain : Tail
  OpenCompared : Tail
  -- in the ranges of a select, where true says that the last one is written with `as`
  Ranged : (b : Bool) → Tail
  -- in the ranges of a select, a comma, and then the next label of the struct around it and its colon
  Labelled : (label : List ℕ) (at : ℕ) → Tail

-- behind the body of a quantifier, or the condition of a select
abbrev pub opened : Tail → Tail
opened Plain = OpenPlain
opened Compared = OpenCompared
opened x = x
