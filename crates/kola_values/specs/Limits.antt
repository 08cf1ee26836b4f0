-- The limits of values.
use Rattle.std.specs.Prelude.{ℕ}

-- an object's id has 32 bits
abbrev pub greatest_id : ℕ
greatest_id = 4294967295
