-- How deep a term or a pattern may be.
use Rattle.std.specs.Prelude.{ℕ}

-- a term is at most so deep
abbrev pub greatest_depth : ℕ
greatest_depth = 256

-- how many levels may stand below the first one
abbrev pub levels_below : ℕ
levels_below = 255
