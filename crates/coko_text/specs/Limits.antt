-- How deep the types and the terms of rules may be.
use Rattle.std.specs.Prelude.{ℕ, ◌+◌}

-- so many constructors may stand round a name of a type
abbrev pub greatest_nesting : ℕ
greatest_nesting = 99

-- how many levels may stand below the first one of a term, where so many constructors may stand round a name of a type
abbrev pub term_levels : ℕ → ℕ
term_levels d = d + 156
