-- The integers of 64 bits: the test, and what it says.
use Rattle.std.specs.Prelude.{ℤ, pos, negsuc, ◌≤ℤ◌, int_le, Bool, ◌&&◌}

-- -9223372036854775808
abbrev pub least_integer : ℤ
least_integer = negsuc 9223372036854775807

abbrev pub greatest_integer : ℤ
greatest_integer = pos 9223372036854775807

abbrev pub in_64 : ℤ → Bool
in_64 z = int_le least_integer z && int_le z greatest_integer

abbrev pub In64 : ℤ → Type 0
In64 z = (least_integer ≤ℤ z) × (z ≤ℤ greatest_integer)
