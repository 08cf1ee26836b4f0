-- The test of integers of 64 bits tells exactly which they are.
use Rattle.std.proofs.Common.{◌≡◌, ◌≤ℤ◌, int_le, ℤ, ◌&&◌, true, arith}
use Rattle.std.proofs.lemmas.Bool.{and_parts}
use Rattle.std.proofs.lemmas.Int.{ints}
use Rattle.kola_core.specs.Integers.{least_integer, greatest_integer, in_64, In64}

at_most : (x y : ℤ) → x ≤ℤ y → int_le x y ≡ true
at_most x y h = grind (arith, ints)

is_at_most : (x y : ℤ) → int_le x y ≡ true → x ≤ℤ y
is_at_most x y h = grind (arith, ints)

pub in_range : (z : ℤ) → In64 z → in_64 z ≡ true
in_range z h = λ j. at_most least_integer z h.0 j && at_most z greatest_integer h.1 j

pub is_in_range : (z : ℤ) → in_64 z ≡ true → In64 z
is_in_range z h =
    let k = and_parts (int_le least_integer z) (int_le z greatest_integer) h in
    (is_at_most least_integer z k.0, is_at_most z greatest_integer k.1)
