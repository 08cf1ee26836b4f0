-- The least and the greatest integer of 64 bits, and those beside them.
use Rattle.std.proofs.Common.{◌≡◌, pos, negsuc, true, false, refl}
use Rattle.kola_core.specs.Integers.{in_64}

the_least : in_64 (negsuc 9223372036854775807) ≡ true
the_least = refl

one_below_the_least : in_64 (negsuc 9223372036854775808) ≡ false
one_below_the_least = refl

the_greatest : in_64 (pos 9223372036854775807) ≡ true
the_greatest = refl

one_above_the_greatest : in_64 (pos 9223372036854775808) ≡ false
one_above_the_greatest = refl
