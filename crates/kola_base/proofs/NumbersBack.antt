-- An integer of 64 bits is what its decimal text writes.
use Rattle.std.proofs.Common.{◌≡◌, ℕ, suc, ◌<◌, ◌^◌, List, ◌++◌, length, map, Bool, true, Some, ap, ◌∙◌, arith}
use Rattle.std.specs.Prelude.{ℤ, pos, negsuc, neg_ℤ, nat_le}
use Rattle.std.specs.Fmt.{signed_decimal}
use Rattle.std.specs.Fmt as fmt
use Rattle.std.proofs.lemmas.Bool.{leb-true, and_parts}
use Rattle.std.proofs.lemmas.Fmt.{decimal_nonempty, digits_decimal, digits_value-decimal}
use Rattle.kola_core.specs.Integers.{in_64}
use Rattle.kola_base.specs.declared.class.Class.{Class}
use Rattle.kola_base.specs.declared.class.Class.TheVariants.{Digit, Minus}
use Rattle.kola_base.specs.declared.scan.Sort.TheVariants as sorts
use Rattle.kola_base.specs.Pieces.{class}
use Rattle.kola_base.specs.Scanning.{first_piece}
use Rattle.kola_base.specs.Numbers.{number_value}
use Rattle.kola_base.proofs.Digits.{own, digits_value}
use Rattle.kola_base.proofs.Alone.{Before, apart, digits_alone, minus_alone, digits_begin}

-- ---- the sizes

pos_fits : (n : ℕ) → in_64 (pos n) ≡ true → n < 2 ^ 64
pos_fits n e = let h = leb-true n 9223372036854775807 e in omega (arith, h)

neg_fits : (n : ℕ) → in_64 (negsuc n) ≡ true → suc n < 2 ^ 64
neg_fits n e = let h = leb-true n 9223372036854775807 (and_parts (nat_le n 9223372036854775807) true e).0 in omega (arith, h)

-- ---- the value

pub number_again : (z : ℤ) → in_64 z ≡ true → number_value (signed_decimal z) ≡ z
number_again (pos n) h = digits_value (fmt.decimal n) (digits_decimal own n (pos_fits n h)) ∙ ap pos (digits_value-decimal own n (pos_fits n h))
number_again (negsuc n) h = ap (λ k. neg_ℤ (pos k)) (digits_value-decimal own (suc n) (neg_fits n h))

-- ---- the piece

pub number_alone : (z : ℤ) (rest : List ℕ) → in_64 z ≡ true → Before apart rest → first_piece (map class (signed_decimal z ++ rest)) ≡ Some (sorts.Number, length (signed_decimal z))
number_alone (pos n) rest h e = digits_alone (fmt.decimal n) rest (decimal_nonempty n (pos_fits n h)) (digits_decimal own n (pos_fits n h)) e
number_alone (negsuc n) rest h e = minus_alone (fmt.decimal (suc n)) rest (decimal_nonempty (suc n) (neg_fits n h)) (digits_decimal own (suc n) (neg_fits n h)) e

pub number_begins : (J : Class → Bool) (z : ℤ) (rest : List ℕ) → J Digit ≡ true → J Minus ≡ true → in_64 z ≡ true → Before J (signed_decimal z ++ rest)
number_begins J (pos n) rest j m h = digits_begin J (fmt.decimal n) rest j (decimal_nonempty n (pos_fits n h)) (digits_decimal own n (pos_fits n h))
number_begins J (negsuc n) rest j m h = m
