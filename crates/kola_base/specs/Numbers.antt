-- The integer that a number writes.
use Rattle.std.specs.Prelude.{ℕ, ℤ, pos, neg_ℤ, ◌+◌, ◌*◌, ◌-◌, List, [], ◌∷◌, ◌==◌, if◌then◌else◌}

-- the number that is written by these decimal digits behind those of n
abbrev pub decimal : ℕ → List ℕ → ℕ
decimal n [] = n
decimal n (d ∷ ds) = decimal (n * 10 + (d - 48)) ds

-- decimal digits, behind a minus sign where the integer is negative
abbrev pub number_value : List ℕ → ℤ
number_value [] = pos 0
number_value (b ∷ bs) = if b == 45 then neg_ℤ (pos (decimal 0 bs)) else pos (decimal 0 (b ∷ bs))
