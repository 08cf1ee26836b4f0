-- Truth values.
use Rattle.std.proofs.Common.{◌≡◌, Bool, true, false, not, ◌||◌, refl}

pub both_false : (a b : Bool) → (a || b) ≡ false → (a ≡ false) × (b ≡ false)
both_false false b h = (refl, h)
both_false true b h = absurd (cc)

pub not_true : (b : Bool) → not b ≡ true → b ≡ false
not_true false h = refl
not_true true h = absurd (cc)
