-- What the readers of each level read, where each step from one level to the next does.
use Rattle.std.proofs.Common.{ℕ, zero, suc, Option, Some, None}
use Rattle.kola_parse.specs.Levels.{below}
use Rattle.kola_parse.proofs.KindLaws.{Inside, bare, first, both}

module _ {I : Type 0} (Level : Type 0 → I → I → ℕ → ℕ → Type 0) (step : Option I → I)
    (each : (On : Type 0) (o o' : Option I) (n m : ℕ) → Inside Level On o o' n m → Level On (step o) (step o') n m) where
  -- what stands below two levels that follow each other
  pub below_level : (d : ℕ) → Inside Level (Unit {0}) (below step d) (below step (suc d)) d (suc d)
  below_level zero = first (step None) zero (each ⊥ None None zero zero (bare (λ h. h)))
  below_level (suc d) = both (step (below step d)) (step (below step (suc d))) d (suc d) (each _ _ _ _ _ (below_level d))

  pub levels : (d : ℕ) → Level (Unit {0}) (step (below step d)) (step (below step (suc d))) d (suc d)
  levels d = each _ _ _ _ _ (below_level d)
