-- Functions on pairs of numbers that exchange both numbers, once or more often.
use Rattle.std.specs.Prelude.{◌≡◌}
use Rattle.kola_term.specs.Terms.{FunTree, FSnd, FFst, FPair, FComp}

-- `<snd, fst>`, and compositions of it
abbrev pub IsSwap : FunTree → Type 0
IsSwap (FPair f g) = (f ≡ FSnd) × (g ≡ FFst)
IsSwap (FComp f g) = IsSwap f × IsSwap g
IsSwap _ = ⊥
