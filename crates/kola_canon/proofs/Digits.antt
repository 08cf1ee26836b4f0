-- Decimal digits written one after another, the last one last, and the sign before them.
use Rattle.std.proofs.Common.{◌≡◌, ℕ, ◌+◌, ◌/◌, ◌%◌, ◌^◌, ◌<◌, ◌≤◌, List, [], ◌∷◌, ◌++◌, sym, ap, ◌∙◌, decimal}
use Rattle.std.proofs.lemmas.Fmt.{decimal_step}
use Rattle.std.proofs.lemmas.List.{append_assoc}

pub last_digit : (done : List ℕ) (n : ℕ) → 10 ≤ n → n < 2 ^ 64 → (done ++ decimal (n / 10)) ++ (48 + n % 10) ∷ [] ≡ done ++ decimal n
last_digit done n p q = append_assoc done (decimal (n / 10)) ((48 + n % 10) ∷ []) ∙ ap (λ l. done ++ l) (sym (decimal_step n p q))
