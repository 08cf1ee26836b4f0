-- The lines of a text are those of std, and they cover it.
use Rattle.std.proofs.Common.{◌≡◌, ℕ, ◌+◌, Bool, true, false, cond, eqb, List, [], ◌∷◌, ◌++◌, length, refl, ap, subst, arith}
use Rattle.std.specs.Prelude.{map}
use Rattle.std.specs.List.{slice_split, join_with_byte}
use Rattle.std.specs.Str.Lines.{lines, lines_of_parts, strip_carriage_return}
use Rattle.std.proofs.lemmas.Bool.{eqb-true, eqb-false}
use Rattle.std.proofs.lemmas.List.{length-append}
use Rattle.std.proofs.lemmas.List.Splits.{join_with_byte-slice_split}
use Rattle.kola_top.specs.Layout.{Line, lines_at, lines_from, lines_of, AreInARow}

bytes_at : (at : ℕ) (parts : List (List ℕ)) → map (λ (l : Line). l.bytes) (lines_at at parts) ≡ lines_of_parts parts
bytes_at at [] = refl
bytes_at at (x ∷ []) = last (eqb (length x) 0)
  where
    last : (q : Bool) → map (λ (l : Line). l.bytes) (cond q [] (record { bytes = x; from = at; next = at + length x } ∷ [])) ≡ cond q [] (x ∷ [])
    last true = refl
    last false = refl
bytes_at at (x ∷ y ∷ more) = ap (λ ls. strip_carriage_return x ∷ ls) (bytes_at (at + length x + 1) (y ∷ more))

pub bytes_of : (job : List ℕ) → map (λ (l : Line). l.bytes) (lines_of job) ≡ lines job
unfolding lines_from
bytes_of job = bytes_at 0 (slice_split (λ b. eqb b 10) job)

row_at : (at : ℕ) (parts : List (List ℕ)) → AreInARow at (at + length (join_with_byte 10 parts)) (lines_at at parts)
row_at at [] = omega arith
row_at at (x ∷ []) = last (eqb (length x) 0) refl
  where
    last : (q : Bool) → eqb (length x) 0 ≡ q → AreInARow at (at + length x) (cond q [] (record { bytes = x; from = at; next = at + length x } ∷ []))
    last true e = omega (arith, eqb-true _ _ e)
    last false e = (refl, omega (arith, eqb-false (length x) 0 e), refl)
row_at at (x ∷ y ∷ more) =
    let rest = join_with_byte 10 (y ∷ more) in
    let size : at + length x + 1 + length rest ≡ at + length (x ++ (10 ∷ rest)) = omega (arith, length-append x (10 ∷ rest)) in
    (refl, omega arith, subst (λ n. AreInARow (at + length x + 1) n (lines_at (at + length x + 1) (y ∷ more))) size (row_at (at + length x + 1) (y ∷ more)))

pub row_of : (job : List ℕ) → AreInARow 0 (length job) (lines_of job)
unfolding lines_from
row_of job =
    let size : 0 + length (join_with_byte 10 (slice_split (λ b. eqb b 10) job)) ≡ length job = omega (arith, ap length (join_with_byte-slice_split 10 job)) in
    subst (λ n. AreInARow 0 n (lines_of job)) size (row_at 0 (slice_split (λ b. eqb b 10) job))
