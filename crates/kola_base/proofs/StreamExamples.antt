-- The definitions at small values.
use Rattle.std.proofs.Common.{◌≡◌, ◌-◌, ◌^◌, [], ◌∷◌, ◌++◌, true, false, None, Some, Err, refl, lit≤, lit<, arith}
use Rattle.std.specs.Prelude.{codes}
use Rattle.kola_base.specs.declared.reading.ReadAllFault.TheVariants.{TooLong}
use Rattle.kola_base.specs.Causes.{Rose}
use Rattle.kola_base.specs.Streams.{Reads, Writes}
use Rattle.kola_base.specs.ReadToEnd.{IsAnswer, AnswersTo}
use Rattle.kola_base.specs.Scripts.{counted, unplayed, played, share, fitting}

risen : Rose 3 4
risen = lit≤ tt

-- at the end of the type the count can rise no more
at_the_end : Rose (2 ^ 64 - 1) (2 ^ 64 - 1)
at_the_end = lit≤ tt

not_risen : Rose 3 3 → ⊥
not_risen rose = omega arith

-- over a source whose count is constantly 0 no read fails
steady : Rose 0 0 → ⊥
steady rose = omega arith

read_front : Reads (Some (codes "query")) (Some (codes "ry")) (codes "que" ++ 0 ∷ []) 3
read_front = record { fits = lit≤ tt; taken = refl; end = λ room. (λ none. cc, λ none. cc) }

untold_read : Reads None None (codes "que") 2
untold_read = record { fits = lit≤ tt; taken = refl; end = λ room. tt }

wrote_front : Writes (Some (codes "ok")) (Some (codes "ok: tru")) (codes ": true") 5
wrote_front = record { fits = lit≤ tt; some = λ any. lit< tt; added = refl }

too_long : IsAnswer 4 (codes "query") (Some (codes "...")) (Err TooLong)
too_long = refl

too_long_for : AnswersTo 4 (codes "query") (Err TooLong)
too_long_for = lit< tt

-- 8 bytes a call, into a larger buffer
eight : share (record { left = codes "select distinct"; piece = 8 }) 64 ≡ 8
eight = refl

-- and the last 7 of 15
seven : share (record { left = codes "istinct"; piece = 8 }) 64 ≡ 7
seven = refl

-- 7 bytes a call
first_write : fitting (record { written = []; room = 64; piece = 7; script = unplayed (2 ∷ []) }) 40 ≡ 7
first_write = refl

-- a room of 10 has 3 left
last_write : fitting (record { written = codes "query: "; room = 10; piece = 7; script = unplayed [] }) 40 ≡ 3
last_write = refl

-- the second call fails
first_call : played (unplayed (2 ∷ [])) false ≡ record { fails = 2 ∷ []; calls = 1; faults = 0 }
first_call = refl

second_call : played (played (unplayed (2 ∷ [])) false) true ≡ record { fails = 2 ∷ []; calls = 2; faults = 1 }
second_call = refl

last_count : counted (2 ^ 64 - 1) ≡ 2 ^ 64 - 1
last_count = refl
