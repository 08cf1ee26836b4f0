-- A word is text of ASCII.
use Rattle.std.proofs.Common.{◌≡◌, ℕ, zero, suc, ◌<◌, List, [], ◌∷◌, map, true, ◌&&◌, refl, ap, ◌∙◌, arith}
use Rattle.std.specs.List.{list_all}
use Rattle.std.specs.Str.{IsAscii, IsUtf8}
use Rattle.std.proofs.lemmas.Bool.{and_parts}
use Rattle.std.proofs.lemmas.Bool.Decides.{nat_tests}
use Rattle.std.proofs.lemmas.Str.{IsUtf8-from_ascii}
use Rattle.kola_base.specs.declared.class.Class.{Class}
use Rattle.kola_base.specs.declared.class.Class.TheVariants.{Letter}
use Rattle.kola_base.specs.declared.scan.Sort.TheVariants as sorts
use Rattle.kola_base.specs.Pieces.{tests, class, goes_on, shape, piece}
use Rattle.kola_base.proofs.Digits.{found}

word_byte : (b : ℕ) → goes_on sorts.Word (class b) ≡ true → b < 128
word_byte b e = let t = found (goes_on sorts.Word) (tests b) refl e in grind (arith, nat_tests)

word_bytes : (bs : List ℕ) → list_all (goes_on sorts.Word) (map class bs) ≡ true → IsAscii bs
word_bytes [] h i = omega arith
word_bytes (b ∷ bs) h zero = word_byte b (and_parts (goes_on sorts.Word (class b)) (list_all (goes_on sorts.Word) (map class bs)) h).0
word_bytes (b ∷ bs) h (suc i) = word_bytes bs (and_parts (goes_on sorts.Word (class b)) (list_all (goes_on sorts.Word) (map class bs)) h).1 i

word_at : (k : Class) (b : ℕ) (bs : List ℕ) → class b ≡ k → shape sorts.Word (k ∷ map class bs) ≡ true → list_all (goes_on sorts.Word) (map class (b ∷ bs)) ≡ true
word_at Letter b bs i e = ap (λ k. goes_on sorts.Word k && list_all (goes_on sorts.Word) (map class bs)) i ∙ e
word_at _ b bs i e = absurd cc

pub word_utf8 : (bs : List ℕ) → piece sorts.Word bs ≡ true → IsUtf8 bs
word_utf8 [] e = absurd cc
word_utf8 (b ∷ bs) e = IsUtf8-from_ascii (b ∷ bs) (word_bytes (b ∷ bs) (word_at (class b) b bs refl e))
