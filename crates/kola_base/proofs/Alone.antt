-- Pieces that stand alone: nothing of what follows them goes on them.
use Rattle.std.proofs.Common.{◌≡◌, ℕ, suc, ◌+◌, ◌<◌, List, [], ◌∷◌, ◌++◌, length, map, Bool, true, false, cond, Some, refl, ap, ◌∙◌, arith}
use Rattle.std.specs.List.{list_all, prefix_len}
use Rattle.std.proofs.lemmas.Bool.{and_parts}
use Rattle.kola_base.specs.declared.class.Class.{Class}
use Rattle.kola_base.specs.declared.class.Class.TheVariants.{Letter, Digit, Minus, Less, Greater, Equal}
use Rattle.kola_base.specs.declared.scan.Sort.TheVariants as sorts
use Rattle.kola_base.specs.Pieces.{class, goes_on, shape, piece}
use Rattle.kola_base.specs.Scanning.{next_class, first_by, first_piece}
use Rattle.kola_base.proofs.Digits.{IsDigits}

-- the class of the first byte passes, or that of no piece where there is none
abbrev pub Before : (Class → Bool) → List ℕ → Type 0
Before K text = K (next_class (map class text)) ≡ true

-- what may stand behind `<` and leave it a sign of its own
abbrev pub opens : Class → Bool
opens Equal = false
opens _ = true

-- what goes on no word, no number and no sign of one byte
abbrev pub apart : Class → Bool
apart Letter = false
apart Digit = false
apart Equal = false
apart _ = true

no_letter : (k : Class) → apart k ≡ true → goes_on sorts.Word k ≡ false
no_letter Letter e = absurd cc
no_letter Digit e = absurd cc
no_letter Equal e = absurd cc
no_letter _ e = refl

no_digit : (k : Class) → apart k ≡ true → goes_on sorts.Number k ≡ false
no_digit Letter e = absurd cc
no_digit Digit e = absurd cc
no_digit Equal e = absurd cc
no_digit _ e = refl

-- ---- runs

run_ends : (p : Class → Bool) (rest : List ℕ) → p (next_class (map class rest)) ≡ false → prefix_len p (map class rest) ≡ 0
run_ends p [] e = refl
run_ends p (b ∷ rest) e = ap (λ q. cond q (1 + prefix_len p (map class rest)) 0) e

run_is : (p : Class → Bool) (bs rest : List ℕ) → list_all p (map class bs) ≡ true → p (next_class (map class rest)) ≡ false → prefix_len p (map class (bs ++ rest)) ≡ length bs
run_is p [] rest h e = run_ends p rest e
run_is p (b ∷ bs) rest h e =
    let k = and_parts (p (class b)) (list_all p (map class bs)) h in
    ap (λ q. cond q (1 + prefix_len p (map class (bs ++ rest))) 0) k.0
    ∙ ap (λ n. 1 + n) (run_is p bs rest k.1 e)
    ∙ (let one : 1 + length bs ≡ suc (length bs) = omega arith in one)

-- ---- words

word_at : (k : Class) (cs rest : List ℕ) → shape sorts.Word (k ∷ map class cs) ≡ true → Before apart rest → first_by k (next_class (map class (cs ++ rest))) (map class (cs ++ rest)) ≡ Some (sorts.Word, suc (length cs))
word_at Letter cs rest h e = ap (λ n. Some (sorts.Word, suc n)) (run_is (goes_on sorts.Word) cs rest h (no_letter (next_class (map class rest)) e))
word_at _ cs rest h e = absurd cc

pub word_alone : (bs rest : List ℕ) → piece sorts.Word bs ≡ true → Before apart rest → first_piece (map class (bs ++ rest)) ≡ Some (sorts.Word, length bs)
word_alone [] rest h e = absurd cc
word_alone (b ∷ cs) rest h e = word_at (class b) cs rest h e

-- what a word begins with passes where a letter does
letter_first : (J : Class → Bool) (k : Class) (ks : List Class) → J Letter ≡ true → shape sorts.Word (k ∷ ks) ≡ true → J k ≡ true
letter_first J Letter ks j h = j
letter_first J _ ks j h = absurd cc

pub word_begins : (J : Class → Bool) (bs rest : List ℕ) → J Letter ≡ true → piece sorts.Word bs ≡ true → Before J (bs ++ rest)
word_begins J [] rest j h = absurd cc
word_begins J (b ∷ cs) rest j h = letter_first J (class b) (map class cs) j h

-- ---- numbers

digit_at : (k : Class) (cs rest : List ℕ) → goes_on sorts.Number k ≡ true → IsDigits cs → Before apart rest → first_by k (next_class (map class (cs ++ rest))) (map class (cs ++ rest)) ≡ Some (sorts.Number, suc (length cs))
digit_at Digit cs rest k h e = ap (λ n. Some (sorts.Number, suc n)) (run_is (goes_on sorts.Number) cs rest h (no_digit (next_class (map class rest)) e))
digit_at _ cs rest k h e = absurd cc

pub digits_alone : (ds rest : List ℕ) → 0 < length ds → IsDigits ds → Before apart rest → first_piece (map class (ds ++ rest)) ≡ Some (sorts.Number, length ds)
digits_alone [] rest l h e = absurd (omega (arith, l))
digits_alone (d ∷ ds) rest l h e = let k = and_parts (goes_on sorts.Number (class d)) (list_all (goes_on sorts.Number) (map class ds)) h in digit_at (class d) ds rest k.0 k.1 e

-- behind a minus sign
minus_at : (k : Class) (ds rest : List ℕ) → goes_on sorts.Number k ≡ true → IsDigits ds → Before apart rest → first_by Minus k (k ∷ map class (ds ++ rest)) ≡ Some (sorts.Number, suc (suc (length ds)))
minus_at Digit ds rest k h e = ap (λ n. Some (sorts.Number, suc n)) (ap (λ n. 1 + n) (run_is (goes_on sorts.Number) ds rest h (no_digit (next_class (map class rest)) e)) ∙ (let one : 1 + length ds ≡ suc (length ds) = omega arith in one))
minus_at _ ds rest k h e = absurd cc

pub minus_alone : (ds rest : List ℕ) → 0 < length ds → IsDigits ds → Before apart rest → first_piece (map class ((45 ∷ ds) ++ rest)) ≡ Some (sorts.Number, length (45 ∷ ds))
minus_alone [] rest l h e = absurd (omega (arith, l))
minus_alone (d ∷ ds) rest l h e = let k = and_parts (goes_on sorts.Number (class d)) (list_all (goes_on sorts.Number) (map class ds)) h in minus_at (class d) ds rest k.0 k.1 e

digit_first : (J : Class → Bool) (k : Class) → J Digit ≡ true → goes_on sorts.Number k ≡ true → J k ≡ true
digit_first J Digit j h = j
digit_first J _ j h = absurd cc

pub digits_begin : (J : Class → Bool) (ds rest : List ℕ) → J Digit ≡ true → 0 < length ds → IsDigits ds → Before J (ds ++ rest)
digits_begin J [] rest j l h = absurd (omega (arith, l))
digits_begin J (d ∷ ds) rest j l h = digit_first J (class d) j (and_parts (goes_on sorts.Number (class d)) (list_all (goes_on sorts.Number) (map class ds)) h).0

-- ---- signs of one byte that others go on

less_at : (k : Class) (ks : List Class) → opens k ≡ true → first_by Less k ks ≡ Some (sorts.Sign, 1)
less_at Equal ks e = absurd cc
less_at _ ks e = refl

greater_at : (k : Class) (ks : List Class) → apart k ≡ true → first_by Greater k ks ≡ Some (sorts.Sign, 1)
greater_at Equal ks e = absurd cc
greater_at Letter ks e = absurd cc
greater_at Digit ks e = absurd cc
greater_at _ ks e = refl

pub less_alone : (rest : List ℕ) → Before opens rest → first_piece (map class (60 ∷ rest)) ≡ Some (sorts.Sign, 1)
less_alone rest e = less_at (next_class (map class rest)) (map class rest) e

pub greater_alone : (rest : List ℕ) → Before apart rest → first_piece (map class (62 ∷ rest)) ≡ Some (sorts.Sign, 1)
greater_alone rest e = greater_at (next_class (map class rest)) (map class rest) e
