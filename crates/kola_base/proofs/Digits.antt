-- What std reads in a number is the integer that it writes.
use Rattle.std.proofs.Common.{◌≡◌, ℕ, zero, suc, ◌<◌, ◌≤◌, List, [], ◌∷◌, length, get_or, drop, map, Bool, true, false, cond, ◌&&◌, ◌||◌, Result, Ok, Err, w64, refl, sym, ap, subst, ◌∙◌, arith, ◌⊎◌, inl, inr}
use Rattle.std.specs.Prelude.{ℤ, pos, neg_ℤ, nat_le, nat_eq, MatchOption, OkIff}
use Rattle.std.specs.List.{list_all, list_any}
use Rattle.std.specs.Int.{IsInRange}
use Rattle.std.specs.Str.{IsAscii, IsUtf8}
use Rattle.std.specs.Str.Parse.{ParsesSigned}
use Rattle.std.specs.Result.{result_ok}
use Rattle.std.proofs.Math.Bool.{or-false}
use Rattle.std.proofs.lemmas.Bool.{leb-true, le-leb, lt-leb, eqb-true, eq-eqb, ne_eqb, and_from, and_parts}
use Rattle.std.proofs.lemmas.Str.{IsUtf8-from_ascii}
use Rattle.std.proofs.lemmas.Str.Parse.{IsDigitsTest, IsNumeralModel, numerals_by_fold, parse_signed_minus, parse_signed_digits}
use Rattle.kola_base.specs.declared.class.Class.{Class}
use Rattle.kola_base.specs.declared.class.Class.TheVariants.{Digit, Minus, Other}
use Rattle.kola_base.specs.declared.scan.Sort.TheVariants as sorts
use Rattle.kola_base.specs.Pieces.{first_class, tests, class, goes_on, between, shape, piece}
use Rattle.kola_base.specs.Numbers.{decimal, number_value}
use Rattle.kola_core.specs.Integers.{in_64}

-- ---- the byte of a class

-- some test of the list passes, and its class passes p
abbrev Some : (Class → Bool) → List (Bool × Class) → Bool
Some p cs = list_any (λ c. cond (p c.1) c.0 false) cs

found_at : (p : Class → Bool) (cs : List (Bool × Class)) (t : Bool) (k : Class) (q : Bool) → p k ≡ q → p (cond t k (first_class cs)) ≡ true → (p (first_class cs) ≡ true → Some p cs ≡ true) → (cond q t false || Some p cs) ≡ true
found_at p cs true k true i e go = refl
found_at p cs true k false i e go = absurd (let x : true ≡ false = sym e ∙ i in cc)
found_at p cs false k true i e go = go e
found_at p cs false k false i e go = go e

-- where the class of a byte passes, so does one of its tests
pub found : (p : Class → Bool) (cs : List (Bool × Class)) → p Other ≡ false → p (first_class cs) ≡ true → Some p cs ≡ true
found p [] f e = absurd (let x : true ≡ false = sym e ∙ f in cc)
found p (c ∷ cs) f e = found_at p cs c.0 c.1 (p c.1) refl e (found p cs f)

digit_byte : (b : ℕ) → goes_on sorts.Number (class b) ≡ true → IsInRange 48 57 b
digit_byte b e =
    let t = found (goes_on sorts.Number) (tests b) refl e in
    let k = and_parts (nat_le 48 b) (nat_le b 57) (sym (or-false (between 48 57 b)) ∙ t) in
    (leb-true 48 b k.0, leb-true b 57 k.1)

byte_digit : (b : ℕ) → IsInRange 48 57 b → goes_on sorts.Number (class b) ≡ true
byte_digit b h = ap (λ t. goes_on sorts.Number (cond t Digit (first_class (drop 1 (tests b))))) (and_from (nat_le 48 b) (nat_le b 57) (le-leb 48 b h.0) (le-leb b 57 h.1))

abbrev is_minus : Class → Bool
is_minus Minus = true
is_minus _ = false

minus_byte : (b : ℕ) → class b ≡ Minus → b ≡ 45
minus_byte b e = eqb-true b 45 (sym (or-false (nat_eq b 45)) ∙ found is_minus (tests b) refl (ap is_minus e))

-- ---- digits

abbrev pub IsDigits : List ℕ → Type 0
IsDigits ds = list_all (goes_on sorts.Number) (map class ds) ≡ true

digits_test : IsDigitsTest IsDigits
digits_test = record {
  empty = refl;
  parts = λ c cs e. let k = and_parts (goes_on sorts.Number (class c)) (list_all (goes_on sorts.Number) (map class cs)) e in (digit_byte c k.0, k.1);
  more = λ c cs h e. and_from (goes_on sorts.Number (class c)) (list_all (goes_on sorts.Number) (map class cs)) (byte_digit c h) e;
}

pub own : IsNumeralModel IsDigits (decimal 0)
own = numerals_by_fold IsDigits digits_test decimal (record { empty = λ n. refl; more = λ n c cs h. refl })

ascii_digits : (ds : List ℕ) → IsDigits ds → IsAscii ds
ascii_digits [] h i = omega arith
ascii_digits (c ∷ cs) h zero = let k = (digits_test.parts c cs h).0 in omega (arith, k.1)
ascii_digits (c ∷ cs) h (suc i) = ascii_digits cs (digits_test.parts c cs h).1 i

-- ---- a number

-- digits, or a minus sign and digits
abbrev IsWritten : List ℕ → Type 0
IsWritten bs = ((0 < length bs) × IsDigits bs) ⊎ ((get_or bs 0 0 ≡ 45) × (0 < length (drop 1 bs)) × IsDigits (drop 1 bs))

written_digits : (k : Class) (c : ℕ) (bs : List ℕ) → class c ≡ k → shape sorts.Number (Minus ∷ k ∷ map class bs) ≡ true → IsDigits (c ∷ bs)
written_digits Digit c bs i e = ap (λ k. goes_on sorts.Number k && list_all (goes_on sorts.Number) (map class bs)) i ∙ e
written_digits _ c bs i e = absurd cc

written_at : (k : Class) (b : ℕ) (bs : List ℕ) → class b ≡ k → shape sorts.Number (k ∷ map class bs) ≡ true → IsWritten (b ∷ bs)
written_at Digit b bs i e = inl (omega arith, ap (λ k. goes_on sorts.Number k && list_all (goes_on sorts.Number) (map class bs)) i ∙ e)
written_at Minus b [] i e = absurd cc
written_at Minus b (c ∷ bs) i e = inr (minus_byte b i, omega arith, written_digits (class c) c bs refl e)
written_at _ b bs i e = absurd cc

written : (bs : List ℕ) → piece sorts.Number bs ≡ true → IsWritten bs
written [] e = absurd cc
written (b ∷ bs) e = written_at (class b) b bs refl e

pub digits_value : (bs : List ℕ) → IsDigits bs → number_value bs ≡ pos (decimal 0 bs)
digits_value [] h = refl
digits_value (b ∷ bs) h =
    let k = (digits_test.parts b bs h).0 in
    ap (λ q. cond q (neg_ℤ (pos (decimal 0 bs))) (pos (decimal 0 (b ∷ bs)))) (ne_eqb b 45 (λ e. omega (arith, k.0, e)))

minus_value : (bs : List ℕ) → get_or bs 0 0 ≡ 45 → number_value bs ≡ neg_ℤ (pos (decimal 0 (drop 1 bs)))
minus_value [] e = absurd (omega (arith, e))
minus_value (b ∷ bs) e = ap (λ q. cond q (neg_ℤ (pos (decimal 0 bs))) (pos (decimal 0 (b ∷ bs)))) (eq-eqb b 45 e)

minus_ascii : (bs : List ℕ) → get_or bs 0 0 ≡ 45 → IsDigits (drop 1 bs) → IsAscii bs
minus_ascii [] e h i = omega arith
minus_ascii (b ∷ bs) e h zero = omega (arith, e)
minus_ascii (b ∷ bs) e h (suc i) = ascii_digits bs h i

pub number_text : (bs : List ℕ) → piece sorts.Number bs ≡ true → IsUtf8 bs
number_text bs e = elim (written bs e) [
  | inl x ↦ IsUtf8-from_ascii bs (ascii_digits bs x.1)
  | inr x ↦ IsUtf8-from_ascii bs (minus_ascii bs x.0 x.2)
]

-- ---- the range

pos_in : (n : ℕ) → n < 9223372036854775808 → in_64 (pos n) ≡ true
pos_in n h = le-leb n 9223372036854775807 (omega (arith, h))

pos_out : (n : ℕ) → (n < 9223372036854775808 → ⊥) → in_64 (pos n) ≡ false
pos_out n h = lt-leb n 9223372036854775807 (omega arith)

neg_in : (n : ℕ) → n ≤ 9223372036854775808 → in_64 (neg_ℤ (pos n)) ≡ true
neg_in zero h = refl
neg_in (suc n) h = ap (λ q. q && true) (le-leb n 9223372036854775807 (omega (arith, h)))

neg_out : (n : ℕ) → (n ≤ 9223372036854775808 → ⊥) → in_64 (neg_ℤ (pos n)) ≡ false
neg_out zero h = absurd (h (omega arith))
neg_out (suc n) h = ap (λ q. q && true) (lt-leb n 9223372036854775807 (omega arith))

-- what is read is the value where that is in range, and nothing else is read
abbrev IsRead : ℤ → {E : Type 0} → Result ℤ E → Type 0
IsRead v r = MatchOption (result_ok r) (in_64 v ≡ false) (λ z. (in_64 v ≡ true) × (z ≡ v))

settled : {E : Type 0} (r : Result ℤ E) (P : Type 0) (v : ℤ) → OkIff r P v → (P → in_64 v ≡ true) → ((P → ⊥) → in_64 v ≡ false) → IsRead v r
settled (Ok x) P v h f g = (f h.0, h.1)
settled (Err e) P v h f g = g h

pub number_read : {E : Type 0} (bs : List ℕ) (r : Result ℤ E) → piece sorts.Number bs ≡ true → ParsesSigned w64 10 bs r → IsRead (number_value bs) r
number_read bs r e h = elim (written bs e) [
  | inl x ↦ subst (λ v. IsRead v r) (sym (digits_value bs x.1)) (settled r _ _ (parse_signed_digits own w64 bs r h x.1) (λ p. pos_in (decimal 0 bs) p.1) (λ f. pos_out (decimal 0 bs) (λ l. f (x.0, l))))
  | inr x ↦ subst (λ v. IsRead v r) (sym (minus_value bs x.0)) (settled r _ _ (parse_signed_minus own w64 bs r h x.0) (λ p. neg_in (decimal 0 (drop 1 bs)) p.2) (λ f. neg_out (decimal 0 (drop 1 bs)) (λ l. f (x.2, x.1, l))))
]
