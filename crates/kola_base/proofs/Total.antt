-- Each text has tokens or a fault.
use Rattle.std.proofs.Common.{◌≡◌, ℕ, zero, suc, ◌+◌, ◌<◌, ◌≤◌, List, [], ◌∷◌, ◌++◌, length, take, drop, map, Bool, true, false, Option, Some, None, Ok, Err, cond, option_map, refl, ap, sym, subst, ◌∙◌, arith, ◌⊎◌, inl, inr}
use Rattle.std.specs.Prelude.{IfSome, IfNone, nat_lt}
use Rattle.std.specs.Str.Lossy.{utf8_valid_len}
use Rattle.std.proofs.lemmas.List.{length-drop, drop-drop}
use Rattle.kola_base.specs.declared.scan.Sort.{Sort}
use Rattle.kola_base.specs.declared.scan.Sort.TheVariants as sorts
use Rattle.kola_base.specs.declared.lex.Token.{Token}
use Rattle.kola_base.specs.declared.lex.LexWhy.{LexWhy}
use Rattle.kola_base.specs.declared.lex.LexWhy.TheVariants.{BadByte, OpenString, NumberTooLarge, BadEscape, NotUtf8}
use Rattle.kola_base.specs.Numbers.{number_value}
use Rattle.kola_core.specs.Integers.{in_64}
use Rattle.kola_base.specs.Strings.{begins_with, string_fault, content_fault, first_fault, written, Written, inside}
use Rattle.kola_base.specs.Pieces.{class, IsLongest, NoPiece}
use Rattle.kola_base.specs.Scanning.{first_piece}
use Rattle.kola_base.specs.Tokens.{IsSound, Cuts, tokens_of, end_at, AreTokens, IsStuck, StopsAt}
use Rattle.kola_base.proofs.Longest.{some_longest, none_piece}
use Rattle.kola_base.proofs.OneCut.{has_byte}
use Rattle.kola_base.proofs.Cutting.{total}

-- pieces of all the text, or of what stands before a fault
abbrev Outcome : List ℕ → Type 0
Outcome text = ((ps : List (Sort × ℕ)) × Cuts ps text []) ⊎ ((ps : List (Sort × ℕ)) × (rest : List ℕ) × (behind : ℕ) × (why : LexWhy) × Cuts ps text rest × IsStuck rest behind why)

-- a sound piece before them
first : (text : List ℕ) (s : Sort) (n : ℕ) → IsLongest s n text → IsSound s (take n text) → Outcome (drop n text) → Outcome text
first text s n l h o = elim o [
  | inl x ↦ inl ((s, n) ∷ x.0, (l, h, x.1))
  | inr x ↦ inr ((s, n) ∷ x.0, x.1, x.2, x.3, (l, h, x.4), x.5)
]

number_next : (text : List ℕ) (n : ℕ) (q : Bool) → in_64 (number_value (take n text)) ≡ q → IsLongest sorts.Number n text → Outcome (drop n text) → Outcome text
number_next text n true e l o = first text sorts.Number n l e o
number_next text n false e l o = inr ([], text, 0, NumberTooLarge, refl, (refl, n, l, e))

-- the fault of a string is one of the two
abbrev is_inner : LexWhy → Bool
is_inner BadEscape = true
is_inner NotUtf8 = true
is_inner _ = false

abbrev is_inner_fault : Option (ℕ × LexWhy) → Bool
is_inner_fault None = true
is_inner_fault (Some f) = is_inner f.1

chosen : (q : Bool) (f : ℕ × LexWhy) (o : Option (ℕ × LexWhy)) → is_inner f.1 ≡ true → is_inner_fault o ≡ true → is_inner_fault (cond q (Some f) o) ≡ true
chosen true f o e i = e
chosen false f o e i = i

inner_first : (w : Written) (valid all : ℕ) → is_inner_fault (first_fault w valid all) ≡ true
inner_first (Ok v) valid all = chosen (nat_lt valid all) (valid, NotUtf8) None refl refl
inner_first (Err k) valid all = chosen (nat_lt valid k) (valid, NotUtf8) (Some (k, BadEscape)) refl refl

moved : (o : Option (ℕ × LexWhy)) → is_inner_fault o ≡ true → is_inner_fault (option_map (λ f. (suc f.0, f.1)) o) ≡ true
moved None e = refl
moved (Some f) e = e

inner_cause : (bs : List ℕ) (k : ℕ) (y : LexWhy) → string_fault bs ≡ Some (k, y) → is_inner y ≡ true
inner_cause bs k y e =
    let content = inside bs in
    sym (ap is_inner_fault e) ∙ moved (content_fault content) (inner_first (written 0 content) (utf8_valid_len content) (length content))

pub string_stuck : (text : List ℕ) (n k : ℕ) (y : LexWhy) → IsLongest sorts.Quoted n text → string_fault (take n text) ≡ Some (k, y) → IsStuck text k y
string_stuck text n k BadEscape l e = (n, l, e)
string_stuck text n k NotUtf8 l e = (n, l, e)
string_stuck text n k y l e = absurd (let h = inner_cause (take n text) k y e in cc)

string_next : (text : List ℕ) (n : ℕ) (o : Option (ℕ × LexWhy)) → string_fault (take n text) ≡ o → IsLongest sorts.Quoted n text → Outcome (drop n text) → Outcome text
string_next text n None e l o = first text sorts.Quoted n l e o
string_next text n (Some f) e l o = inr ([], text, f.0, f.1, refl, string_stuck text n f.0 f.1 l e)

sort_next : (text : List ℕ) (s : Sort) (n : ℕ) → IsLongest s n text → Outcome (drop n text) → Outcome text
sort_next text sorts.Number n l o = number_next text n (in_64 (number_value (take n text))) refl l o
sort_next text sorts.Quoted n l o = string_next text n (string_fault (take n text)) refl l o
sort_next text sorts.Blank n l o = first text sorts.Blank n l tt o
sort_next text s n l o = first text s n l tt o

no_piece : (text : List ℕ) (q : Bool) → begins_with 34 text ≡ q → 0 < length text → NoPiece text → (ps : List (Sort × ℕ)) × (rest : List ℕ) × (behind : ℕ) × (why : LexWhy) × Cuts ps text rest × IsStuck rest behind why
no_piece text true e some none = ([], text, 0, OpenString, refl, (refl, none, e))
no_piece text false e some none = ([], text, 0, BadByte, refl, (refl, some, none, e))

next : (text : List ℕ) (z : Option (Sort × ℕ)) → 0 < length text → IfSome z (λ p. IsLongest p.0 p.1 text) → IfNone z (NoPiece text) → ((n : ℕ) → 0 < n → Outcome (drop n text)) → Outcome text
next text None some long stuck go = inr (no_piece text (begins_with 34 text) refl some stuck)
next text (Some p) some long stuck go = sort_next text p.0 p.1 long (go p.1 (has_byte p.0 p.1 text long))

-- texts of at most so many bytes
outcome : (fuel : ℕ) (text : List ℕ) → length text ≤ fuel → Outcome text
outcome fuel [] l = inl ([], refl)
outcome zero (b ∷ bs) l = absurd (omega (arith, l))
outcome (suc fuel) (b ∷ bs) l = next (b ∷ bs) (first_piece (map class (b ∷ bs))) (omega arith)
    (some_longest (b ∷ bs) (first_piece (map class (b ∷ bs))) refl)
    (none_piece (b ∷ bs) (first_piece (map class (b ∷ bs))) refl)
    (λ n some. outcome fuel (drop n (b ∷ bs)) (omega (arith, length-drop n (b ∷ bs), l, some)))

-- what is left stands behind the pieces
rest_is : (ps : List (Sort × ℕ)) (text rest : List ℕ) → Cuts ps text rest → rest ≡ drop (total ps) text
rest_is [] text rest h = sym h
rest_is (p ∷ ps) text rest h = rest_is ps (drop p.1 text) rest h.2 ∙ drop-drop (total ps) p.1 text

pub tokens_or_fault : (text : List ℕ) → ((ts : List Token) × AreTokens ts text) ⊎ ((at : ℕ) × (why : LexWhy) × StopsAt text at why)
tokens_or_fault text = elim (outcome (length text) text (omega arith)) [
  | inl x ↦ inl (tokens_of 0 x.0 ++ end_at (length text) ∷ [], record { pieces = x.0; all = x.1; are = refl })
  | inr x ↦ let e = rest_is x.0 text x.1 x.4 in inr (total x.0 + x.2, x.3, record { pieces = x.0; from = total x.0; behind = x.2; before = subst (Cuts x.0 text) e x.4; stuck = subst (λ r. IsStuck r x.2 x.3) e x.5; is = refl })
]
