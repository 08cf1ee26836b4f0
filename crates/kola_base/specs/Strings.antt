-- What stands between the quotes of a string: the bytes that it writes, and its first fault.
use Rattle.std.specs.Prelude.{ℕ, zero, suc, ◌+◌, ◌*◌, ◌-◌, Bool, false, nat_le, nat_lt, ◌==◌, ◌&&◌, cond, List, [], ◌∷◌, ◌++◌, length, take, drop, Option, Some, None, option_map, Result, Ok, Err}
use Rattle.std.specs.List.{prefix_len}
use Rattle.std.specs.Char.{encode_utf8, digit_value}
use Rattle.std.specs.Str.Lossy.{utf8_valid_len}
use lib.Utf8.{scalar}
use Rattle.kola_base.specs.declared.lex.LexWhy.{LexWhy}
use Rattle.kola_base.specs.declared.lex.LexWhy.TheVariants.{BadEscape, NotUtf8}

-- ---- escapes: how many bytes one has behind its backslash, and the character that it names

abbrev pub is_hex : ℕ → Bool
is_hex b = nat_lt (digit_value b) 16

-- the number that is written by these hexadecimal digits behind those of n
abbrev pub hexadecimal : ℕ → List ℕ → ℕ
hexadecimal n [] = n
hexadecimal n (d ∷ ds) = hexadecimal (n * 16 + digit_value d) ds

abbrev pub begins_with : ℕ → List ℕ → Bool
begins_with c [] = false
begins_with c (b ∷ bs) = b == c

-- the character of a number that is a Unicode scalar value
abbrev pub character : ℕ → Option ℕ
character c = cond (scalar c) (Some c) None

-- one to six digits, then a closing brace
abbrev pub named : ℕ → List ℕ → Option (ℕ × ℕ)
named k bs = cond (nat_le 1 k && nat_le k 6) (cond (begins_with 125 (drop k bs)) (option_map (λ c. (k + 3, c)) (character (hexadecimal 0 (take k bs)))) None) None

-- behind `\u`
abbrev pub braced : List ℕ → Option (ℕ × ℕ)
braced [] = None
braced (b ∷ bs) = cond (b == 123) (named (prefix_len is_hex bs) bs) None

-- a quote, a backslash, a line feed and a tab
abbrev pub simple_escape : ℕ → Option ℕ
simple_escape b = cond (b == 34) (Some 34) (cond (b == 92) (Some 92) (cond (b == 110) (Some 10) (cond (b == 116) (Some 9) None)))

abbrev pub escape : List ℕ → Option (ℕ × ℕ)
escape [] = None
escape (b ∷ bs) = cond (b == 117) (braced bs) (option_map (λ c. (1, c)) (simple_escape b))

-- ---- the bytes that are written, or the place of the first backslash that begins no escape

abbrev pub Written : Type 0
Written = Result (List ℕ) ℕ

-- behind n bytes that write w
abbrev pub behind : ℕ → List ℕ → Written → Written
behind n w (Ok v) = Ok (w ++ v)
behind n w (Err k) = Err (n + k)

abbrev pub at_escape : Option (ℕ × ℕ) → (ℕ → Written) → Written
at_escape None go = Err 0
at_escape (Some e) go = behind 1 (encode_utf8 e.1) (go e.0)

-- from left to right, behind n bytes of an escape
abbrev pub written : ℕ → List ℕ → Written
written n [] = Ok []
written (suc n) (b ∷ bs) = behind 1 [] (written n bs)
written zero (b ∷ bs) = cond (b == 92) (at_escape (escape bs) (λ n. written n bs)) (behind 1 (b ∷ []) (written 0 bs))

-- what comes first: how many bytes it has, and what it writes; a byte that is no backslash writes itself
abbrev pub front : List ℕ → Option (ℕ × Option (List ℕ))
front [] = None
front (b ∷ bs) = cond (b == 92) (option_map (λ e. (suc e.0, Some (encode_utf8 e.1))) (escape bs)) (Some (1, None))

-- ---- a whole string

-- the bytes between the quotes
abbrev pub inside : List ℕ → List ℕ
inside bs = take (length bs - 2) (drop 1 bs)

abbrev pub bytes_written : Written → List ℕ
bytes_written (Ok v) = v
bytes_written (Err k) = []

-- the bytes that a string writes
abbrev pub string_value : List ℕ → List ℕ
string_value bs = bytes_written (written 0 (inside bs))

-- the first of a bad escape and of the first byte that is of no UTF-8 character, where there is one
abbrev pub first_fault : Written → ℕ → ℕ → Option (ℕ × LexWhy)
first_fault (Ok v) valid all = cond (nat_lt valid all) (Some (valid, NotUtf8)) None
first_fault (Err k) valid all = cond (nat_lt valid k) (Some (valid, NotUtf8)) (Some (k, BadEscape))

abbrev pub content_fault : List ℕ → Option (ℕ × LexWhy)
content_fault bs = first_fault (written 0 bs) (utf8_valid_len bs) (length bs)

-- the first fault of a string, by its place in it
abbrev pub string_fault : List ℕ → Option (ℕ × LexWhy)
string_fault bs = option_map (λ f. (suc f.0, f.1)) (content_fault (inside bs))
