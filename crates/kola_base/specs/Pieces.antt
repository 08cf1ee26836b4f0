-- The pieces that a text is cut into: each byte has a class, each sort of piece is a pattern of classes, and at each place the longest piece is taken (longest match, or maximal munch).
use Rattle.std.specs.Prelude.{◌≡◌, ℕ, ◌<◌, ◌≤◌, List, [], ◌∷◌, length, take, map, Bool, true, false, nat_le, ◌==◌, ◌&&◌, ◌||◌, if◌then◌else◌, codes}
use Rattle.std.specs.List.{list_all, list_any}
use Rattle.kola_base.specs.declared.class.Class.{Class}
use Rattle.kola_base.specs.declared.class.Class.TheVariants.{Blank, LineEnd, Letter, Digit, Minus, Slash, Less, Greater, Equal, Bang, Bar, Quote, Backslash, Single, Other}
use Rattle.kola_base.specs.declared.scan.Sort.{Sort}
use Rattle.kola_base.specs.declared.scan.Sort.TheVariants as sorts

-- a byte from a to z
abbrev pub between : ℕ → ℕ → ℕ → Bool
between a z b = nat_le a b && nat_le b z

-- a byte of the list
abbrev pub one_of : List ℕ → ℕ → Bool
one_of bs b = list_any (λ x. b == x) bs

-- the class of the first test that passes
abbrev pub first_class : List (Bool × Class) → Class
first_class [] = Other
first_class (c ∷ cs) = if c.0 then c.1 else first_class cs

-- the tests of a byte, each with its class
abbrev pub tests : ℕ → List (Bool × Class)
tests b =
    (between 48 57 b, Digit)
    ∷ (between 97 122 b || between 65 90 b || (b == 95), Letter)
    ∷ ((b == 32) || (b == 9) || (b == 13), Blank)
    ∷ (b == 10, LineEnd)
    ∷ (b == 45, Minus)
    ∷ (b == 47, Slash)
    ∷ (b == 60, Less)
    ∷ (b == 62, Greater)
    ∷ (b == 61, Equal)
    ∷ (b == 33, Bang)
    ∷ (b == 124, Bar)
    ∷ (b == 34, Quote)
    ∷ (b == 92, Backslash)
    ∷ (one_of (codes "(){},;:.&~@*") b, Single)
    ∷ []

abbrev pub class : ℕ → Class
class b = first_class (tests b)

-- ---- the pieces

-- a byte of the class goes on a piece of the sort
abbrev pub goes_on : Sort → Class → Bool
goes_on sorts.Comment LineEnd = false
goes_on sorts.Comment _ = true
goes_on sorts.Word Letter = true
goes_on sorts.Word Digit = true
goes_on sorts.Number Digit = true
goes_on _ _ = false

-- Bytes of these classes end a string, and only the last of them does: a quote that is not taken. Where taken is true a backslash
-- takes the first of them; a line's end is never taken.
abbrev pub closes : Bool → List Class → Bool
closes taken [] = false
closes taken (LineEnd ∷ ks) = false
closes true (k ∷ ks) = closes false ks
closes false (Quote ∷ []) = true
closes false (Quote ∷ k ∷ ks) = false
closes false (Backslash ∷ ks) = closes true ks
closes false (k ∷ ks) = closes false ks

-- the classes of a piece of each sort
abbrev pub shape : Sort → List Class → Bool
shape sorts.Blank (Blank ∷ []) = true
shape sorts.Blank (LineEnd ∷ []) = true
shape sorts.Comment (Slash ∷ Slash ∷ ks) = list_all (goes_on sorts.Comment) ks
shape sorts.Word (Letter ∷ ks) = list_all (goes_on sorts.Word) ks
shape sorts.Number (Digit ∷ ks) = list_all (goes_on sorts.Number) ks
shape sorts.Number (Minus ∷ Digit ∷ ks) = list_all (goes_on sorts.Number) ks
shape sorts.Quoted (Quote ∷ ks) = closes false ks
shape sorts.Sign (Single ∷ []) = true
shape sorts.Sign (Less ∷ []) = true
shape sorts.Sign (Less ∷ Equal ∷ []) = true
shape sorts.Sign (Greater ∷ []) = true
shape sorts.Sign (Greater ∷ Equal ∷ []) = true
shape sorts.Sign (Equal ∷ []) = true
shape sorts.Sign (Bang ∷ Equal ∷ []) = true
shape sorts.Sign (Minus ∷ Greater ∷ []) = true
shape sorts.Sign (Bar ∷ []) = true
shape sorts.Sign (Bar ∷ Bar ∷ []) = true
shape _ _ = false

-- the bytes are a piece of the sort
abbrev pub piece : Sort → List ℕ → Bool
piece s bs = shape s (map class bs)

-- the first n bytes are a piece of the sort, and no more bytes are a piece
pub record IsLongest (s : Sort) (n : ℕ) (text : List ℕ) : Type 0 where
  pub within : n ≤ length text
  pub is : piece s (take n text) ≡ true
  pub longest : (r : Sort) (m : ℕ) → n < m → m ≤ length text → piece r (take m text) ≡ true → ⊥

-- no piece stands at the front
abbrev pub NoPiece : List ℕ → Type 0
NoPiece text = (r : Sort) (m : ℕ) → m ≤ length text → piece r (take m text) ≡ true → ⊥
