-- A text cut into its longest pieces: its tokens, and its first lexical fault.
use Rattle.std.specs.Prelude.{◌≡◌, ℕ, ◌+◌, ◌<◌, ◌≤◌, List, [], ◌∷◌, ◌++◌, length, take, drop, true, false, Option, Some, None, slice_range}
use Rattle.kola_base.specs.declared.scan.Sort.{Sort}
use Rattle.kola_base.specs.declared.scan.Sort.TheVariants as sorts
use Rattle.kola_base.specs.declared.lex.Kind.{Kind}
use Rattle.kola_base.specs.declared.lex.Kind.TheVariants as kinds
use Rattle.kola_base.specs.declared.lex.Token.{Token}
use Rattle.kola_base.specs.declared.lex.LexWhy.{LexWhy}
use Rattle.kola_base.specs.declared.lex.LexWhy.TheVariants.{BadByte, OpenString, BadEscape, NumberTooLarge, NotUtf8}
use Rattle.kola_base.specs.declared.lex.LexFault.{LexFault}
use Rattle.kola_base.specs.declared.lex.LexFault.TheVariants.{At, Memory}
use Rattle.kola_base.specs.Numbers.{number_value}
use Rattle.kola_core.specs.Integers.{in_64}
use Rattle.kola_base.specs.Strings.{string_fault, begins_with}
use Rattle.kola_base.specs.Pieces.{piece, IsLongest, NoPiece}

-- ---- cuts

-- a piece of the sort has no fault inside: a number is one of 64 bits, a string has its escapes and is UTF-8
abbrev pub IsSound : Sort → List ℕ → Type 0
IsSound sorts.Number bs = in_64 (number_value bs) ≡ true
IsSound sorts.Quoted bs = string_fault bs ≡ None
IsSound _ bs = Unit {0}

-- the text is these pieces, each of so many bytes and the longest one at its place, and then the rest
abbrev pub Cuts : List (Sort × ℕ) → List ℕ → List ℕ → Type 0
Cuts [] text rest = text ≡ rest
Cuts (p ∷ ps) text rest = IsLongest p.0 p.1 text × IsSound p.0 (take p.1 text) × Cuts ps (drop p.1 text) rest

-- ---- tokens

-- blanks and comments are no tokens
abbrev pub kind_of : Sort → Option Kind
kind_of sorts.Blank = None
kind_of sorts.Comment = None
kind_of sorts.Word = Some kinds.Word
kind_of sorts.Number = Some kinds.Number
kind_of sorts.Quoted = Some kinds.Quoted
kind_of sorts.Sign = Some kinds.Sign

abbrev pub token_of : Option Kind → ℕ → ℕ → List Token
token_of None from to = []
token_of (Some k) from to = record { kind = k; from = from; to = to } ∷ []

-- the tokens of pieces that begin at a place
abbrev pub tokens_of : ℕ → List (Sort × ℕ) → List Token
tokens_of at [] = []
tokens_of at (p ∷ ps) = token_of (kind_of p.0) at (at + p.1) ++ tokens_of (at + p.1) ps

-- the token of the end
abbrev pub end_at : ℕ → Token
end_at at = record { kind = kinds.End; from = at; to = at }

-- the pieces of all the text give the tokens, and the end comes last
pub record AreTokens (ts : List Token) (text : List ℕ) : Type 0 where
  pub pieces : List (Sort × ℕ)
  pub all : Cuts pieces text []
  pub are : ts ≡ tokens_of 0 pieces ++ end_at (length text) ∷ []

-- ---- faults

-- a string at the front of the rest has this fault, n bytes behind its first one
abbrev pub InString : List ℕ → ℕ → LexWhy → Type 0
InString rest n why = (m : ℕ) × IsLongest sorts.Quoted m rest × (string_fault (take m rest) ≡ Some (n, why))

-- no piece stands at the front of the rest, or the one that does has a fault, n bytes behind its first one
abbrev pub IsStuck : List ℕ → ℕ → LexWhy → Type 0
IsStuck rest n BadByte = (n ≡ 0) × (0 < length rest) × NoPiece rest × (begins_with 34 rest ≡ false)
IsStuck rest n OpenString = (n ≡ 0) × NoPiece rest × (begins_with 34 rest ≡ true)
IsStuck rest n NumberTooLarge = (n ≡ 0) × (m : ℕ) × IsLongest sorts.Number m rest × (in_64 (number_value (take m rest)) ≡ false)
IsStuck rest n BadEscape = InString rest n BadEscape
IsStuck rest n NotUtf8 = InString rest n NotUtf8

-- pieces lead to a place, and nothing goes on there, for a fault that many bytes behind it
pub record StopsAt (text : List ℕ) (at : ℕ) (why : LexWhy) : Type 0 where
  pub pieces : List (Sort × ℕ)
  pub from : ℕ
  pub behind : ℕ
  pub before : Cuts pieces text (drop from text)
  pub stuck : IsStuck (drop from text) behind why
  pub is : at ≡ from + behind

-- a fault that is answered is the text's
abbrev pub IsFaultOf : List ℕ → LexFault → Type 0
IsFaultOf text Memory = Unit {0}
IsFaultOf text (At at why) = StopsAt text at why

-- ---- one token

-- the bytes of a token
abbrev pub bytes_of : List ℕ → Token → List ℕ
bytes_of text t = slice_range text t.from t.to

abbrev pub IsOfKind : Kind → List ℕ → Type 0
IsOfKind kinds.Word bs = piece sorts.Word bs ≡ true
IsOfKind kinds.Number bs = (piece sorts.Number bs ≡ true) × (in_64 (number_value bs) ≡ true)
IsOfKind kinds.Quoted bs = (piece sorts.Quoted bs ≡ true) × (string_fault bs ≡ None)
IsOfKind kinds.Sign bs = piece sorts.Sign bs ≡ true
IsOfKind kinds.End bs = bs ≡ []

-- the token stands within the text, and its bytes are a piece of its kind
pub record IsTokenIn (text : List ℕ) (t : Token) : Type 0 where
  pub ordered : t.from ≤ t.to
  pub within : t.to ≤ length text
  pub is : IsOfKind t.kind (bytes_of text t)

-- ---- the tokens of a text, one behind another

-- behind the end nothing stands
abbrev pub Behind : Kind → List Token → Type 0 → Type 0
Behind kinds.End ts next = ts ≡ []
Behind _ ts next = next

-- the tokens stand in order from a place on, and the end comes last and only there
abbrev pub InOrder : ℕ → List Token → Type 0
InOrder at [] = ⊥
InOrder at (t ∷ ts) = (at ≤ t.from) × Behind t.kind ts (InOrder t.to ts)
