-- What the tokens of a text can say: words are words, numbers have 64 bits, strings are UTF-8.
use Rattle.std.proofs.Common.{◌≡◌, ℕ, true, List, [], ◌∷◌, ◌++◌, subst}
use Rattle.std.specs.List.{All}
use Rattle.std.specs.Str.{IsUtf8}
use Rattle.std.proofs.lemmas.List.Elements.{All-head, All-tail}
use Rattle.kola_core.specs.Integers.{in_64}
use Rattle.kola_base.specs.declared.lex.Kind.{Kind}
use Rattle.kola_base.specs.declared.lex.Kind.TheVariants as kinds
use Rattle.kola_base.specs.declared.lex.Token.{Token}
use Rattle.kola_base.specs.declared.scan.Sort.TheVariants as sorts
use Rattle.kola_base.specs.Pieces.{piece}
use Rattle.kola_base.specs.Tokens.{AreTokens, IsOfKind, IsTokenIn, bytes_of}
use Rattle.kola_base.specs.Lexemes.{Lexeme, LWord, LNumber, LString, LSign, lexeme}
use Rattle.kola_base.specs.Placed.{Placed, said_first, placed}
use Rattle.kola_base.proofs.Spans.{all_in}
use Rattle.kola_base.proofs.Writes.{string_utf8}
use Rattle.kola_parse.specs.Kinds.{leads}
use Rattle.kola_parse.specs.Texts.{◌·◌}
use Rattle.oql_syntax.specs.Alphabet.{Kind as Symbol, kind}
use Rattle.oql_syntax.specs.Grammar.{Text, ◌▸◌, at}
use Rattle.oql_syntax.specs.declared.word.QueryWord.{QueryWord}

abbrev pub IsSounding : Lexeme → Type 0
IsSounding (LWord bs) = piece sorts.Word bs ≡ true
IsSounding (LNumber z) = in_64 z ≡ true
IsSounding (LString bs) = IsUtf8 bs
IsSounding (LSign bs) = Unit {0}

abbrev pub AreSounding : List Placed → Type 0
AreSounding [] = Unit {0}
AreSounding (t ∷ ts) = IsSounding t.says × AreSounding ts

-- ---- the tokens of a text

first_sounding : (k : Kind) (bs : List ℕ) (p : ℕ) (rest : List Placed) → IsOfKind k bs → AreSounding rest → AreSounding (said_first (lexeme k bs) p rest)
first_sounding kinds.Word bs p rest h s = (h, s)
first_sounding kinds.Number bs p rest h s = (h.1, s)
first_sounding kinds.Quoted bs p rest h s = (string_utf8 bs h.1, s)
first_sounding kinds.Sign bs p rest h s = (tt, s)
first_sounding kinds.End bs p rest h s = tt

all_sounding : (text : List ℕ) (ts : List Token) → All (IsTokenIn text) ts → AreSounding (placed text ts)
all_sounding text [] h = tt
all_sounding text (t ∷ ts) h = first_sounding t.kind (bytes_of text t) t.from (placed text ts) (All-head (IsTokenIn text) t ts h).is (all_sounding text ts (All-tail (IsTokenIn text) t ts h))

pub tokens_sounding : (text : List ℕ) (ts : List Token) → AreTokens ts text → AreSounding (placed text ts)
tokens_sounding text ts a = all_sounding text ts (all_in ts text a)

-- ---- parts

front_sounding : (u v : List Placed) → AreSounding (u ++ v) → AreSounding u
front_sounding [] v s = tt
front_sounding (t ∷ u) v s = (s.0, front_sounding u v s.1)

back_sounding : (u v : List Placed) → AreSounding (u ++ v) → AreSounding v
back_sounding [] v s = s
back_sounding (t ∷ u) v s = back_sounding u v s.1

-- tokens of a text of A
pub record Part (A : Text) : Type 0 where
  pub tokens : List Placed
  pub spells : A tokens
  pub sounding : AreSounding tokens

pub first_of : {A B : Text} {w : List Placed} → (A · B) w → AreSounding w → Part A
first_of h s = record { tokens = h.front; spells = h.first; sounding = front_sounding h.front h.back (subst AreSounding h.split s) }

pub second_of : {A B : Text} {w : List Placed} → (A · B) w → AreSounding w → Part B
second_of h s = record { tokens = h.back; spells = h.second; sounding = back_sounding h.front h.back (subst AreSounding h.split s) }

pub behind : (P : Placed → Type 0) (A : Text) (w : List Placed) → leads P A w → AreSounding w → Part A
behind P A [] h s = absurd h
behind P A (t ∷ w) h s = record { tokens = w; spells = h.1; sounding = s.1 }

-- behind a token of the kind, and behind the word at its place
pub behind_kind : (k : Symbol) (A : Text) (w : List Placed) → (k ▸ A) w → AreSounding w → Part A
behind_kind k A w h s = behind (λ t. kind t ≡ k) A w h s

pub behind_word : (q : QueryWord) (p : ℕ) (A : Text) (w : List Placed) → at q p A w → AreSounding w → Part A
behind_word q p A [] h s = absurd h
behind_word q p A (t ∷ w) h s = record { tokens = w; spells = h.1; sounding = s.1 }
