-- What a text spells in a language, and where it is at fault first. L d x w says that the tokens w spell x within the limit d.
use Rattle.std.specs.Prelude.{◌≡◌, ◌≤◌, ◌<◌, ℕ, List, ◌++◌, Result, Ok, Err, length, drop}
use Rattle.kola_base.specs.declared.lex.Token.{Token}
use Rattle.kola_base.specs.declared.lex.LexFault.{LexFault}
use Rattle.kola_base.specs.declared.lex.LexFault.TheVariants as lex
use Rattle.kola_base.specs.declared.text_fault.TextWhy.{TextWhy}
use Rattle.kola_base.specs.declared.text_fault.TextWhy.TheVariants.{Lex, Unexpected, TooDeep}
use Rattle.kola_base.specs.declared.text_fault.TextFault.{TextFault}
use Rattle.kola_base.specs.declared.text_fault.TextFault.TheVariants.{At, Memory}
use Rattle.kola_base.specs.Tokens.{AreTokens, StopsAt}
use Rattle.kola_base.specs.Placed.{Placed, placed, place}
use Rattle.kola_parse.specs.declared.why.Why.{Why}
use Rattle.kola_parse.specs.declared.why.Why.TheVariants as why
use Rattle.kola_parse.specs.declared.stop.Stop.{Stop}
use Rattle.kola_parse.specs.declared.stop.Stop.TheVariants as stop
use Rattle.kola_parse.specs.Reader.{Fault}
use Rattle.kola_parse.specs.Faults.{Accepted, Unlimited, IsFirstFault}

-- the tokens of the text spell x
pub record Spells {A : Type 0} (L : A → List Placed → Type 0) (text : List ℕ) (x : A) : Type 0 where
  pub tokens : List Token
  pub are : AreTokens tokens text
  pub spells : L x (placed text tokens)

-- ---- faults

-- the tokens are at fault first at this place, for this reason; the text behind them ends at end
pub record FaultsAt {A : Type 0} (L : ℕ → A → List Placed → Type 0) (d : ℕ) (ts : List Placed) (end at : ℕ) (w : Why) : Type 0 where
  pub fault : Fault Placed
  pub first : IsFirstFault (Accepted L d) (Unlimited L) ts fault
  pub is_at : at ≡ place end fault.rest
  pub is_why : w ≡ fault.why

-- the tokens of the text are at fault first at this place, for this reason
pub record SyntaxAt {A : Type 0} (L : ℕ → A → List Placed → Type 0) (d : ℕ) (text : List ℕ) (at : ℕ) (w : Why) : Type 0 where
  pub tokens : List Token
  pub are : AreTokens tokens text
  pub faults : FaultsAt L d (placed text tokens) (length text) at w

-- a text is at fault where it has no tokens, and else where its syntax is
abbrev pub FaultOfText : {A : Type 0} → (ℕ → A → List Placed → Type 0) → ℕ → List ℕ → ℕ → TextWhy → Type 0
FaultOfText L d text at (Lex w) = StopsAt text at w
FaultOfText L d text at Unexpected = SyntaxAt L d text at why.Unexpected
FaultOfText L d text at TooDeep = SyntaxAt L d text at why.TooDeep

abbrev pub IsFault : {A : Type 0} → (ℕ → A → List Placed → Type 0) → ℕ → List ℕ → TextFault → Type 0
IsFault L d text Memory = Unit {0}
IsFault L d text (At at w) = FaultOfText L d text at w

-- ---- answers

-- what is answered, seen by view, is x, unless memory ran out
abbrev pub IsAnswer : {A X : Type 0} → (X → A) → A → Result X TextFault → Type 0
IsAnswer view x (Ok y) = view y ≡ x
IsAnswer view x (Err Memory) = Unit {0}
IsAnswer view x (Err (At at w)) = ⊥

-- what is answered is the fault, unless memory ran out
abbrev pub IsFaultAnswer : {X : Type 0} → ℕ → TextWhy → Result X TextFault → Type 0
IsFaultAnswer at w (Ok y) = ⊥
IsFaultAnswer at w (Err Memory) = Unit {0}
IsFaultAnswer at w (Err (At b v)) = (b ≡ at) × (v ≡ w)

-- a cause of the syntax as a cause of the text
abbrev pub text_why : Why → TextWhy
text_why why.Unexpected = Unexpected
text_why why.TooDeep = TooDeep

-- the fault of a text without tokens
abbrev pub of_lexer : LexFault → TextFault
of_lexer lex.Memory = Memory
of_lexer (lex.At at w) = At at (Lex w)

-- the fault where the syntax stopped, in a text of so many bytes
abbrev pub is_stopped : ℕ → Stop (List Placed) → TextFault
is_stopped end stop.Memory = Memory
is_stopped end (stop.Before y r) = At (place end r) (text_why y)

-- ---- parts: a front of the tokens from one of them on

-- tokens before the one of that number spell x
pub record FrontSpells {A : Type 0} (L : A → List Placed → Type 0) (text : List ℕ) (tokens : List Token) (from to : ℕ) (x : A) : Type 0 where
  pub front : List Placed
  pub split : placed text (drop from tokens) ≡ front ++ placed text (drop to tokens)
  pub spells : L x front
  pub within : (from ≤ to) × (to < length tokens)

-- what is answered, seen by view, is x and the number of the token behind it, unless memory ran out
abbrev pub IsPart : {A X : Type 0} → (X → A) → A → List Placed → List ℕ → List Token → Result (X × ℕ) TextFault → Type 0
IsPart view x rest text tokens (Ok y) = (view y.0 ≡ x) × (placed text (drop y.1 tokens) ≡ rest)
IsPart view x rest text tokens (Err Memory) = Unit {0}
IsPart view x rest text tokens (Err (At at w)) = ⊥

-- the tokens are at fault first at this place, for this reason, which is no lexical one
abbrev pub SyntaxFault : {A : Type 0} → (ℕ → A → List Placed → Type 0) → ℕ → List Placed → ℕ → ℕ → TextWhy → Type 0
SyntaxFault L d ts end at Unexpected = FaultsAt L d ts end at why.Unexpected
SyntaxFault L d ts end at TooDeep = FaultsAt L d ts end at why.TooDeep
SyntaxFault L d ts end at (Lex w) = ⊥

abbrev pub IsPartFault : {A : Type 0} → (ℕ → A → List Placed → Type 0) → ℕ → List ℕ → List Token → ℕ → TextFault → Type 0
IsPartFault L d text tokens from Memory = Unit {0}
IsPartFault L d text tokens from (At at w) = SyntaxFault L d (placed text (drop from tokens)) (length text) at w
