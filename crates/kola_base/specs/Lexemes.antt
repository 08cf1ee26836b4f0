-- What tokens say: a text as a list of words, numbers with their values, strings with their bytes, and signs, over which grammars are written.
use Rattle.std.specs.Prelude.{ℕ, ℤ, List, [], ◌∷◌, ◌++◌}
use Rattle.kola_base.specs.declared.lex.Kind.{Kind}
use Rattle.kola_base.specs.declared.lex.Kind.TheVariants as kinds
use Rattle.kola_base.specs.declared.lex.Token.{Token}
use Rattle.kola_base.specs.Numbers.{number_value}
use Rattle.kola_base.specs.Strings.{string_value}
use Rattle.kola_base.specs.Tokens.{bytes_of}

pub data Lexeme : Type 0 where
  LWord : (bytes : List ℕ) → Lexeme
  LNumber : (value : ℤ) → Lexeme
  LString : (bytes : List ℕ) → Lexeme
  LSign : (bytes : List ℕ) → Lexeme

-- what bytes of a kind say; the end says nothing
abbrev pub lexeme : Kind → List ℕ → List Lexeme
lexeme kinds.Word bs = LWord bs ∷ []
lexeme kinds.Number bs = LNumber (number_value bs) ∷ []
lexeme kinds.Sign bs = LSign bs ∷ []
lexeme kinds.Quoted bs = LString (string_value bs) ∷ []
lexeme kinds.End bs = []

abbrev pub lexeme_of : List ℕ → Token → List Lexeme
lexeme_of text t = lexeme t.kind (bytes_of text t)

abbrev pub lexemes : List ℕ → List Token → List Lexeme
lexemes text [] = []
lexemes text (t ∷ ts) = lexeme_of text t ++ lexemes text ts
