-- What tokens say, each with the place where it begins, up to the token of the end.
use Rattle.std.specs.Prelude.{ℕ, List, [], ◌∷◌}
use Rattle.std.specs.List.{All}
use Rattle.kola_base.specs.declared.lex.Token.{Token}
use Rattle.kola_base.specs.Tokens.{Behind, IsTokenIn}
use Rattle.kola_base.specs.Lexemes.{Lexeme, lexeme_of}

pub record Placed : Type 0 where
  pub says : Lexeme
  pub at : ℕ

-- what is said at a place, and then the rest; where nothing is said the text ends
abbrev pub said_first : List Lexeme → ℕ → List Placed → List Placed
said_first [] at rest = []
said_first (l ∷ _) at rest = record { says = l; at = at } ∷ rest

abbrev pub placed : List ℕ → List Token → List Placed
placed text [] = []
placed text (t ∷ ts) = said_first (lexeme_of text t) t.from (placed text ts)

-- where the first one begins, or the end where there is none
abbrev pub place : ℕ → List Placed → ℕ
place end [] = end
place end (p ∷ _) = p.at

-- ---- the tokens that are left of a text

-- the end comes last and only there
abbrev pub EndsLast : List Token → Type 0
EndsLast [] = ⊥
EndsLast (t ∷ ts) = Behind t.kind ts (EndsLast ts)

-- each token stands in the text
pub record AreLeft (text : List ℕ) (ts : List Token) : Type 0 where
  pub stand : All (IsTokenIn text) ts
  pub ends : EndsLast ts
