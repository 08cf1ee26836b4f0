-- Words of a text with the places where they stand.
use Rattle.std.specs.Prelude.{◌≡◌, ℕ, List, Option, Some, None}
use Rattle.kola_parse.specs.Reader.{Answer, Move, Stray, Goes, eat, done}
use Rattle.kola_parse.specs.Kinds.{leads}
use Rattle.kola_parse.specs.Texts.{ends}
use Rattle.kola_base.specs.Lexemes.{Lexeme, LWord}
use Rattle.kola_base.specs.Placed.{Placed}

pub record Named : Type 0 where
  pub name : List ℕ
  pub at : ℕ

abbrev pub name_in : Lexeme → ℕ → Option Named
name_in (LWord bs) at = Some (record { name = bs; at = at })
name_in _ at = None

-- the name that a token is, which is any word
abbrev pub name_of : Placed → Option Named
name_of t = name_in t.says t.at

-- one word, whatever it is
abbrev pub NameText : Named → List Placed → Type 0
NameText n = leads (λ t. name_of t ≡ Some n) ends

abbrev pub name_move : Option Named → Move Placed Named
name_move (Some n) = Goes (done n)
name_move None = Stray

abbrev pub name_at : List Placed → Answer Placed Named
name_at = eat (λ t. name_move (name_of t))
