-- Tokens that the program has looked at: what the first of them is to queries.
use Rattle.std.specs.Prelude.{◌≡◌, List, [], ◌∷◌}
use Rattle.kola_base.specs.Lexemes.{LWord}
use Rattle.kola_base.specs.Placed.{Placed}
use Rattle.oql_syntax.specs.Alphabet.{Kind, KSign, KWord, KName, KNumber, KString}
use Rattle.oql_syntax.specs.declared.look.Seen.{Seen}
use Rattle.oql_syntax.specs.declared.look.Seen.TheVariants as seen

-- the first one, or the empty word where there is none
abbrev pub head : List Placed → Placed
head [] = record { says = LWord []; at = 0 }
head (t ∷ ts) = t

-- what was seen of a token, which keeps of a string only that it is one
abbrev pub IsSeen : Seen → Kind → Type 0
IsSeen (seen.Sign s) k = k ≡ KSign s
IsSeen (seen.Word w) k = k ≡ KWord w
IsSeen (seen.Name x) k = k ≡ KName x.now
IsSeen (seen.Number z) k = k ≡ KNumber z
IsSeen seen.Quoted (KString b) = Unit {0}
IsSeen seen.Quoted _ = ⊥
