-- The signs of texts, and how each is written.
use Rattle.std.specs.Prelude.{ℕ, List, [], ◌∷◌, Option, codes}
use Rattle.std.specs.List.{find}
use Rattle.std.specs.Str.{bytes_eq}
use Rattle.kola_base.specs.declared.sign.Sign.{Sign}
use Rattle.kola_base.specs.declared.sign.Sign.TheVariants as s

abbrev pub sign_spelling : Sign → List ℕ
sign_spelling s.Open = codes "("
sign_spelling s.Close = codes ")"
sign_spelling s.LeftBrace = codes "{"
sign_spelling s.RightBrace = codes "}"
sign_spelling s.Less = codes "<"
sign_spelling s.Greater = codes ">"
sign_spelling s.LessEqual = codes "<="
sign_spelling s.GreaterEqual = codes ">="
sign_spelling s.Equal = codes "="
sign_spelling s.NotEqual = codes "!="
sign_spelling s.Comma = codes ","
sign_spelling s.Semicolon = codes ";"
sign_spelling s.Colon = codes ":"
sign_spelling s.Dot = codes "."
sign_spelling s.Arrow = codes "->"
sign_spelling s.Bars = codes "||"
sign_spelling s.Or = codes "|"
sign_spelling s.And = codes "&"
sign_spelling s.Not = codes "~"
sign_spelling s.At = codes "@"
sign_spelling s.Star = codes "*"

-- all signs
unfoldable pub signs : List Sign
signs =
    s.Open ∷ s.Close ∷ s.LeftBrace ∷ s.RightBrace ∷ s.Less ∷ s.Greater ∷ s.LessEqual ∷ s.GreaterEqual ∷ s.Equal ∷ s.NotEqual ∷ s.Comma ∷ s.Semicolon ∷ s.Colon ∷ s.Dot ∷ s.Arrow ∷ s.Bars ∷ s.Or ∷ s.And ∷ s.Not ∷ s.At ∷ s.Star ∷ []

-- the sign that is written so
unfoldable pub sign_named : List ℕ → Option Sign
sign_named bs = find (λ s. bytes_eq (sign_spelling s) bs) signs
