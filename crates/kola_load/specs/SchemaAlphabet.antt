-- The words of schemas, and what each token is.
use Rattle.std.specs.Prelude.{ℕ, List, [], ◌∷◌, Option, codes}
use Rattle.std.specs.List.{find}
use Rattle.std.specs.Str.{bytes_eq}
use Rattle.kola_base.specs.Placed.{Placed}
use Rattle.kola_base.specs.Alphabets.{Symbol, symbol_by}
use Rattle.kola_load.specs.declared.schema_alphabet.Word.{Word}
use Rattle.kola_load.specs.declared.schema_alphabet.Word.TheVariants as w

abbrev pub word_spelling : Word → List ℕ
word_spelling w.Class = codes "class"
word_spelling w.Extent = codes "extent"
word_spelling w.Key = codes "key"
word_spelling w.Attribute = codes "attribute"
word_spelling w.Int = codes "int"
word_spelling w.Long = codes "long"
word_spelling w.String = codes "string"
word_spelling w.Bool = codes "bool"
word_spelling w.Boolean = codes "boolean"
word_spelling w.Set = codes "set"

-- all words
unfoldable pub words : List Word
words = w.Class ∷ w.Extent ∷ w.Key ∷ w.Attribute ∷ w.Int ∷ w.Long ∷ w.String ∷ w.Bool ∷ w.Boolean ∷ w.Set ∷ []

-- the word that is spelled so
unfoldable pub word_named : List ℕ → Option Word
word_named bs = find (λ w. bytes_eq (word_spelling w) bs) words

abbrev pub Kind : Type 0
Kind = Symbol Word

abbrev pub kind : Placed → Kind
kind t = symbol_by word_named t.says
