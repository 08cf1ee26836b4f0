-- Each word of schemas is the one of its spelling.
use Rattle.std.proofs.Common.{◌≡◌, ℕ, List, Some, refl}
use Rattle.std.specs.Str.{bytes_eq}
use Rattle.kola_base.proofs.SignLaws.{find_passes, name_equal}
use Rattle.kola_base.proofs.SymbolLaws.{Words}
use Rattle.kola_load.specs.declared.schema_alphabet.Word.{Word}
use Rattle.kola_load.specs.declared.schema_alphabet.Word.TheVariants as w
use Rattle.kola_load.specs.SchemaAlphabet.{word_spelling, words, word_named}

pub word_again : (w : Word) → word_named (word_spelling w) ≡ Some w
unfolding word_named words
word_again w.Class = refl
word_again w.Extent = refl
word_again w.Key = refl
word_again w.Attribute = refl
word_again w.Int = refl
word_again w.Long = refl
word_again w.String = refl
word_again w.Bool = refl
word_again w.Boolean = refl
word_again w.Set = refl

pub word_spells : (bs : List ℕ) (w : Word) → word_named bs ≡ Some w → word_spelling w ≡ bs
unfolding word_named
word_spells bs w e = name_equal (word_spelling w) bs (find_passes (λ v. bytes_eq (word_spelling v) bs) words w e)

abbrev pub schema_words : Words Word
schema_words = record { spelling = word_spelling; named = word_named; again = word_again; spells = word_spells }
