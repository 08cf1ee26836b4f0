-- The words of queries by their lengths, as the program looks them up.
use Rattle.std.specs.Prelude.{ℕ, ◌==◌, List, length, filter}
use Rattle.std.specs.List.{slice_split}
use Rattle.kola_base.specs.QueryWords.{words_left_out}
use Rattle.oql_syntax.specs.Alphabet.{query_word_spelling, query_words}
use Rattle.oql_syntax.specs.declared.word.QueryWord.{QueryWord}

-- the words of the grammar that have so many letters, in the same order
unfoldable pub words_of_length : ℕ → List QueryWord
words_of_length n = filter (λ w. length (query_word_spelling w) == n) query_words

-- the words left out that have so many letters, in the same order
unfoldable pub left_out_of_length : ℕ → List (List ℕ)
left_out_of_length n = filter (λ v. length v == n) (slice_split (λ b. b == 32) words_left_out)
