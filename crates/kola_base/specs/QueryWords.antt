-- The words that have a meaning in queries: none of them is a name there.
use Rattle.std.specs.Prelude.{ℕ, ◌||◌, ◌==◌, not, Bool, List, codes}
use Rattle.std.specs.List.{list_any, slice_split}
use Rattle.std.specs.Str.{str_eq_ignore_ascii_case}

-- the words that the grammar of queries reads, with a blank between each two
abbrev pub reserved_words : List ℕ
reserved_words = codes "select distinct from where as in exists for all and or not union intersect except struct set flatten true false"

-- the words of the standard that queries leave out, with a blank between each two
abbrev pub words_left_out : List ℕ
words_left_out = codes "element first last unique sum avg min max count bag list array order group by having define nil undefined like"

-- the word is one of the words, in any case of its letters
unfoldable pub is_among : List ℕ → List ℕ → Bool
is_among words word = list_any (str_eq_ignore_ascii_case word) (slice_split (λ b. b == 32) words)

-- a name of the query language
unfoldable pub is_name : List ℕ → Bool
is_name word = not (is_among reserved_words word || is_among words_left_out word)
