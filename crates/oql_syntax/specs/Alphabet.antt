-- What each token is among the signs and words of queries, whose words are read in any case.
pub use Rattle.kola_base.specs.Alphabets.{KSign, KWord, KName, KNumber, KString, KOther}
use Rattle.std.specs.Prelude.{ℕ, Bool, true, false, List, [], ◌∷◌, Option, Some, None, codes}
use Rattle.std.specs.List.{find}
use Rattle.std.specs.Str.{str_eq_ignore_ascii_case}
use Rattle.kola_base.specs.Alphabets.{Symbol, symbol_by}
use Rattle.kola_base.specs.Lexemes.{Lexeme, LWord}
use Rattle.kola_base.specs.Placed.{Placed}
use Rattle.kola_base.specs.QueryWords.{words_left_out, is_among}
use Rattle.oql_syntax.specs.declared.word.QueryWord.{QueryWord}
use Rattle.oql_syntax.specs.declared.word.QueryWord.TheVariants as q

-- a word that is left out has no spelling of its own
abbrev pub query_word_spelling : QueryWord → List ℕ
query_word_spelling q.Select = codes "select"
query_word_spelling q.Distinct = codes "distinct"
query_word_spelling q.From = codes "from"
query_word_spelling q.Where = codes "where"
query_word_spelling q.As = codes "as"
query_word_spelling q.In = codes "in"
query_word_spelling q.Exists = codes "exists"
query_word_spelling q.For = codes "for"
query_word_spelling q.All = codes "all"
query_word_spelling q.And = codes "and"
query_word_spelling q.Or = codes "or"
query_word_spelling q.Not = codes "not"
query_word_spelling q.Union = codes "union"
query_word_spelling q.Intersect = codes "intersect"
query_word_spelling q.Except = codes "except"
query_word_spelling q.Struct = codes "struct"
query_word_spelling q.Set = codes "set"
query_word_spelling q.Flatten = codes "flatten"
query_word_spelling q.True = codes "true"
query_word_spelling q.False = codes "false"
query_word_spelling q.LeftOut = []

-- the words that the grammar of queries reads
unfoldable pub query_words : List QueryWord
query_words =
    q.Select ∷ q.Distinct ∷ q.From ∷ q.Where ∷ q.As ∷ q.In ∷ q.Exists ∷ q.For ∷ q.All ∷ q.And ∷ q.Or ∷ q.Not ∷ q.Union ∷ q.Intersect ∷ q.Except ∷ q.Struct ∷ q.Set ∷ q.Flatten ∷ q.True ∷ q.False ∷ []

-- a word of the grammar, or else one that is left out
abbrev pub or_left_out : Bool → Option QueryWord → Option QueryWord
or_left_out b (Some w) = Some w
or_left_out true None = Some q.LeftOut
or_left_out false None = None

-- the word that is written so, in any case
unfoldable pub query_word_named : List ℕ → Option QueryWord
query_word_named bs = or_left_out (is_among words_left_out bs) (find (λ w. str_eq_ignore_ascii_case bs (query_word_spelling w)) query_words)

abbrev pub Kind : Type 0
Kind = Symbol QueryWord

abbrev pub kind : Placed → Kind
kind t = symbol_by query_word_named t.says

-- ---- one token

abbrev pub says_word : List ℕ → Lexeme → Bool
says_word bs (LWord v) = str_eq_ignore_ascii_case v bs
says_word bs _ = false

-- a token of the word that is written so, in any case
abbrev pub word : List ℕ → Placed → Bool
word bs t = says_word bs t.says
