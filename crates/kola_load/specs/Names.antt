-- Which words may name extents: those that have no meaning in queries, terms and rules.
use Rattle.std.specs.Prelude.{ℕ, ◌&&◌, is_none, Bool, List}
pub use Rattle.kola_base.specs.QueryWords.{is_among, is_name}
use Rattle.kola_base.specs.TermWords.{term_word_named}

-- a name of the query language that is no word of terms or rules
unfoldable pub is_extent_name : List ℕ → Bool
is_extent_name word = is_name word && is_none (term_word_named word)
