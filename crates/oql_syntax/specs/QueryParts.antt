-- What tokens are in queries, and what trees chains are.
use Rattle.std.specs.Prelude.{ℕ, List, [], ◌∷◌, Bool, true, false, Option, Some, None}
use Rattle.kola_base.specs.Named.{Named}
use Rattle.kola_base.specs.declared.sign.Sign.TheVariants as s
use Rattle.oql_syntax.specs.Alphabet.{Kind, KSign, KWord, KNumber, KString}
use Rattle.oql_tree.specs.QueryTrees.{LitTree, LitInt, LitStr, LitBool, QueryTree, QPath, QUnionExcept, QueryLinks, of_links, of_set_links}
use Rattle.oql_tree.specs.declared.query.Sign.{Sign}
use Rattle.oql_tree.specs.declared.query.Sign.TheVariants as c
use Rattle.oql_syntax.specs.declared.word.QueryWord.TheVariants as q

abbrev pub named : List ℕ → ℕ → Named
named x at = record { name = x; at = at }

-- the literal that a token is
abbrev pub literal_of : Kind → Option LitTree
literal_of (KNumber z) = Some (LitInt z)
literal_of (KString b) = Some (LitStr b)
literal_of (KWord q.True) = Some (LitBool true)
literal_of (KWord q.False) = Some (LitBool false)
literal_of _ = None

-- the sign of a comparison that a token is
abbrev pub comparison_of : Kind → Option Sign
comparison_of (KSign s.Equal) = Some c.Eq
comparison_of (KSign s.NotEqual) = Some c.Ne
comparison_of (KSign s.Less) = Some c.Lt
comparison_of (KSign s.LessEqual) = Some c.Le
comparison_of (KSign s.Greater) = Some c.Gt
comparison_of (KSign s.GreaterEqual) = Some c.Ge
comparison_of (KWord q.In) = Some c.Member
comparison_of _ = None

-- ---- chains: an operand and its links. The place of a chain is that of its first sign, that of a path of its first label.

abbrev pub path_tree : QueryTree → List (List ℕ × ℕ) → QueryTree
path_tree e [] = e
path_tree e (l ∷ ls) = QPath l.1 e (l ∷ ls)

abbrev pub chain_tree : (ℕ → QueryTree → QueryLinks → QueryTree) → QueryTree → List (ℕ × QueryTree) → QueryTree
chain_tree k e [] = e
chain_tree k e (l ∷ ls) = k l.0 e (of_links (l ∷ ls))

abbrev pub union_tree : QueryTree → List (ℕ × Bool × QueryTree) → QueryTree
union_tree e [] = e
union_tree e (l ∷ ls) = QUnionExcept l.0 e (of_set_links (l ∷ ls))
