-- The limits on the types of queries.
use Rattle.std.specs.Prelude.{◌≡◌, ℕ, nat_le, Bool, true, List}
use Rattle.kola_values.specs.Sets.{Each}
use Rattle.kola_values.specs.Types.{TypeTree, type_nodes}

-- the most nodes of a type
abbrev pub type_limit : ℕ
type_limit = 4096

-- the most fields of a struct
abbrev pub field_limit : ℕ
field_limit = 8

-- within the limit
unfoldable pub small : TypeTree → Bool
small t = nat_le (type_nodes t) type_limit

-- each of these is
abbrev pub AreSmall : List (List ℕ × TypeTree) → Type 0
AreSmall ns = Each (λ (n : List ℕ × TypeTree). small n.1 ≡ true) ns
