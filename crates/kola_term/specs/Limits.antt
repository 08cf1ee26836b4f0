-- The limits on terms and on the types in them.
use Rattle.std.specs.Prelude.{ℕ}

-- the most nodes of a type
abbrev pub type_limit : ℕ
type_limit = 4096

-- the most nodes of a term
abbrev pub node_limit : ℕ
node_limit = 20000

-- the greatest depth of a term
abbrev pub depth_limit : ℕ
depth_limit = 256
