-- When an environment gives the variables in scope values of their types.
use Rattle.std.specs.Prelude.{◌≡◌, [], ◌∷◌}
use Rattle.kola_values.specs.Databases.{Objects, HasType}
use Rattle.oql_check.specs.QueryTypes.{Scope}
use Rattle.oql_check.specs.QueryMeaning.{Env}

-- the same names in the same order, each with a value of its type in the database
abbrev pub Fills : Objects → Env → Scope → Type 0
Fills d [] [] = Unit {0}
Fills d (e ∷ es) (n ∷ ns) = (e.0 ≡ n.0) × HasType d e.1 n.1 × Fills d es ns
Fills d _ _ = ⊥
