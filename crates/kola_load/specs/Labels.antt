-- The names that the members of an object may have.
use Rattle.std.specs.Prelude.{ℕ, List, ◌∷◌, codes}
use Rattle.kola_values.specs.Databases.{Class}
use Rattle.kola_schema.specs.Schemas.{names_of}

-- those of an object of the class
abbrev pub labels : Class → List (List ℕ)
labels k = codes "#" ∷ names_of k.attributes
