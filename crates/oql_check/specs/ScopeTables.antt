-- A scope as it is kept: names by numbers, the newest variable of each name, and all variables, newest first.
use Rattle.std.specs.Prelude.{ℕ, List, [], ◌∷◌, ◌++◌, Option, Some, None, ◌≡◌, ◌⊎◌, ◌==◌, cond, length, get_or, position}
use Rattle.std.specs.Str.{bytes_eq}
use Rattle.oql_check.specs.QueryTypes.{Scope}
use Rattle.oql_check.specs.declared.scope.Variable.{Variable}

-- the name of a number
abbrev pub name_at : List (List ℕ) → ℕ → List ℕ
name_at names n = get_or names n []

-- the variables with their names
abbrev pub named : List (List ℕ) → List Variable → Scope
named names [] = []
named names (v ∷ vs) = (name_at names v.name, v.ty) ∷ named names vs

-- the place of the newest variable that has a name's number, counted from the oldest variable on
abbrev pub newest_of : List Variable → ℕ → Option ℕ
newest_of [] n = None
newest_of (v ∷ vs) n = cond (n == v.name) (Some (length vs)) (newest_of vs n)

-- each variable has the number of its name, and the place of the variable of this name that it hides
abbrev pub AreLinked : List (List ℕ) → List Variable → Type 0
AreLinked names [] = Unit {0}
AreLinked names (v ∷ vs) =
    (position (bytes_eq (name_at names v.name)) names ≡ Some v.name) × (v.hidden ≡ newest_of vs v.name) × AreLinked names vs

-- the newest variable of each name's number, with all variables
abbrev pub IsKept : List (List ℕ) → List (Option ℕ) → List Variable → Type 0
IsKept names newest vs = (length newest ≡ length names) × ((n : ℕ) → get_or newest n None ≡ newest_of vs n) × AreLinked names vs

-- no name is new, or one is, which no variable has
abbrev pub IsGrown : List (List ℕ) → List (Option ℕ) → List (List ℕ) → List (Option ℕ) → Type 0
IsGrown names newest more later =
    ((more ≡ names) × (later ≡ newest)) ⊎ ((n : List ℕ) × (more ≡ names ++ n ∷ []) × (later ≡ newest ++ None ∷ []))
