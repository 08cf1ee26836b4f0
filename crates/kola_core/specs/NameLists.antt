-- Lists of names.
use Rattle.std.specs.Prelude.{ℕ, Bool, List, [], ◌∷◌, ◌++◌, cond}
use Rattle.std.specs.List.{list_any}
use Rattle.std.specs.Str.{bytes_eq}

-- a name is one of a list
abbrev pub is_listed : List ℕ → List (List ℕ) → Bool
is_listed n ns = list_any (bytes_eq n) ns

-- the list with a name, at the end where it was not in it
abbrev pub with_name : List (List ℕ) → List ℕ → List (List ℕ)
with_name ns n = cond (is_listed n ns) ns (ns ++ n ∷ [])
