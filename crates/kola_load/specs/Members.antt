-- The members of an object as the program holds them, while the elements of extents are taken out of them.
use Rattle.std.specs.Prelude.{◌≡◌, ℕ, false, List, []}
use Rattle.std.specs.Option.{option_map_or}
use Rattle.std.specs.Str.{bytes_eq}
use Rattle.serde_json.specs.Data.{Data}
use Rattle.serde_json.specs.Find.{get_member}
use Rattle.kola_load.specs.JsonViews.{Entries, members_view}
use Rattle.kola_load.specs.Json.{elements}

-- the elements of the array at a name
abbrev pub elements_at : List ℕ → Entries → List Data
elements_at n es = option_map_or elements (get_member n (members_view es)) []

-- each other name keeps its member
abbrev pub AreLeft : List ℕ → Entries → Entries → Type 0
AreLeft n before after = (m : List ℕ) → bytes_eq n m ≡ false → get_member m (members_view after) ≡ get_member m (members_view before)
