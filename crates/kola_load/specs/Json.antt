-- The parts of a JSON value: its elements, the names of its members, the integer and the id that it writes.
use Rattle.std.specs.Prelude.{ℕ, ◌&&◌, ℤ, pos, negsuc, Bool, not, nat_le, if◌then◌else◌, List, [], ◌∷◌, filter, codes, Option, Some, None, is_some, option_and_then}
use Rattle.std.specs.Option.{option_map_or}
use Rattle.std.specs.Ordering.{is_lt}
use Rattle.serde_json.specs.Data.{Data, Items, no_items, item, Members, no_members, member}
use Rattle.serde_json.specs.Find.{get, as_array, as_object, as_number, as_i64}
use Rattle.kola_values.specs.Order.{name_cmp}
use Rattle.kola_core.specs.NameLists.{is_listed}

abbrev pub is_object : Data → Bool
is_object d = is_some (as_object d)

abbrev pub is_array : Data → Bool
is_array d = is_some (as_array d)

abbrev pub list_of : Items → List Data
list_of no_items = []
list_of (item d ds) = d ∷ list_of ds

abbrev pub names_of_members : Members → List (List ℕ)
names_of_members no_members = []
names_of_members (member n d ms) = n ∷ names_of_members ms

-- the elements of an array; any other value has none
abbrev pub elements : Data → List Data
elements d = option_map_or list_of (as_array d) []

-- the names of the members of an object; any other value has none
abbrev pub member_names : Data → List (List ℕ)
member_names d = option_map_or names_of_members (as_object d) []

-- those of them that are not in a list
abbrev pub names_beside : List (List ℕ) → Data → List (List ℕ)
names_beside known d = filter (λ n. not (is_listed n known)) (member_names d)

-- the least of a list of names by their bytes
abbrev pub lesser : List ℕ → List ℕ → List ℕ
lesser m n = if is_lt (name_cmp n m) then n else m

abbrev pub least : List (List ℕ) → Option (List ℕ)
least [] = None
least (n ∷ ns) = Some (option_map_or (lesser n) (least ns) n)

-- a signed integer of 64 bits
abbrev pub integer_of : Data → Option ℤ
integer_of d = option_and_then as_i64 (as_number d)

-- an integer from 1 to 4294967295
abbrev pub as_id : ℤ → Option ℕ
as_id (pos n) = if nat_le 1 n && nat_le n 4294967295 then Some n else None
as_id (negsuc n) = None

abbrev pub id_of : Data → Option ℕ
id_of d = option_and_then as_id (integer_of d)

-- the id of an object stands in the member `#`
abbrev pub own_id : Data → Option ℕ
own_id d = option_and_then id_of (get (codes "#") d)
