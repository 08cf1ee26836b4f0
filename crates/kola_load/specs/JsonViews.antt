-- The data that JSON values stand for as the program holds them, with texts that are lent.
use Rattle.std.specs.Prelude.{ℕ, List, [], ◌∷◌, map}
use Rattle.std.specs.Borrow.{Bor}
use Rattle.std.specs.BTreeMap.{BTreeMap}
use Rattle.std.specs.declared.alloc.Global.{Global}
use Rattle.json.specs.Value.{value_view}
use Rattle.json.specs.Value as json
use Rattle.json.specs.declared.value.Value.{Value}
use Rattle.serde_json.specs.Data.{Data, null, boolean, number, string, array, object, Items, Members, no_members, member}
use Rattle.serde_json.specs.View.{items_of}
use Rattle.kola_load.specs.JsonData.{data_of, members_data}

abbrev pub view : Value Global → Data
view v = data_of (value_view v)

abbrev pub items_view : List (Value Global) → Items
items_view vs = items_of (map view vs)

-- the members of an object, in the order of the text or in a table by their names
abbrev pub Entries : Type 0
Entries = List (Bor (List ℕ) × Value Global)

abbrev pub listed_view : Entries → Data
listed_view es = object (members_data (json.members_view es) no_members)

abbrev pub members_view : Entries → Members
members_view [] = no_members
members_view (e ∷ es) = member e.0.now (view e.1) (members_view es)

abbrev pub table_view : BTreeMap (Bor (List ℕ)) (Value Global) → Data
table_view t = object (members_view t.entries)

-- an object; any other value is taken as one without members
abbrev pub object_of : Data → Data
object_of null = object no_members
object_of (boolean b) = object no_members
object_of (number n) = object no_members
object_of (string s) = object no_members
object_of (array ds) = object no_members
object_of (object ms) = object ms
