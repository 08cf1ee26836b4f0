-- What the reader of databases answers: the database that a text writes, or the text's first fault.
use Rattle.std.specs.Prelude.{◌≡◌, ◌⊎◌, ℕ, ◌==◌, ◌||◌, Bool, if◌then◌else◌, List, codes, Some, Ok, Err, IsPermutation}
use Rattle.std.specs.List.{list_all}
use Rattle.std.specs.Str.{IsUtf8}
use Rattle.serde_json.specs.Data.{Data}
use Rattle.serde_json.specs.Read.{read}
use Rattle.kola_values.specs.Databases.{Classes, Objects}
use Rattle.kola_database.specs.Stored.{Database, IsUnder}
use Rattle.kola_load.specs.Loading.{db_of}
use Rattle.kola_load.specs.declared.fault.DbFault.{DbFault}
use Rattle.kola_load.specs.declared.fault.DbFault.TheVariants.{NotJson, Memory}

-- a blank, a tab, LF or CR
abbrev pub is_blank : ℕ → Bool
is_blank b = b == 32 || b == 9 || b == 10 || b == 13

-- a text of blanks stands for an object without members
abbrev pub json_text : List ℕ → List ℕ
json_text text = if list_all is_blank text then codes "{}" else text

-- a text reads as a JSON value
abbrev pub Reads : List ℕ → Data → Type 0
Reads text j = IsUtf8 (json_text text) × (read (json_text text) ≡ Some j)

-- the text reads as a JSON value without a fault, and the database has exactly the objects that it writes, under the schema
pub record IsLoaded (S : Classes) (text : List ℕ) (db : Database) : Type 0 where
  pub value : Data
  pub reads : Reads text value
  pub objects : Objects
  pub writes : db_of S value ≡ Ok objects
  pub exactly : IsPermutation objects db.objects
  pub under : IsUnder S db

-- the text reads as no JSON value, or as one of which this is the first fault
abbrev pub IsFirstFault : Classes → List ℕ → DbFault → Type 0
IsFirstFault S text Memory = Unit {0}
IsFirstFault S text NotJson = (j : Data) → Reads text j → ⊥
IsFirstFault S text f = (j : Data) × Reads text j × (db_of S j ≡ Err f)

-- a text with a fault has no database, and no other fault
abbrev pub OneAnswer : Type 0
OneAnswer = (S : Classes) (text : List ℕ) (f : DbFault) → (f ≡ Memory → ⊥) → IsFirstFault S text f
    → ((db : Database) → IsLoaded S text db → ⊥) × ((g : DbFault) → (g ≡ Memory → ⊥) → IsFirstFault S text g → g ≡ f)

-- a text reads as a value that writes objects without a fault, or it has a first fault
abbrev pub HasAnswer : Classes → List ℕ → Type 0
HasAnswer S text = ((j : Data) × (os : Objects) × Reads text j × (db_of S j ≡ Ok os)) ⊎ ((f : DbFault) × (f ≡ Memory → ⊥) × IsFirstFault S text f)
