-- What a call answers that looks for a fault.
use Rattle.std.specs.Prelude.{◌≡◌, ℕ, List, Option, Some, None, Result, Ok, Err, Vec, map, option_and_then}
use Rattle.std.specs.declared.alloc.Global.{Global}
use Rattle.json.specs.Json.{value, if_last}
use Rattle.json.specs.Token.{Token}
use Rattle.serde_json.specs.Data.{Data}
use Rattle.serde_json.specs.Read.{of_json, max_depth}
use Rattle.kola_values.specs.Databases.{Classes, Objects}
use Rattle.kola_database.specs.ObjectViews.{object_tree}
use Rattle.kola_database.specs.declared.object.ObjectDef.{ObjectDef}
use Rattle.kola_load.specs.KeyViews.{lists_fault}
use Rattle.kola_load.specs.Loaded.{Reads}
use Rattle.kola_load.specs.Loading.{Test, db_fault}
use Rattle.kola_load.specs.Written.{objects_in}
use Rattle.kola_load.specs.declared.fault.DbFault.{DbFault}
use Rattle.kola_load.specs.declared.fault.DbFault.TheVariants.{Memory, NotJson}

-- Ok, with what P says, exactly where there is no fault, and else the fault; want of memory may come at any place
abbrev pub Finds : {T : Type 0} → Test → (T → Type 0) → Result T DbFault → Type 0
Finds fault P (Ok x) = (fault ≡ None) × P x
Finds fault P (Err e) = (e ≡ Memory → ⊥) → fault ≡ Some e

-- the objects of each class, as the program keeps them
abbrev pub lists_tree : Vec (Vec ObjectDef Global) Global → List Objects
lists_tree v = map (λ os. map object_tree os.items) v.items

-- Ok, with the objects of each class that a value writes, where the value's first fault is that of their keys, and else its first fault
abbrev pub FindsLists : Classes → Data → Result (Vec (Vec ObjectDef Global) Global) DbFault → Type 0
FindsLists S j (Ok v) = (lists_tree v ≡ map (objects_in j) S) × (db_fault S j ≡ lists_fault S (lists_tree v))
FindsLists S j (Err e) = (e ≡ Memory → ⊥) → db_fault S j ≡ Some e

-- nothing more is said
abbrev pub Nothing : {T : Type 0} → T → Type 0
Nothing x = Unit {0}

-- the text reads as no JSON value; want of memory may come at any place
abbrev pub IsOfText : List ℕ → DbFault → Type 0
IsOfText text e = (e ≡ Memory → ⊥) → (e ≡ NotJson) × ((j : Data) → Reads text j → ⊥)

-- the value that all tokens together read as
abbrev pub read_of : List Token → Option Data
read_of ts = option_and_then of_json (option_and_then (λ p. if_last p.0 p.1) (value max_depth ts))

-- there is no value; want of memory may come at any place
abbrev pub IsOfTokens : {A : Type 0} → Option A → DbFault → Type 0
IsOfTokens found e = (e ≡ Memory → ⊥) → (e ≡ NotJson) × (found ≡ None)
