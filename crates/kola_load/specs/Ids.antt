-- The ids of the objects of each class, as the program keeps them.
use Rattle.std.specs.Prelude.{◌≡◌, ℕ, Bool, false, List}
use Rattle.std.specs.Option.{option_map_or}
use Rattle.std.specs.Ordering.{nat_cmp}
use Rattle.std.specs.BTreeMap.{get_by_text}
use Rattle.std.specs.BTreeSet.{BTreeSet, contains}
use Rattle.serde_json.specs.Data.{Data}
use Rattle.kola_values.specs.Databases.{Classes}
use Rattle.kola_load.specs.Written.{is_taken, is_there}
use Rattle.kola_load.specs.declared.ids.Ids.{Ids}

-- the set has exactly the ids of the elements of a list
abbrev pub AreIds : BTreeSet ℕ → List Data → Type 0
AreIds s ds = (i : ℕ) → contains nat_cmp s i ≡ is_taken i ds

-- the table has the id at the class
abbrev pub there : Ids → List ℕ × ℕ → Bool
there t r = option_map_or (λ s. contains nat_cmp s r.1) (get_by_text t.by_class r.0) false

-- the table has exactly the ids of the objects of each class
abbrev pub AreAllIds : Ids → Classes → Data → Type 0
AreAllIds t S j = (r : List ℕ × ℕ) → there t r ≡ is_there S j r
