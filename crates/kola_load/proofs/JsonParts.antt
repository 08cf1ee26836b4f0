-- The elements of an array as the program holds it, and the extent of a class in a JSON value.
use Rattle.std.proofs.Common.{◌≡◌, true, List, [], ◌∷◌, Some, map, flat_map, is_some, option_map, option_and_then, Global, refl, sym, ap, ◌∙◌}
use Rattle.std.specs.Option.{option_or, option_map_or}
use Rattle.serde_json.specs.Data.{Data}
use Rattle.serde_json.specs.Find.{get, as_array}
use Rattle.serde_json.specs.View.{items_of}
use Rattle.json.specs.declared.value.Value.{Value}
use Rattle.kola_load.specs.JsonViews.{view, items_view}
use Rattle.kola_values.specs.Databases.{Class}
use Rattle.kola_values.specs.Types.{TypeTree, TSet}
use Rattle.kola_values.specs.Sets.{set_of}
use Rattle.kola_load.specs.Json.{list_of, elements, is_array}
use Rattle.kola_load.specs.Loading.{unless, first_among, element_fault, array_fault, extent_fault}
use Rattle.kola_load.specs.declared.fault.DbFault.TheVariants.{NotAnArray}
use Rattle.kola_load.specs.Written.{whole, value_of, references, extent_of}

pub list_of-items : (ds : List Data) → list_of (items_of ds) ≡ ds
list_of-items [] = refl
list_of-items (d ∷ ds) = ap (λ l. d ∷ l) (list_of-items ds)

module _ (d : Data) (vs : List (Value Global)) (is : as_array d ≡ Some (items_view vs)) where
  pub an_array : is_array d ≡ true
  an_array = ap is_some is

  pub elements_seen : elements d ≡ map view vs
  elements_seen = ap (λ o. option_map_or list_of o []) is ∙ list_of-items (map view vs)

-- the extent of a class, where its member is an array
module _ (j : Data) (k : Class) (m : Data) (vs : List (Value Global)) (at : get k.extent j ≡ Some m) (is : as_array m ≡ Some (items_view vs)) where
  pub extent_seen : extent_of j k ≡ map view vs
  extent_seen = ap (λ o. option_map_or elements o []) at ∙ elements_seen m vs is

  pub extent_fault_seen : extent_fault j k ≡ first_among (element_fault k) [] (map view vs)
  extent_fault_seen = ap (array_fault k) at ∙ (λ i. option_or (unless (an_array m vs is i) (NotAnArray k.extent)) (first_among (element_fault k) [] (elements_seen m vs is i)))

-- the set that an array writes
pub set_value : (t : TypeTree) (d : Data) (vs : List (Value Global)) → as_array d ≡ Some (items_view vs) → option_map set_of (whole (map (value_of t) (map view vs))) ≡ value_of (TSet t) d
set_value t d vs is =
    sym (ap (option_and_then (λ ds. option_map set_of (whole (map (value_of t) (list_of ds))))) is ∙ ap (λ l. option_map set_of (whole (map (value_of t) l))) (list_of-items (map view vs)))

pub set_references : (t : TypeTree) (d : Data) (vs : List (Value Global)) → as_array d ≡ Some (items_view vs) → flat_map (references t) (map view vs) ≡ references (TSet t) d
set_references t d vs is = ap (flat_map (references t)) (sym (elements_seen d vs is))
