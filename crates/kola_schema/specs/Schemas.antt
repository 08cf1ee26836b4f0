-- When a list of classes is a well-formed schema, and the parts of a schema by their names.
use Rattle.std.specs.Prelude.{ℕ, Bool, true, false, not, ◌&&◌, List, [], ◌∷◌, Option, Some, None, map, cond, slice_get, option_map, option_and_then}
use Rattle.std.specs.List.{list_all}
use Rattle.std.specs.Str.{bytes_eq}
use Rattle.kola_values.specs.Types.{TypeTree, TInt, TStr, TBool, TUnit, TClass, TVar, TSet, TPair, TStruct}
use Rattle.kola_core.specs.NameLists.{is_listed}
use Rattle.kola_values.specs.Databases.{Class, Classes}

-- no name stands twice
abbrev pub are_distinct : List (List ℕ) → Bool
are_distinct [] = true
are_distinct (n ∷ ns) = not (is_listed n ns) && are_distinct ns

-- the labels of a list of labelled things
abbrev pub names_of : {A : Type 0} → List (List ℕ × A) → List (List ℕ)
names_of es = map (λ e. e.0) es

abbrev pub class_names : Classes → List (List ℕ)
class_names S = map (λ (k : Class). k.name) S

abbrev pub extent_names : Classes → List (List ℕ)
extent_names S = map (λ (k : Class). k.extent) S

-- a type is built of integers, strings, truth values, sets and the classes of these names
abbrev pub is_stored_type : List (List ℕ) → TypeTree → Bool
is_stored_type cs TInt = true
is_stored_type cs TStr = true
is_stored_type cs TBool = true
is_stored_type cs (TClass c) = is_listed c cs
is_stored_type cs (TSet t) = is_stored_type cs t
is_stored_type cs TUnit = false
is_stored_type cs (TVar n) = false
is_stored_type cs (TPair t u) = false
is_stored_type cs (TStruct fs) = false

-- a key is a non-empty list of attributes of these names
abbrev pub is_key : List (List ℕ) → List (List ℕ) → Bool
is_key attributes [] = false
is_key attributes (a ∷ more_names) = list_all (λ n. is_listed n attributes) (a ∷ more_names)

-- a class is well formed beside the classes of these names: its attributes are distinct and of stored types, its keys are keys
abbrev pub is_class : List (List ℕ) → Class → Bool
is_class cs k =
    are_distinct (names_of k.attributes)
    && (list_all (λ (e : List ℕ × TypeTree). is_stored_type cs e.1) k.attributes && list_all (is_key (names_of k.attributes)) k.keys)

-- no two classes have one name, no two have one extent, and each class is well formed
abbrev pub is_schema : Classes → Bool
is_schema S = are_distinct (class_names S) && (are_distinct (extent_names S) && list_all (is_class (class_names S)) S)

-- the class of the name
abbrev pub class_named : Classes → List ℕ → Option Class
class_named [] c = None
class_named (k ∷ ks) c = cond (bytes_eq c k.name) (Some k) (class_named ks c)

-- the extent of the class of the name
abbrev pub extent_named : Classes → List ℕ → Option (List ℕ)
extent_named S c = option_map (λ (k : Class). k.extent) (class_named S c)

-- the key at place n, from 0, of the class of the name
abbrev pub key_at : Classes → List ℕ → ℕ → Option (List (List ℕ))
key_at S c n = option_and_then (λ (k : Class). slice_get k.keys n) (class_named S c)
