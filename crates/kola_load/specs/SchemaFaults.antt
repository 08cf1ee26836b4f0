-- The faults of a schema beyond its grammar: which cause stands at which place, and which fault is the first.
use Rattle.std.specs.Prelude.{◌≡◌, ◌⊎◌, ◌<◌, ◌≤◌, ◌&&◌, nat_le, ℕ, Bool, true, false, List, [], ◌∷◌, ◌++◌, map}
use Rattle.kola_core.specs.NameLists.{is_listed}
use Rattle.kola_load.specs.Names.{is_extent_name}
use Rattle.kola_load.specs.SchemaTree.{Named, TypeAt, ASet, AClass, AttributeAt, ClassAt}
use Rattle.kola_load.specs.declared.schema_fault.Mark.{Mark}
use Rattle.kola_load.specs.declared.schema_fault.NameWhy.{NameWhy}
use Rattle.kola_load.specs.declared.schema_fault.NameWhy.TheVariants.{NotAllowed, TwiceDefined, UnknownClass, UnknownKeyAttribute}

-- the cause at the name's place
abbrev pub mark : NameWhy → Named → Mark
mark why n = record { at = n.at; why = why }

-- some member of the list does
abbrev pub Among : {A : Type 0} → (A → Type 0) → List A → Type 0
Among P [] = ⊥
Among P (x ∷ xs) = P x ⊎ Among P xs

-- ---- names

abbrev pub starts_with_capital : List ℕ → Bool
starts_with_capital [] = false
starts_with_capital (b ∷ bs) = nat_le 65 b && nat_le b 90

abbrev pub names : List Named → List (List ℕ)
names ns = map (λ (n : Named). n.name) ns

abbrev pub class_names : List ClassAt → List Named
class_names cs = map (λ (c : ClassAt). c.name) cs

abbrev pub extents : List ClassAt → List Named
extents cs = map (λ (c : ClassAt). c.extent) cs

abbrev pub attributes : ClassAt → List Named
attributes c = map (λ (a : AttributeAt). a.name) c.attributes

-- the cause stands at the name where the test fails
abbrev pub Unless : Bool → NameWhy → Named → Mark → Type 0
Unless passes why n m = (passes ≡ false) × (m ≡ mark why n)

-- ---- causes

abbrev pub IsNotAllowed : ClassAt → Mark → Type 0
IsNotAllowed c m = Unless (starts_with_capital c.name.name) NotAllowed c.name m ⊎ Unless (is_extent_name c.extent.name) NotAllowed c.extent m

-- behind the names that are seen: one that is seen before
abbrev pub IsTwice : List (List ℕ) → List Named → Mark → Type 0
IsTwice seen [] m = ⊥
IsTwice seen (n ∷ ns) m = ((is_listed n.name seen ≡ true) × (m ≡ mark TwiceDefined n)) ⊎ IsTwice (seen ++ n.name ∷ []) ns m

-- the class that the type names is none of these
abbrev pub IsUnknown : List (List ℕ) → TypeAt → Mark → Type 0
IsUnknown cs (ASet t) m = IsUnknown cs t m
IsUnknown cs (AClass n) m = Unless (is_listed n.name cs) UnknownClass n m
IsUnknown cs _ m = ⊥

-- a name of the key is no attribute
abbrev pub IsUnknownKey : List (List ℕ) → List Named → Mark → Type 0
IsUnknownKey known k m = Among (λ n. Unless (is_listed n.name known) UnknownKeyAttribute n m) k

-- the fault stands in a class, where these are the names of all classes
abbrev pub StandsInClass : List (List ℕ) → ClassAt → Mark → Type 0
StandsInClass cs c m =
    IsNotAllowed c m
    ⊎ (IsTwice [] (attributes c) m
    ⊎ (Among (λ (a : AttributeAt). IsUnknown cs a.type m) c.attributes
    ⊎ Among (λ k. IsUnknownKey (names (attributes c)) k m) c.keys))

abbrev pub Stands : List ClassAt → Mark → Type 0
Stands cs m = IsTwice [] (class_names cs) m ⊎ (IsTwice [] (extents cs) m ⊎ Among (λ c. StandsInClass (names (class_names cs)) c m) cs)

-- ---- the first fault

-- at one place the causes have this order
abbrev pub rank : NameWhy → ℕ
rank NotAllowed = 0
rank TwiceDefined = 1
rank UnknownClass = 2
rank UnknownKeyAttribute = 3

abbrev pub Before : Mark → Mark → Type 0
Before m n = (m.at < n.at) ⊎ ((m.at ≡ n.at) × (rank m.why ≤ rank n.why))

pub record IsFirst (cs : List ClassAt) (m : Mark) : Type 0 where
  pub stands : Stands cs m
  pub least : (n : Mark) → Stands cs n → Before m n
