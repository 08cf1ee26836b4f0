-- What a schema is without the places of its names.
use Rattle.std.specs.Prelude.{ℕ, List, [], ◌∷◌, map}
use Rattle.kola_values.specs.Types.{TypeTree, TInt, TStr, TBool, TClass, TSet}
use Rattle.kola_values.specs.Databases.{Class, Classes}
use Rattle.kola_load.specs.SchemaTree.{Named, TypeAt, AInt, AStr, ABool, ASet, AClass, AttributeAt, ClassAt}
use Rattle.kola_load.specs.SchemaFaults.{names}

abbrev pub plain_type : TypeAt → TypeTree
plain_type AInt = TInt
plain_type AStr = TStr
plain_type ABool = TBool
plain_type (ASet t) = TSet (plain_type t)
plain_type (AClass n) = TClass n.name

abbrev pub plain_attribute : AttributeAt → List ℕ × TypeTree
plain_attribute a = (a.name.name, plain_type a.type)

abbrev pub plain_class : ClassAt → Class
plain_class c = record { name = c.name.name; extent = c.extent.name; attributes = map plain_attribute c.attributes; keys = map names c.keys }

abbrev pub plain : List ClassAt → Classes
plain cs = map plain_class cs

-- no key is empty
abbrev pub AreSome : List (List Named) → Type 0
AreSome [] = Unit {0}
AreSome ([] ∷ ks) = ⊥
AreSome (k ∷ ks) = AreSome ks

abbrev pub HaveKeys : List ClassAt → Type 0
HaveKeys [] = Unit {0}
HaveKeys (c ∷ cs) = AreSome c.keys × HaveKeys cs
