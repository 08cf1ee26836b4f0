-- Which tokens spell a schema: by cases on the schema. d is how many sets may nest in a type.
use Rattle.std.specs.Prelude.{◌≡◌, ◌⊎◌, ℕ, zero, suc, List, [], ◌∷◌, Option, Some, None, option_map}
use Rattle.kola_base.specs.Placed.{Placed}
use Rattle.kola_parse.specs.Kinds.{leads}
use Rattle.kola_parse.specs.Texts.{◌·◌, ends, none}
use Rattle.kola_parse.specs.Listed.{Listed}
use Rattle.kola_load.specs.SchemaTree.{Named, TypeAt, AInt, AStr, ABool, ASet, AClass, AttributeAt, ClassAt}
use Rattle.kola_base.specs.declared.sign.Sign.{Sign}
use Rattle.kola_base.specs.declared.sign.Sign.TheVariants.{Open, Close, LeftBrace, RightBrace, Less, Greater, Comma, Semicolon}
use Rattle.kola_base.specs.Alphabets.{KSign, KWord}
use Rattle.kola_base.specs.Named.{name_of, NameText}
use Rattle.kola_load.specs.SchemaAlphabet.{Kind, kind}
use Rattle.kola_load.specs.declared.schema_alphabet.Word.{Word}
use Rattle.kola_load.specs.declared.schema_alphabet.Word.TheVariants as w

abbrev pub Text : Type 1
Text = List Placed → Type 0

-- ---- tokens

infixr 60 ◌▸◌
-- such a token, and then a text of A
abbrev pub ◌▸◌ : (Placed → Type 0) → Text → Text
P ▸ A = leads P A

abbrev pub IsSign : Sign → Placed → Type 0
IsSign s t = kind t ≡ KSign s

abbrev pub IsWord : Word → Placed → Type 0
IsWord w t = kind t ≡ KWord w

-- ---- types

-- the type that a token is alone: a name is any word but those of types
abbrev pub leaf_of : Kind → Option Named → Option TypeAt
leaf_of (KWord w.Int) n = Some AInt
leaf_of (KWord w.Long) n = Some AInt
leaf_of (KWord w.String) n = Some AStr
leaf_of (KWord w.Bool) n = Some ABool
leaf_of (KWord w.Boolean) n = Some ABool
leaf_of (KWord w.Set) n = None
leaf_of k n = option_map AClass n

abbrev pub leaf : Placed → Option TypeAt
leaf t = leaf_of (kind t) (name_of t)

abbrev pub TypeText : TypeAt → ℕ → Text
TypeText (ASet x) zero = none
TypeText (ASet x) (suc d) = IsWord w.Set ▸ IsSign Less ▸ (TypeText x d · IsSign Greater ▸ ends)
TypeText x d = (λ t. leaf t ≡ Some x) ▸ ends

-- ---- keys

-- names with commas between them, in parentheses
abbrev pub NamesText : List Named → Text
NamesText [] = none
NamesText (n ∷ ns) = IsSign Open ▸ (NameText n · Listed (λ m. IsSign Comma ▸ NameText m) (IsSign Close ▸ ends) ns)

-- one name may stand alone
abbrev pub KeyText : List Named → Text
KeyText (n ∷ []) ts = NameText n ts ⊎ NamesText (n ∷ []) ts
KeyText ns w = NamesText ns w

-- a comma may stand before it
abbrev pub MayComma : Text → Text
MayComma A ts = (IsSign Comma ▸ A) ts ⊎ A ts

abbrev pub KeysText : List (List Named) → Text
KeysText = Listed (λ k. MayComma (IsWord w.Key ▸ KeyText k)) (IsSign Close ▸ ends)

-- ---- classes

abbrev pub AttributesText : ℕ → List AttributeAt → Text
AttributesText d = Listed (λ a. IsWord w.Attribute ▸ (TypeText a.type d · (NameText a.name · IsSign Semicolon ▸ ends))) (IsSign RightBrace ▸ ends)

-- the text behind the word
abbrev pub BodyText : ℕ → ClassAt → Text
BodyText d c = NameText c.name · IsSign Open ▸ IsWord w.Extent ▸ (NameText c.extent · (KeysText c.keys · IsSign LeftBrace ▸ AttributesText d c.attributes))

-- a semicolon, or nothing
abbrev pub EndText : Text
EndText ts = (IsSign Semicolon ▸ ends) ts ⊎ ends ts

abbrev pub ClassText : ℕ → ClassAt → Text
ClassText d c = IsWord w.Class ▸ (BodyText d c · EndText)

abbrev pub SchemaText : List ClassAt → ℕ → Text
SchemaText cs d = Listed (ClassText d) ends cs
