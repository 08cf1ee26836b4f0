-- Reading schemas from left to right: what is read by the kind of the first token.
use Rattle.std.specs.Prelude.{ℕ, Bool, true, false, List, [], ◌∷◌, ◌++◌, Option, Some, None}
use Rattle.kola_base.specs.Placed.{Placed}
use Rattle.kola_parse.specs.Reader.{Answer, then, Move, Stray, Goes, eat, may, stop, done, pair, made, many}
use Rattle.kola_parse.specs.Kinds.{ahead, behind, deeper}
use Rattle.kola_parse.specs.Listed.{listed}
use Rattle.kola_parse.specs.Levels.{below}
use Rattle.kola_base.specs.declared.sign.Sign.TheVariants.{Open, Close, LeftBrace, RightBrace, Less, Greater, Comma, Semicolon}
use Rattle.kola_base.specs.Alphabets.{KSign, KWord, sign, word}
use Rattle.kola_base.specs.Named.{name_of, name_at}
use Rattle.kola_load.specs.SchemaTree.{Named, TypeAt, ASet, AttributeAt, ClassAt}
use Rattle.kola_load.specs.SchemaAlphabet.{word_spelling, Kind, kind}
use Rattle.kola_load.specs.SchemaGrammar.{leaf_of}
use Rattle.kola_load.specs.declared.schema_alphabet.Word.TheVariants as w

abbrev pub Reader : Type 0 → Type 0
Reader A = List Placed → Answer Placed A

-- ---- types

-- the reader of a type, where the one below reads a type one level below
abbrev pub leaf_move : Option TypeAt → Move Placed TypeAt
leaf_move (Some x) = Goes (done x)
leaf_move None = Stray

abbrev pub type_move : Option (Reader TypeAt) → Kind → Option Named → Move Placed TypeAt
type_move o (KWord w.Set) n = deeper o (λ i. made ASet (ahead (sign Less) (behind i (sign Greater))))
type_move o k n = leaf_move (leaf_of k n)

abbrev pub type_step : Option (Reader TypeAt) → Reader TypeAt
type_step o = eat (λ t. type_move o (kind t) (name_of t))

-- a type in which d sets may nest
abbrev pub type_at : ℕ → Reader TypeAt
type_at d = type_step (below type_step d)

-- ---- keys

-- behind names: one more, or the parenthesis
abbrev pub next_name_move : Kind → Move Placed (Option Named)
next_name_move (KSign Comma) = Goes (made Some name_at)
next_name_move (KSign Close) = Goes (done None)
next_name_move _ = Stray

abbrev pub next_name : Reader (Option Named)
next_name = eat (λ t. next_name_move (kind t))

abbrev pub names_at : Reader (List Named)
names_at = then name_at (λ n. listed next_name (n ∷ []))

abbrev pub key_move : Option Named → Kind → Move Placed (List Named)
key_move (Some n) k = Goes (done (n ∷ []))
key_move None (KSign Open) = Goes names_at
key_move None _ = Stray

abbrev pub key_at : Reader (List Named)
key_at = eat (λ t. key_move (name_of t) (kind t))

-- behind keys: one more, or the parenthesis
abbrev pub next_key_move : Kind → Move Placed (Option (List Named))
next_key_move (KSign Comma) = Goes (made Some (ahead (word (word_spelling w.Key)) key_at))
next_key_move (KWord w.Key) = Goes (made Some key_at)
next_key_move (KSign Close) = Goes (done None)
next_key_move _ = Stray

abbrev pub next_key : Reader (Option (List Named))
next_key = eat (λ t. next_key_move (kind t))

abbrev pub keys_at : Reader (List (List Named))
keys_at = listed next_key []

-- ---- classes; type reads a type

abbrev pub attribute_of : TypeAt × Named → AttributeAt
attribute_of x = record { type = x.0; name = x.1 }

abbrev pub attribute_at : Reader TypeAt → Reader AttributeAt
attribute_at type = made attribute_of (pair type (λ _. behind name_at (sign Semicolon)))

-- behind attributes: one more, or the brace
abbrev pub next_attribute_move : Reader TypeAt → Kind → Move Placed (Option AttributeAt)
next_attribute_move type (KWord w.Attribute) = Goes (made Some (attribute_at type))
next_attribute_move type (KSign RightBrace) = Goes (done None)
next_attribute_move type _ = Stray

abbrev pub next_attribute : Reader TypeAt → Reader (Option AttributeAt)
next_attribute type = eat (λ t. next_attribute_move type (kind t))

abbrev pub attributes_at : Reader TypeAt → Reader (List AttributeAt)
attributes_at type = listed (next_attribute type) []

abbrev pub class_of : Named × (Named × (List (List Named) × List AttributeAt)) → ClassAt
class_of x = record { name = x.0; extent = x.1.0; keys = x.1.1.0; attributes = x.1.1.1 }

abbrev pub body_at : Reader TypeAt → Reader ClassAt
body_at type =
    made class_of (pair name_at (λ _. ahead (sign Open) (ahead (word (word_spelling w.Extent)) (pair name_at (λ _. pair keys_at (λ _. ahead (sign LeftBrace) (attributes_at type)))))))

abbrev pub is_semicolon : Kind → Bool
is_semicolon (KSign Semicolon) = true
is_semicolon _ = false

-- a semicolon may stand behind a class, and no second one
abbrev pub end_move : ClassAt → Kind → Move Placed ClassAt
end_move c (KSign Semicolon) = Goes (stop (λ t. is_semicolon (kind t)) c)
end_move c _ = Stray

abbrev pub end_at : ClassAt → Reader ClassAt
end_at c = may c (λ t. end_move c (kind t))

abbrev pub class_move : Reader TypeAt → Kind → Move Placed ClassAt
class_move type (KWord w.Class) = Goes (then (body_at type) end_at)
class_move type _ = Stray

-- one more class, or none, which takes nothing
abbrev pub next_class_move : Reader TypeAt → Kind → Move Placed (Option ClassAt)
next_class_move type (KWord w.Class) = Goes (made Some (then (body_at type) end_at))
next_class_move type _ = Stray

abbrev pub next_class : Reader TypeAt → Reader (Option ClassAt)
next_class type = may None (λ t. next_class_move type (kind t))

abbrev pub grow : List ClassAt → ClassAt → List ClassAt
grow cs c = cs ++ c ∷ []

-- classes up to what begins none
abbrev pub classes_at : Reader TypeAt → Reader (List ClassAt)
classes_at type = many (λ cs t. class_move type (kind t)) grow []

-- a schema with types in which d sets may nest
abbrev pub schema_at : ℕ → Reader (List ClassAt)
schema_at d = classes_at (type_at d)
