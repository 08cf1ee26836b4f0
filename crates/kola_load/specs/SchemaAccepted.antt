-- What a text of a schema is, and where a text that is none is at fault.
use Rattle.std.specs.Prelude.{◌≡◌, ℕ, List, Result, Ok, Err}
use Rattle.kola_base.specs.declared.text_fault.TextWhy.{TextWhy}
use Rattle.kola_base.specs.declared.text_fault.TextWhy.TheVariants as texts
use Rattle.kola_base.specs.declared.text_fault.TextFault.{TextFault}
use Rattle.kola_base.specs.declared.text_fault.TextFault.TheVariants as fault
use Rattle.kola_base.specs.Tokens.{StopsAt}
use Rattle.kola_base.specs.Placed.{Placed}
use Rattle.kola_base.specs.Spelled.{Spells, SyntaxAt}
use Rattle.kola_parse.specs.declared.why.Why.TheVariants as why
use Rattle.kola_values.specs.Databases.{Classes}
use Rattle.kola_load.specs.SchemaTree.{ClassAt}
use Rattle.kola_load.specs.SchemaGrammar.{SchemaText}
use Rattle.kola_load.specs.SchemaFaults.{Stands, IsFirst}
use Rattle.kola_load.specs.PlainSchemas.{plain}
use Rattle.kola_load.specs.declared.schema_fault.Mark.{Mark}
use Rattle.kola_load.specs.declared.schema_fault.NameWhy.{NameWhy}
use Rattle.kola_load.specs.declared.schema_fault.NameWhy.TheVariants as name
use Rattle.kola_load.specs.declared.schema_fault.SchemaWhy.{SchemaWhy}
use Rattle.kola_load.specs.declared.schema_fault.SchemaWhy.TheVariants.{Lex, Unexpected, TooDeep, NameNotAllowed, TwiceDefined, UnknownClass, UnknownKeyAttribute}
use Rattle.kola_load.specs.declared.schema_fault.SchemaFault.{SchemaFault}
use Rattle.kola_load.specs.declared.schema_fault.SchemaFault.TheVariants.{At, Memory}

-- how many sets may nest in a type
abbrev pub greatest_nesting : ℕ
greatest_nesting = 100

-- the schemas in whose types at most d sets nest
abbrev pub Schemas : ℕ → List ClassAt → List Placed → Type 0
Schemas d cs = SchemaText cs d

-- the text spells a schema without fault, which is S
pub record Writes (d : ℕ) (text : List ℕ) (S : Classes) : Type 0 where
  pub tree : List ClassAt
  pub spells : Spells (Schemas d) text tree
  pub fine : (m : Mark) → Stands tree m → ⊥
  pub is : S ≡ plain tree

-- ---- faults

-- the text spells a schema, whose names are at fault first at this place, for this reason
pub record NameAt (d : ℕ) (text : List ℕ) (at : ℕ) (w : NameWhy) : Type 0 where
  pub tree : List ClassAt
  pub spells : Spells (Schemas d) text tree
  pub first : IsFirst tree (record { at = at; why = w })

-- a text is at fault where it has no tokens, else where its syntax is, and else where its names are
abbrev pub FaultOf : ℕ → List ℕ → ℕ → SchemaWhy → Type 0
FaultOf d text at (Lex w) = StopsAt text at w
FaultOf d text at Unexpected = SyntaxAt Schemas d text at why.Unexpected
FaultOf d text at TooDeep = SyntaxAt Schemas d text at why.TooDeep
FaultOf d text at NameNotAllowed = NameAt d text at name.NotAllowed
FaultOf d text at TwiceDefined = NameAt d text at name.TwiceDefined
FaultOf d text at UnknownClass = NameAt d text at name.UnknownClass
FaultOf d text at UnknownKeyAttribute = NameAt d text at name.UnknownKeyAttribute

abbrev pub IsFault : ℕ → List ℕ → SchemaFault → Type 0
IsFault d text Memory = Unit {0}
IsFault d text (At at w) = FaultOf d text at w

-- what is answered is the schema, unless memory ran out
abbrev pub IsSchema : Classes → Result Classes SchemaFault → Type 0
IsSchema S (Ok s) = s ≡ S
IsSchema S (Err Memory) = Unit {0}
IsSchema S (Err (At at w)) = ⊥

-- ---- causes as those of a text

abbrev pub of_cause : TextWhy → SchemaWhy
of_cause (texts.Lex w) = Lex w
of_cause texts.Unexpected = Unexpected
of_cause texts.TooDeep = TooDeep

abbrev pub of_text : TextFault → SchemaFault
of_text fault.Memory = Memory
of_text (fault.At at w) = At at (of_cause w)

abbrev pub name_why : NameWhy → SchemaWhy
name_why name.NotAllowed = NameNotAllowed
name_why name.TwiceDefined = TwiceDefined
name_why name.UnknownClass = UnknownClass
name_why name.UnknownKeyAttribute = UnknownKeyAttribute

-- the names of the classes are at fault first there
abbrev pub IsMarked : List ClassAt → SchemaFault → Type 0
IsMarked cs Memory = Unit {0}
IsMarked cs (At at w) = (y : NameWhy) × (w ≡ name_why y) × IsFirst cs (record { at = at; why = y })

-- what is answered is the fault, unless memory ran out
abbrev pub IsAt : ℕ → SchemaWhy → Result Classes SchemaFault → Type 0
IsAt at w (Ok s) = ⊥
IsAt at w (Err Memory) = Unit {0}
IsAt at w (Err (At b v)) = (b ≡ at) × (v ≡ w)
