-- What the reader of whole queries answers.
use Rattle.std.specs.Prelude.{ℕ, List, codes}
use Rattle.kola_base.specs.CauseNames.{lex_name}
use Rattle.kola_base.specs.declared.lex.LexFault.{LexFault}
use Rattle.kola_base.specs.declared.lex.LexFault.TheVariants as lex
use Rattle.kola_base.specs.Spelled.{Spells}
use Rattle.oql_syntax.specs.Grammar.{QueryText}
use Rattle.oql_syntax.specs.Limits.{greatest_query}
use Rattle.oql_syntax.specs.QueryFaults.{QueryCause, CLex, CUnexpected, CTooDeep, CNotInProfile, FaultOfQuery, Refusal, RMemory, RAt, IsRefusal}
use Rattle.oql_tree.specs.QueryTrees.{QueryTree}
use Rattle.oql_syntax.specs.declared.read.QueryWhy.{QueryWhy}
use Rattle.oql_syntax.specs.declared.read.QueryWhy.TheVariants as whys
use Rattle.oql_syntax.specs.declared.read.QueryFault.{QueryFault}
use Rattle.oql_syntax.specs.declared.read.QueryFault.TheVariants as faults

-- the text spells the query, within the limits
abbrev pub SpellsQuery : List ℕ → QueryTree → Type 0
SpellsQuery text x = Spells (QueryText greatest_query greatest_query) text x

-- the text is at fault first at this place, for this cause
abbrev pub IsQueryFault : List ℕ → ℕ → QueryCause → Type 0
IsQueryFault text at c = FaultOfQuery (λ n. QueryText n n) greatest_query text at c

-- ---- what the program answers

abbrev pub why_cause : QueryWhy → QueryCause
why_cause (whys.Lex w) = CLex w
why_cause whys.Unexpected = CUnexpected
why_cause (whys.NotInProfile word) = CNotInProfile word
why_cause whys.TooDeep = CTooDeep

abbrev pub fault_refusal : QueryFault → Refusal
fault_refusal (faults.At at why) = RAt at (why_cause why)
fault_refusal faults.Memory = RMemory

-- the fault of a text without tokens
abbrev pub of_lexer : LexFault → QueryFault
of_lexer lex.Memory = faults.Memory
of_lexer (lex.At at w) = faults.At at (whys.Lex w)

-- a refusal that the text gives cause for
abbrev pub IsQueryRefusal : List ℕ → Refusal → Type 0
IsQueryRefusal text r = IsRefusal (λ n. QueryText n n) greatest_query text r

-- the name of a cause, without the word that it names
abbrev pub cause_name : QueryCause → List ℕ
cause_name (CLex w) = lex_name w
cause_name CUnexpected = codes "Unexpected"
cause_name CTooDeep = codes "TooDeep"
cause_name (CNotInProfile word) = codes "NotInProfile"
