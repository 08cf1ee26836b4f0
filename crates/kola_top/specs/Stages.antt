-- What of a job has been accepted: a record for each stage on the way of a job, which begins with the stage before it.
use Rattle.std.specs.Prelude.{◌≡◌, ℕ, ◌≤◌, Option, List, [], length, slice_range, Some, None, Ok}
use Rattle.kola_top.specs.declared.section.Span.{Span}
use Rattle.kola_top.specs.declared.section.Sections.{Sections}
use Rattle.kola_top.specs.declared.words.Action.{Action}
use Rattle.kola_top.specs.declared.words.Action.TheVariants.{Translate, Run}
use Rattle.kola_top.specs.declared.section.Section.TheVariants.{Query}
use Rattle.kola_top.specs.Words.{action_of, needs}
use Rattle.kola_top.specs.Layout.{AreSections, place_of}
use Rattle.kola_base.specs.Spelled.{Spells, FaultOfText}
use Rattle.kola_base.specs.declared.text_fault.TextWhy.{TextWhy}
use Rattle.oql_syntax.specs.QueryAnswers.{SpellsQuery}
use Rattle.oql_tree.specs.QueryTrees.{QueryTree}
use Rattle.oql_check.specs.TypedQueries.{HasQueryType}
use Rattle.kola_translate.specs.Translation.{translation}
use Rattle.kola_translate.specs.TranslationAnswers.{FitsAtUnit}
use Rattle.kola_values.specs.Types.{TypeTree}
use Rattle.kola_values.specs.Values.{VUnit}
use Rattle.kola_values.specs.Databases.{Classes, Objects}
use Rattle.serde_json.specs.Data.{Data}
use Rattle.kola_load.specs.Loading.{db_of}
use Rattle.kola_load.specs.Loaded.{Reads}
use Rattle.kola_load.specs.SchemaAccepted.{greatest_nesting, Writes}
use Rattle.kola_term.specs.Visits.{visits}
use Rattle.kola_rule.specs.Rules.{DraftTree}
use Rattle.kola_laws.specs.Laws.{laws}
use Rattle.coko_text.specs.RuleGrammar.{FileText}
use Rattle.coko_text.specs.Limits.{greatest_nesting as greatest_type_nesting}
use Rattle.kola_proof.specs.Drafts.{AreValid}

-- the greatest length of a job, in bytes
abbrev pub greatest_length : ℕ
greatest_length = 16777216

-- the text of a section
abbrev pub text_at : List ℕ → Span → List ℕ
text_at job p = slice_range job p.from p.to

-- the text of a section; one that is absent is empty
abbrev pub text_in : List ℕ → Option Span → List ℕ
text_in job None = []
text_in job (Some p) = text_at job p

-- the text of the rules as an action reads it: one that it leaves unread is as if it were empty
abbrev pub rules_read : Action → List ℕ → Sections → List ℕ
rules_read Translate job found = []
rules_read a job found = text_in job found.rules

-- the text writes these rules with their proofs
abbrev pub WritesRules : List ℕ → List DraftTree → Type 0
WritesRules text ds = Spells (FileText greatest_type_nesting) text ds

-- the text writes no rules, and this is its first fault
abbrev pub IsRulesFault : List ℕ → ℕ → TextWhy → Type 0
IsRulesFault text at why = FaultOfText FileText greatest_type_nesting text at why

-- the text reads as a value that writes these objects
abbrev pub WritesObjects : Classes → List ℕ → Objects → Type 0
WritesObjects S text os = (j : Data) × Reads text j × (db_of S j ≡ Ok os)

-- the most members that a query's term may visit
abbrev pub visit_limit : ℕ
visit_limit = 5000000

-- ---- the stages

-- the words ask for the action, and the job is no longer than it may be
pub record IsTaken (words : List (List ℕ)) (job : List ℕ) (a : Action) : Type 0 where
  pub command : action_of words ≡ Some a
  pub is_short : length job ≤ greatest_length

-- no line is faulty, and these are the places of the sections
pub record IsLaidOut (words : List (List ℕ)) (job : List ℕ) (a : Action) : Type 0 where
  pub before : IsTaken words job a
  pub found : Sections
  pub sections : AreSections job found

-- the section that the action needs is there
pub record HasSections (words : List (List ℕ)) (job : List ℕ) (a : Action) : Type 0 where
  pub before : IsLaidOut words job a
  pub place : Span
  pub needed : place_of (needs a) before.found ≡ Some place

-- the schema's text writes these classes
pub record HasSchema (words : List (List ℕ)) (job : List ℕ) (a : Action) : Type 0 where
  pub before : HasSections words job a
  pub classes : Classes
  pub writes : Writes greatest_nesting (text_in job before.before.found.schema) classes

-- the text of the rules writes these drafts
pub record HasRulesText (words : List (List ℕ)) (job : List ℕ) (a : Action) : Type 0 where
  pub before : HasSchema words job a
  pub drafts : List DraftTree
  pub writes : WritesRules (rules_read a job before.before.before.found) drafts

-- each draft is valid by the laws and the rules before it
pub record HasRules (words : List (List ℕ)) (job : List ℕ) (a : Action) : Type 0 where
  pub before : HasRulesText words job a
  pub valid : AreValid before.before.classes laws before.drafts

-- where the text lies that the action needs, what classes the schema has, and where the sections lie
abbrev pub place_in : {words : List (List ℕ)} {job : List ℕ} {a : Action} → HasRules words job a → Span
place_in s = s.before.before.before.place

abbrev pub classes_in : {words : List (List ℕ)} {job : List ℕ} {a : Action} → HasRules words job a → Classes
classes_in s = s.before.before.classes

abbrev pub found_in : {words : List (List ℕ)} {job : List ℕ} {a : Action} → HasRules words job a → Sections
found_in s = s.before.before.before.before.found

-- the action asks for a query, and its text spells this one
pub record HasQueryText (words : List (List ℕ)) (job : List ℕ) (a : Action) : Type 0 where
  pub before : HasRules words job a
  pub asks : needs a ≡ Query
  pub query : QueryTree
  pub spells : SpellsQuery (text_at job (place_in before)) query

-- the query has this type
pub record HasType (words : List (List ℕ)) (job : List ℕ) (a : Action) : Type 0 where
  pub before : HasQueryText words job a
  pub query_type : TypeTree
  pub typed : HasQueryType (classes_in before.before) [] before.query query_type

-- the query's term fits at the unit
pub record HasTerm (words : List (List ℕ)) (job : List ℕ) (a : Action) : Type 0 where
  pub before : HasType words job a
  pub fits : FitsAtUnit (classes_in before.before.before) (translation (classes_in before.before.before) before.before.query)

-- the query, and the classes under which it was read
abbrev pub query_in : {words : List (List ℕ)} {job : List ℕ} {a : Action} → HasTerm words job a → QueryTree
query_in s = s.before.before.query

abbrev pub schema_in : {words : List (List ℕ)} {job : List ℕ} {a : Action} → HasTerm words job a → Classes
schema_in s = classes_in s.before.before.before

abbrev pub sections_in : {words : List (List ℕ)} {job : List ℕ} {a : Action} → HasTerm words job a → Sections
sections_in s = found_in s.before.before.before

-- the database's text writes these objects
pub record HasDatabase (words : List (List ℕ)) (job : List ℕ) : Type 0 where
  pub before : HasTerm words job Run
  pub objects : Objects
  pub writes : WritesObjects (schema_in before) (text_in job (sections_in before).database) objects

-- how many members the query's term visits at the unit
abbrev pub visits_in : {words : List (List ℕ)} {job : List ℕ} → HasDatabase words job → ℕ
visits_in s = visits (schema_in s.before) s.objects (translation (schema_in s.before) (query_in s.before)) VUnit

-- the term visits no more members than it may
pub record HasValue (words : List (List ℕ)) (job : List ℕ) : Type 0 where
  pub before : HasDatabase words job
  pub within : visits_in before ≤ visit_limit
