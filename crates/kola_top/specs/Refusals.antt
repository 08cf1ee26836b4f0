-- Why a job has no report, in the words of its answer; and what a call on the way to the report says.
use Rattle.std.specs.Prelude.{◌≡◌, ℕ, Bool, true, false, List, Result, Ok, Err, codes}
use Rattle.kola_base.specs.declared.text_fault.TextFault.{TextFault}
use Rattle.kola_base.specs.declared.text_fault.TextFault.TheVariants as text
use Rattle.kola_proof.specs.declared.fault.FileFault.{FileFault}
use Rattle.kola_proof.specs.declared.fault.FileFault.TheVariants as file
use Rattle.kola_load.specs.declared.schema_fault.SchemaFault.{SchemaFault}
use Rattle.kola_load.specs.declared.schema_fault.SchemaFault.TheVariants as schema
use Rattle.kola_load.specs.declared.fault.DbFault.{DbFault}
use Rattle.kola_load.specs.declared.fault.DbFault.TheVariants as db
use Rattle.kola_eval.specs.declared.fault.EvalFault.{EvalFault}
use Rattle.kola_eval.specs.declared.fault.EvalFault.TheVariants as eval
use Rattle.oql_check.specs.declared.fault.CheckFault.{CheckFault}
use Rattle.oql_check.specs.declared.fault.CheckFault.TheVariants as check
use Rattle.kola_translate.specs.declared.fault.TranslateFault.{TranslateFault}
use Rattle.kola_translate.specs.declared.fault.TranslateFault.TheVariants as translate
use Rattle.oql_syntax.specs.QueryAnswers.{why_cause}
use Rattle.oql_syntax.specs.declared.read.QueryFault.{QueryFault}
use Rattle.oql_syntax.specs.declared.read.QueryFault.TheVariants as query
use Rattle.kola_top.specs.declared.refusal.Refusal.{Refusal}
use Rattle.kola_top.specs.declared.refusal.Refusal.TheVariants.{Layout, Missing, Schema, Rules, Rule, Query, QueryType, TermTooLarge, Database, Visits, Memory}
use Rattle.kola_top.specs.declared.status.Status.{Status}
use Rattle.kola_top.specs.declared.status.Status.TheVariants as statuses
use Rattle.kola_top.specs.FaultLines.{layout_fault_line, missing_line, schema_line, rules_line, rule_line, query_fault_line, query_type_line, too_large_line, database_line, visits_line}
use Rattle.kola_top.specs.Staged.{Says, Stage}

abbrev pub of_schema : SchemaFault → Refusal
of_schema (schema.At at why) = Schema at why
of_schema schema.Memory = Memory

abbrev pub of_rules : TextFault → Refusal
of_rules (text.At at why) = Rules at why
of_rules text.Memory = Memory

abbrev pub of_file : FileFault → Refusal
of_file (file.Refused name step why) = Rule name step why
of_file file.Memory = Memory

abbrev pub of_query : QueryFault → Refusal
of_query (query.At at why) = Query at why
of_query query.Memory = Memory

abbrev pub of_check : CheckFault → Refusal
of_check (check.At at why) = QueryType at why
of_check check.Memory = Memory

abbrev pub of_translate : TranslateFault → Refusal
of_translate translate.TooLarge = TermTooLarge
of_translate translate.Memory = Memory

abbrev pub of_database : DbFault → Refusal
of_database db.Memory = Memory
of_database f = Database f

abbrev pub of_eval : EvalFault → Refusal
of_eval (eval.VisitLimit limit) = Visits limit
of_eval eval.Memory = Memory

-- a refusal that is told by a line
abbrev pub is_told : Refusal → Bool
is_told Memory = false
is_told r = true

abbrev pub status_of : Refusal → Status
status_of (Layout f) = statuses.Layout
status_of (Missing line section) = statuses.Layout
status_of (Schema at why) = statuses.Schema
status_of (Rules at why) = statuses.Rules
status_of (Rule name step why) = statuses.Rules
status_of (Query at why) = statuses.Query
status_of (QueryType at why) = statuses.Query
status_of TermTooLarge = statuses.TermTooLarge
status_of (Database f) = statuses.Database
status_of (Visits limit) = statuses.Visits
status_of Memory = statuses.Memory

abbrev pub line_of : Refusal → List ℕ
line_of (Layout f) = layout_fault_line f
line_of (Missing line section) = missing_line line section
line_of (Schema at why) = schema_line at why
line_of (Rules at why) = rules_line at why
line_of (Rule name step why) = rule_line name step why
line_of (Query at why) = query_fault_line at (why_cause why)
line_of (QueryType at why) = query_type_line at why
line_of TermTooLarge = too_large_line
line_of (Database f) = database_line f
line_of (Visits limit) = visits_line limit
line_of Memory = codes ""

-- a refusal says its answer; want of memory says nothing
abbrev pub Refuses : Says → Refusal → Type 0
Refuses A Memory = Unit {0}
Refuses A r = A (status_of r) (line_of r)

-- a call on the way says the report or a refusal
abbrev pub Replies : {T : Type 0} → (T → List ℕ) → Says → Result T Refusal → Type 0
Replies view A (Ok bytes) = A statuses.Ok (view bytes)
Replies view A (Err r) = Refuses A r

-- a refusal of a stage: it has the status and the bytes of one
abbrev pub IsOf : {F R : Type 0} → Stage F R → Status → List ℕ → Type 0
IsOf {F = F} g s b = (e : F) × g.refuses e × (s ≡ g.status e) × (b ≡ g.bytes e)

-- a call answers as a stage does
abbrev pub Passes : {F R T : Type 0} → Stage F R → (T → R) → Result T Refusal → Type 0
Passes g view (Ok x) = g.accepts (view x)
Passes g view (Err r) = Refuses (IsOf g) r
