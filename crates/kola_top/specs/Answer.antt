-- The answer to the words and a job: its status and the bytes that are written. A case for each refusal, which comes where all stages before it are accepted, and one for the report of each action, where all are.
use Rattle.std.specs.Prelude.{◌≡◌, ℕ, ◌+◌, ◌<◌, Bool, true, false, List, [], length, map, Some, None, codes}
use Rattle.kola_base.specs.declared.text_fault.TextWhy.{TextWhy}
use Rattle.kola_top.specs.declared.layout.LayoutFault.{LayoutFault}
use Rattle.kola_top.specs.declared.words.Action.{Action}
use Rattle.kola_top.specs.declared.words.Action.TheVariants.{Check, Translate, Run}
use Rattle.kola_top.specs.declared.section.Section.TheVariants.{Query}
use Rattle.kola_top.specs.declared.status.Status.{Status}
use Rattle.kola_top.specs.declared.status.Status.TheVariants as statuses
use Rattle.kola_top.specs.Words.{action_of, needs}
use Rattle.kola_top.specs.Layout.{lines_of, kinds, IsFirstFault, place_of}
use Rattle.kola_text.specs.Spelling.{fun_spelling}
use Rattle.kola_canon.specs.Spelling.{value_spelling, type_spelling}
use Rattle.kola_values.specs.Types.{TypeTree}
use Rattle.kola_values.specs.Values.{VUnit}
use Rattle.kola_values.specs.Databases.{Classes, Objects}
use Rattle.kola_load.specs.Loaded.{IsFirstFault as IsFirstDbFault}
use Rattle.kola_load.specs.SchemaAccepted.{greatest_nesting, FaultOf}
use Rattle.kola_load.specs.declared.schema_fault.SchemaWhy.{SchemaWhy}
use Rattle.kola_load.specs.declared.fault.DbFault.{DbFault}
use Rattle.kola_load.specs.declared.fault.DbFault.TheVariants.{Memory}
use Rattle.oql_syntax.specs.QueryAnswers.{IsQueryFault}
use Rattle.oql_syntax.specs.QueryFaults.{QueryCause}
use Rattle.oql_tree.specs.QueryTrees.{QueryTree}
use Rattle.oql_check.specs.QueryTypes.{FirstFault}
use Rattle.oql_check.specs.QueryMeaning.{mean}
use Rattle.oql_check.specs.declared.fault.CheckWhy.{CheckWhy}
use Rattle.kola_translate.specs.Translation.{translation}
use Rattle.kola_translate.specs.TranslationAnswers.{FitsAtUnit}
use Rattle.kola_term.specs.Visits.{visits as members_visited}
use Rattle.kola_rule.specs.Rules.{DraftTree}
use Rattle.kola_laws.specs.Laws.{laws}
use Rattle.kola_proof.specs.Drafts.{FirstBadDraft}
use Rattle.kola_proof.specs.declared.fault.StepWhy.{StepWhy}
use Rattle.kola_top.specs.Report.{check_text, translate_text, Report, report_text}
use Rattle.kola_top.specs.FaultLines.{usage_line, too_long_line, layout_fault_line, missing_line, schema_line, rules_line, rule_line, query_fault_line, query_type_line, too_large_line, database_line, visits_line}
use Rattle.kola_top.specs.Stages.{greatest_length, visit_limit, text_at, text_in, rules_read, IsRulesFault, IsTaken, IsLaidOut, HasSections, HasSchema, HasRulesText, HasRules, place_in, classes_in, HasQueryText, HasType, HasTerm, query_in, schema_in, sections_in, HasDatabase, visits_in, HasValue}

-- what `check` reports: the names of the rules, and no block, which no text can write yet
abbrev pub report_of_check : List DraftTree → List ℕ
report_of_check ds = check_text (map (λ (d : DraftTree). d.rule.name) ds) 0

-- what `translate` reports: the query's term and its type
abbrev pub report_of_translate : Classes → QueryTree → TypeTree → List ℕ
report_of_translate S q t = translate_text (fun_spelling (translation S q)) (type_spelling t)

-- what `run` reports where no block is named: the one step that is taken changes nothing
abbrev pub unchanged_report : List ℕ → ℕ → List ℕ → Report
unchanged_report query visits result = record {
  query = query;
  block = codes "-";
  plan = query;
  outcome = codes "done";
  ok = true;
  firings = 0;
  steps = 1;
  visits = visits;
  result = result;
}

-- what `run` reports: the query's term, the members that it visits at the unit, and the query's value under no variable
abbrev pub report_of_run : Classes → Objects → QueryTree → Report
report_of_run S os q = unchanged_report (fun_spelling (translation S q)) (members_visited S os (translation S q) VUnit) (value_spelling (mean S os q []))

abbrev pub is_memory : DbFault → Bool
is_memory Memory = true
is_memory _ = false

-- a fault of a database; want of memory is none
abbrev pub IsRefused : Classes → List ℕ → DbFault → Type 0
IsRefused S text f = (is_memory f ≡ false) × IsFirstDbFault S text f

pub data Answer (words : List (List ℕ)) (job : List ℕ) : Status → List ℕ → Type 0 where
  usage : action_of words ≡ None → Answer words job statuses.Usage usage_line
  too_long : (a : Action) → action_of words ≡ Some a → greatest_length < length job → Answer words job statuses.TooLong too_long_line
  layout : (a : Action) (fault : LayoutFault) → IsTaken words job a → IsFirstFault (kinds (lines_of job)) fault → Answer words job statuses.Layout (layout_fault_line fault)
  missing : (a : Action) (s : IsLaidOut words job a) → place_of (needs a) s.found ≡ None → Answer words job statuses.Layout (missing_line (s.found.lines + 1) (needs a))
  schema : (a : Action) (at : ℕ) (why : SchemaWhy) (s : HasSections words job a) → FaultOf greatest_nesting (text_in job s.before.found.schema) at why → Answer words job statuses.Schema (schema_line at why)
  rules_text : (a : Action) (at : ℕ) (why : TextWhy) (s : HasSchema words job a) → IsRulesFault (rules_read a job s.before.before.found) at why → Answer words job statuses.Rules (rules_line at why)
  rule : (a : Action) (name : List ℕ) (step : ℕ) (why : StepWhy) (s : HasRulesText words job a) → FirstBadDraft s.before.classes laws s.drafts name step why → Answer words job statuses.Rules (rule_line name step why)
  check_report : (s : HasRules words job Check) → Answer words job statuses.Ok (report_of_check s.before.drafts)
  query_text : (a : Action) (at : ℕ) (cause : QueryCause) (s : HasRules words job a) → needs a ≡ Query → IsQueryFault (text_at job (place_in s)) at cause → Answer words job statuses.Query (query_fault_line at cause)
  query_type : (a : Action) (at : ℕ) (why : CheckWhy) (s : HasQueryText words job a) → FirstFault (classes_in s.before) [] s.query at why → Answer words job statuses.Query (query_type_line at why)
  too_large : (a : Action) (s : HasType words job a) → (FitsAtUnit (classes_in s.before.before) (translation (classes_in s.before.before) s.before.query) → ⊥) → Answer words job statuses.TermTooLarge too_large_line
  translate_report : (s : HasTerm words job Translate) → Answer words job statuses.Ok (report_of_translate (schema_in s) (query_in s) s.before.query_type)
  database : (e : DbFault) (s : HasTerm words job Run) → IsRefused (schema_in s) (text_in job (sections_in s).database) e → Answer words job statuses.Database (database_line e)
  visits : (s : HasDatabase words job) → visit_limit < visits_in s → Answer words job statuses.Visits (visits_line visit_limit)
  run_report : (s : HasValue words job) → Answer words job statuses.Ok (report_text (report_of_run (schema_in s.before.before) s.before.objects (query_in s.before.before)))
