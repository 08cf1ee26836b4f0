-- The answer to a job as a line of stages. Private clauses cite it: what is promised stands in Answer.antt, a case for each.
use Rattle.std.specs.Prelude.{◌≡◌, ℕ, ◌+◌, ◌<◌, ◌≤◌, List, [], length, Some, None}
use Rattle.kola_base.specs.declared.text_fault.TextWhy.{TextWhy}
use Rattle.kola_top.specs.declared.section.Span.{Span}
use Rattle.kola_top.specs.declared.section.Sections.{Sections}
use Rattle.kola_top.specs.declared.layout.LayoutFault.{LayoutFault}
use Rattle.kola_top.specs.declared.words.Action.{Action}
use Rattle.kola_top.specs.declared.words.Action.TheVariants.{Check, Translate, Run}
use Rattle.kola_top.specs.declared.status.Status.{Status}
use Rattle.kola_top.specs.declared.status.Status.TheVariants as statuses
use Rattle.kola_values.specs.Types.{TypeTree}
use Rattle.kola_values.specs.Values.{VUnit}
use Rattle.kola_values.specs.Databases.{Classes, Objects}
use Rattle.kola_load.specs.SchemaAccepted.{greatest_nesting, Writes, FaultOf}
use Rattle.kola_load.specs.declared.schema_fault.SchemaWhy.{SchemaWhy}
use Rattle.kola_load.specs.declared.fault.DbFault.{DbFault}
use Rattle.kola_term.specs.Terms.{FunTree}
use Rattle.kola_term.specs.Visits.{visits}
use Rattle.kola_rule.specs.Rules.{DraftTree}
use Rattle.kola_laws.specs.Laws.{laws}
use Rattle.kola_proof.specs.Drafts.{AreValid, FirstBadDraft}
use Rattle.kola_proof.specs.declared.fault.StepWhy.{StepWhy}
use Rattle.kola_top.specs.Words.{action_of, needs}
use Rattle.kola_top.specs.Layout.{lines_of, kinds, place_of, AreSections, IsFirstFault}
use Rattle.oql_syntax.specs.QueryAnswers.{SpellsQuery, IsQueryFault}
use Rattle.oql_syntax.specs.QueryFaults.{QueryCause}
use Rattle.oql_tree.specs.QueryTrees.{QueryTree}
use Rattle.oql_check.specs.QueryTypes.{FirstFault}
use Rattle.oql_check.specs.TypedQueries.{HasQueryType}
use Rattle.oql_check.specs.declared.fault.CheckWhy.{CheckWhy}
use Rattle.kola_translate.specs.Translation.{translation}
use Rattle.kola_translate.specs.TranslationAnswers.{FitsAtUnit}
use Rattle.kola_top.specs.Report.{report_text}
use Rattle.kola_top.specs.FaultLines.{usage_line, too_long_line, layout_fault_line, missing_line, schema_line, rules_line, rule_line, query_fault_line, query_type_line, too_large_line, database_line, visits_line}
use Rattle.kola_top.specs.Stages.{greatest_length, visit_limit, text_at, text_in, rules_read, WritesRules, IsRulesFault, WritesObjects}
use Rattle.kola_top.specs.Answer.{IsRefused, report_of_check, report_of_translate, report_of_run}
use Rattle.kola_top.specs.Staged.{Says, Stage, Then}

abbrev pub at_words : List (List ℕ) → Stage (Unit {0}) Action
at_words words = record { refuses = λ _. action_of words ≡ None; accepts = λ a. action_of words ≡ Some a; status = λ _. statuses.Usage; bytes = λ _. usage_line }

abbrev pub at_length : List ℕ → Stage (Unit {0}) (Unit {0})
at_length job = record { refuses = λ _. greatest_length < length job; accepts = λ _. length job ≤ greatest_length; status = λ _. statuses.TooLong; bytes = λ _. too_long_line }

abbrev pub at_layout : List ℕ → Stage LayoutFault Sections
at_layout job = record { refuses = IsFirstFault (kinds (lines_of job)); accepts = AreSections job; status = λ _. statuses.Layout; bytes = layout_fault_line }

abbrev pub at_place : Action → Sections → Stage (Unit {0}) Span
at_place a found = record { refuses = λ _. place_of (needs a) found ≡ None; accepts = λ p. place_of (needs a) found ≡ Some p; status = λ _. statuses.Layout; bytes = λ _. missing_line (found.lines + 1) (needs a) }

abbrev pub at_schema : List ℕ → Stage (ℕ × SchemaWhy) Classes
at_schema text = record { refuses = λ f. FaultOf greatest_nesting text f.0 f.1; accepts = Writes greatest_nesting text; status = λ _. statuses.Schema; bytes = λ f. schema_line f.0 f.1 }

abbrev pub at_rules_text : List ℕ → Stage (ℕ × TextWhy) (List DraftTree)
at_rules_text text = record { refuses = λ f. IsRulesFault text f.0 f.1; accepts = WritesRules text; status = λ _. statuses.Rules; bytes = λ f. rules_line f.0 f.1 }

abbrev pub at_rules : Classes → List DraftTree → Stage (List ℕ × ℕ × StepWhy) (Unit {0})
at_rules S ds = record { refuses = λ f. FirstBadDraft S laws ds f.0 f.1 f.2; accepts = λ _. AreValid S laws ds; status = λ _. statuses.Rules; bytes = λ f. rule_line f.0 f.1 f.2 }

abbrev pub at_query_text : List ℕ → Stage (ℕ × QueryCause) QueryTree
at_query_text text = record { refuses = λ f. IsQueryFault text f.0 f.1; accepts = SpellsQuery text; status = λ _. statuses.Query; bytes = λ f. query_fault_line f.0 f.1 }

abbrev pub at_query_type : Classes → QueryTree → Stage (ℕ × CheckWhy) TypeTree
at_query_type S q = record { refuses = λ f. FirstFault S [] q f.0 f.1; accepts = HasQueryType S [] q; status = λ _. statuses.Query; bytes = λ f. query_type_line f.0 f.1 }

abbrev pub at_size : Classes → QueryTree → Stage (Unit {0}) (Unit {0})
at_size S q = record { refuses = λ _. FitsAtUnit S (translation S q) → ⊥; accepts = λ _. FitsAtUnit S (translation S q); status = λ _. statuses.TermTooLarge; bytes = λ _. too_large_line }

abbrev pub at_database : Classes → List ℕ → Stage DbFault Objects
at_database S text = record { refuses = IsRefused S text; accepts = WritesObjects S text; status = λ _. statuses.Database; bytes = database_line }

abbrev pub at_visits : Classes → Objects → FunTree → Stage (Unit {0}) (Unit {0})
at_visits S os f = record { refuses = λ _. visit_limit < visits S os f VUnit; accepts = λ _. visits S os f VUnit ≤ visit_limit; status = λ _. statuses.Visits; bytes = λ _. visits_line visit_limit }

-- the report
pub data Reported (text : List ℕ) : Status → List ℕ → Type 0 where
  reported : Reported text statuses.Ok text

-- a job of no more than the greatest length on its way to the report, a line for each stage, the last first
abbrev pub FromObjects : Classes → QueryTree → Objects → Says
FromObjects S q os = Then (at_visits S os (translation S q)) (λ _. Reported (report_text (report_of_run S os q)))

abbrev pub FromDatabase : List ℕ → Classes → QueryTree → Says
FromDatabase database S q = Then (at_database S database) (FromObjects S q)

-- a query's text on its way to its term, and what comes behind it
abbrev pub FromQueryText : List ℕ → Classes → (QueryTree → TypeTree → Says) → Says
FromQueryText text S rest = Then (at_query_text text) (λ q. Then (at_query_type S q) (λ t. Then (at_size S q) (λ _. rest q t)))

-- behind the rules each action goes its way
abbrev pub BehindRules : Action → List ℕ → Sections → Span → Classes → List DraftTree → Says
BehindRules Check job found p S ds = Reported (report_of_check ds)
BehindRules Translate job found p S ds = FromQueryText (text_at job p) S (λ q t. Reported (report_of_translate S q t))
BehindRules Run job found p S ds = FromQueryText (text_at job p) S (λ q _. FromDatabase (text_in job found.database) S q)

abbrev pub FromRules : Action → List ℕ → Sections → Span → Classes → List DraftTree → Says
FromRules a job found p S ds = Then (at_rules S ds) (λ _. BehindRules a job found p S ds)

abbrev pub FromRulesText : Action → List ℕ → Sections → Span → Classes → Says
FromRulesText a job found p S = Then (at_rules_text (rules_read a job found)) (FromRules a job found p S)

abbrev pub FromSchema : Action → List ℕ → Sections → Span → Says
FromSchema a job found p = Then (at_schema (text_in job found.schema)) (FromRulesText a job found p)

abbrev pub FromPlace : Action → List ℕ → Sections → Says
FromPlace a job found = Then (at_place a found) (FromSchema a job found)

abbrev pub OnItsWay : Action → List ℕ → Says
OnItsWay a job = Then (at_layout job) (FromPlace a job)

abbrev pub AllTheWay : List (List ℕ) → List ℕ → Says
AllTheWay words job = Then (at_words words) (λ a. Then (at_length job) (λ _. OnItsWay a job))
