-- The causes of the refusals of a job, as laws on its answer.
use Rattle.std.specs.Prelude.{◌≡◌, ◌⊎◌, ℕ, ◌<◌, List, [], length, None, Some}
use Rattle.kola_base.specs.declared.text_fault.TextWhy.{TextWhy}
use Rattle.kola_top.specs.declared.words.Action.{Action}
use Rattle.kola_top.specs.declared.words.Action.TheVariants.{Check, Translate, Run}
use Rattle.kola_top.specs.declared.section.Section.TheVariants.{Query}
use Rattle.kola_top.specs.declared.layout.LayoutFault.{LayoutFault}
use Rattle.kola_top.specs.declared.status.Status.{Status}
use Rattle.kola_top.specs.declared.status.Status.TheVariants as statuses
use Rattle.kola_top.specs.Words.{action_of, needs}
use Rattle.kola_top.specs.Layout.{lines_of, kinds, IsFirstFault, place_of}
use Rattle.kola_load.specs.SchemaAccepted.{greatest_nesting, FaultOf}
use Rattle.kola_load.specs.declared.schema_fault.SchemaWhy.{SchemaWhy}
use Rattle.kola_load.specs.declared.fault.DbFault.{DbFault}
use Rattle.kola_laws.specs.Laws.{laws}
use Rattle.kola_proof.specs.Drafts.{FirstBadDraft}
use Rattle.kola_proof.specs.declared.fault.StepWhy.{StepWhy}
use Rattle.kola_top.specs.Stages.{greatest_length, visit_limit, text_at, text_in, rules_read, IsRulesFault, IsTaken, IsLaidOut, HasSections, HasSchema, HasRulesText, HasRules, place_in, classes_in, HasQueryText, HasType, HasTerm, schema_in, sections_in, HasDatabase, visits_in, HasValue}
use Rattle.oql_syntax.specs.QueryAnswers.{IsQueryFault}
use Rattle.oql_syntax.specs.QueryFaults.{QueryCause}
use Rattle.oql_check.specs.QueryTypes.{FirstFault}
use Rattle.oql_check.specs.declared.fault.CheckWhy.{CheckWhy}
use Rattle.kola_translate.specs.Translation.{translation}
use Rattle.kola_translate.specs.TranslationAnswers.{FitsAtUnit}
use Rattle.kola_top.specs.Answer.{Answer, IsRefused}

-- a query that is refused: its text spells none, or it has no type
pub data IsQueryRefused (words : List (List ℕ)) (job : List ℕ) : Type 0 where
  not_spelled : (a : Action) (at : ℕ) (cause : QueryCause) (s : HasRules words job a) → needs a ≡ Query → IsQueryFault (text_at job (place_in s)) at cause → IsQueryRefused words job
  not_typed : (a : Action) (at : ℕ) (why : CheckWhy) (s : HasQueryText words job a) → FirstFault (classes_in s.before) [] s.query at why → IsQueryRefused words job

-- all is accepted that the action asks for
pub data HasReport (words : List (List ℕ)) (job : List ℕ) : Type 0 where
  checked : HasRules words job Check → HasReport words job
  translated : HasTerm words job Translate → HasReport words job
  ran : HasValue words job → HasReport words job

-- what a status says of the words and a job: which refusal it is, and that its cause holds and no earlier one does
abbrev pub Cause : List (List ℕ) → List ℕ → Status → Type 0
Cause words job statuses.Usage = action_of words ≡ None
Cause words job statuses.TooLong = (a : Action) × (action_of words ≡ Some a) × (greatest_length < length job)
Cause words job statuses.Layout = (a : Action) × ((IsTaken words job a × ((fault : LayoutFault) × IsFirstFault (kinds (lines_of job)) fault)) ⊎ ((s : IsLaidOut words job a) × (place_of (needs a) s.found ≡ None)))
Cause words job statuses.Schema = (a : Action) × ((s : HasSections words job a) × ((at : ℕ) × (why : SchemaWhy) × FaultOf greatest_nesting (text_in job s.before.found.schema) at why))
Cause words job statuses.Rules = (a : Action) × (((s : HasSchema words job a) × ((at : ℕ) × (why : TextWhy) × IsRulesFault (rules_read a job s.before.before.found) at why)) ⊎ ((s : HasRulesText words job a) × ((name : List ℕ) × (step : ℕ) × (why : StepWhy) × FirstBadDraft s.before.classes laws s.drafts name step why)))
Cause words job statuses.Query = IsQueryRefused words job
Cause words job statuses.TermTooLarge = (a : Action) × (s : HasType words job a) × (FitsAtUnit (classes_in s.before.before) (translation (classes_in s.before.before) s.before.query) → ⊥)
Cause words job statuses.Database = (s : HasTerm words job Run) × ((e : DbFault) × IsRefused (schema_in s) (text_in job (sections_in s).database) e)
Cause words job statuses.Visits = (s : HasDatabase words job) × (visit_limit < visits_in s)
Cause words job statuses.Ok = HasReport words job
Cause words job _ = ⊥

-- each answer has its cause; a status without one is the answer to no job
abbrev pub AnswersHaveCauses : Type 0
AnswersHaveCauses = (words : List (List ℕ)) (job : List ℕ) (status : Status) (bytes : List ℕ) → Answer words job status bytes → Cause words job status
