-- The words and a job have an answer where it is decided whether the drafts of the job are valid: each other stage refuses or goes on.
use Rattle.std.proofs.Common.{◌≡◌, ◌⊎◌, ℕ, ◌≤◌, Bool, true, false, nat_lt, nat_le, List, [], length, Option, Some, None, Result, Ok, Err, inl, inr, refl, arith}
use Rattle.std.proofs.lemmas.Bool.Decides.{nat_tests}
use Rattle.kola_values.specs.Types.{TypeTree, TUnit}
use Rattle.kola_values.specs.Values.{VUnit}
use Rattle.kola_values.specs.Databases.{Classes, Objects}
use Rattle.kola_term.specs.Terms.{FunTree, TermF}
use Rattle.kola_term.specs.Visits.{visits}
use Rattle.kola_term.specs.Counts.{fun_nodes, fun_depth}
use Rattle.kola_term.specs.Limits.{node_limit, depth_limit}
use Rattle.kola_term.specs.Faults.{Fine, FaultAt, TypeWhy}
use Rattle.kola_term.proofs.Unique.{fine_or_fault, no_fault}
use Rattle.oql_check.specs.TypedQueries.{HasQueryType}
use Rattle.oql_check.specs.QueryTypes.{FirstFault}
use Rattle.oql_check.specs.declared.fault.CheckWhy.{CheckWhy}
use Rattle.oql_check.proofs.OneFault.{typed_or_fault}
use Rattle.kola_translate.specs.Translation.{translation}
use Rattle.kola_translate.specs.TranslationAnswers.{FitsAtUnit}
use Rattle.kola_load.specs.SchemaAccepted.{greatest_nesting, Writes, FaultOf}
use Rattle.kola_load.specs.Loaded.{HasAnswer}
use Rattle.kola_load.specs.declared.schema_fault.SchemaWhy.{SchemaWhy}
use Rattle.kola_load.specs.declared.fault.DbFault.{DbFault}
use Rattle.kola_load.specs.declared.fault.DbFault.TheVariants.{Memory}
use Rattle.kola_load.proofs.OneSchema.{schema_once}
use Rattle.kola_load.proofs.FirstFault.{an_answer}
use Rattle.kola_rule.specs.Rules.{DraftTree}
use Rattle.kola_base.specs.declared.text_fault.TextWhy.{TextWhy}
use Rattle.kola_top.specs.declared.layout.LayoutFault.{LayoutFault}
use Rattle.kola_top.specs.declared.section.Span.{Span}
use Rattle.kola_top.specs.declared.section.Sections.{Sections}
use Rattle.kola_top.specs.declared.words.Action.{Action}
use Rattle.kola_top.specs.declared.words.Action.TheVariants.{Check, Translate, Run}
use Rattle.kola_top.specs.declared.status.Status.{Status}
use Rattle.kola_top.specs.Words.{action_of, needs}
use Rattle.kola_top.specs.Layout.{lines_of, place_of}
use Rattle.kola_top.specs.Scan.{walk, start}
use Rattle.kola_top.specs.Staged.{Says, Stage, Then}
use Rattle.kola_top.specs.Stages.{greatest_length, visit_limit, text_at, text_in, rules_read, WritesRules, IsRulesFault, HasRulesText}
use Rattle.kola_top.specs.Answer.{is_memory, report_of_translate, Answer}
use Rattle.kola_top.specs.StageLine.{at_words, at_length, at_layout, at_place, at_schema, at_rules_text, at_rules, at_query_text, at_query_type, at_size, at_database, at_visits, Reported, reported, FromDatabase, FromQueryText, BehindRules, FromRules, AllTheWay}
use Rattle.kola_top.proofs.Staged.{Some as SomeAnswer, Goes, Decides, goes_on, some_then}
use Rattle.kola_top.proofs.RulesLaws.{file_once, some_draft}
use Rattle.kola_top.proofs.AnswerLaws.{wholly_answered}
use Rattle.kola_top.proofs.FoundLaws.{IsLayout, walk_is}
use Rattle.kola_top.proofs.QueryTextLaws.{spelled_once}
use Rattle.oql_tree.specs.QueryTrees.{QueryTree}
use Rattle.oql_syntax.specs.QueryFaults.{QueryCause}
use Rattle.oql_syntax.specs.QueryAnswers.{SpellsQuery, IsQueryFault}

schema_goes : (text : List ℕ) → Decides (at_schema text)
schema_goes text = by (schema_once greatest_nesting text)
  where
    by : ((S : Classes) × Writes greatest_nesting text S) ⊎ ((at : ℕ) × (why : SchemaWhy) × FaultOf greatest_nesting text at why) → Decides (at_schema text)
    by (inl h) = inr (h.0, h.1)
    by (inr h) = inl ((h.0, h.1), h.2)

drafts_go : (text : List ℕ) → Decides (at_rules_text text)
drafts_go text = by (file_once text)
  where
    by : ((ds : List DraftTree) × WritesRules text ds) ⊎ ((at : ℕ) × (why : TextWhy) × IsRulesFault text at why) → Decides (at_rules_text text)
    by (inl h) = inr (h.0, h.1)
    by (inr h) = inl ((h.0, h.1), h.2)

text_goes : (text : List ℕ) → Decides (at_query_text text)
text_goes text = by (spelled_once text)
  where
    by : ((x : QueryTree) × SpellsQuery text x) ⊎ ((at : ℕ) × (c : QueryCause) × IsQueryFault text at c) → Decides (at_query_text text)
    by (inl h) = inr (h.0, h.1)
    by (inr h) = inl ((h.0, h.1), h.2)

type_goes : (S : Classes) (q : QueryTree) → Decides (at_query_type S q)
type_goes S q = by (typed_or_fault S [] q)
  where
    by : ((t : TypeTree) × HasQueryType S [] q t) ⊎ ((at : ℕ) × (c : CheckWhy) × FirstFault S [] q at c) → Decides (at_query_type S q)
    by (inl h) = inr (h.0, h.1)
    by (inr h) = inl ((h.0, h.1), h.2)

fits_or_not : (S : Classes) (f : FunTree) → FitsAtUnit S f ⊎ (FitsAtUnit S f → ⊥)
fits_or_not S f = nodes_by (nat_le (fun_nodes f) node_limit) refl
  where
    fine_by : fun_nodes f ≤ node_limit → fun_depth f ≤ depth_limit → ((u : TypeTree) × Fine S [] (TermF f) TUnit u) ⊎ ((q : List ℕ) × (why : TypeWhy) × FaultAt S [] (TermF f) TUnit q why) → FitsAtUnit S f ⊎ (FitsAtUnit S f → ⊥)
    fine_by n d (inl h) = inl (h.0, record { few = n; shallow = d; fine = h.1 })
    fine_by n d (inr h) = inr (λ k. no_fault S [] (TermF f) TUnit k.0 h.0 h.1 h.2 k.1.fine)

    depth_by : fun_nodes f ≤ node_limit → (b : Bool) → nat_le (fun_depth f) depth_limit ≡ b → FitsAtUnit S f ⊎ (FitsAtUnit S f → ⊥)
    depth_by n true e = fine_by n (grind (arith, nat_tests, e)) (fine_or_fault S [] (TermF f) TUnit)
    depth_by n false e = inr (λ k. let h = k.1.shallow in absurd (grind (arith, nat_tests, e, h)))

    nodes_by : (b : Bool) → nat_le (fun_nodes f) node_limit ≡ b → FitsAtUnit S f ⊎ (FitsAtUnit S f → ⊥)
    nodes_by true e = depth_by (grind (arith, nat_tests, e)) (nat_le (fun_depth f) depth_limit) refl
    nodes_by false e = inr (λ k. let h = k.1.few in absurd (grind (arith, nat_tests, e, h)))

size_goes : (S : Classes) (q : QueryTree) → Decides (at_size S q)
size_goes S q = by (fits_or_not S (translation S q))
  where
    by : FitsAtUnit S (translation S q) ⊎ (FitsAtUnit S (translation S q) → ⊥) → Decides (at_size S q)
    by (inl h) = inr (tt, h)
    by (inr h) = inl (tt, h)

not_memory : (f : DbFault) → (f ≡ Memory → ⊥) → is_memory f ≡ false
not_memory Memory n = absurd (n refl)
not_memory _ n = refl

database_goes : (S : Classes) (text : List ℕ) → Decides (at_database S text)
database_goes S text = by (an_answer S text)
  where
    by : HasAnswer S text → Decides (at_database S text)
    by (inl h) = inr (h.1, (h.0, h.2, h.3))
    by (inr h) = inl (h.0, (not_memory h.0 h.1, h.2))

visits_go : (S : Classes) (os : Objects) (f : FunTree) → Decides (at_visits S os f)
visits_go S os f = by (nat_le (visits S os f VUnit) visit_limit) refl
  where
    by : (b : Bool) → nat_le (visits S os f VUnit) visit_limit ≡ b → Decides (at_visits S os f)
    by true e = inr (tt, grind (arith, nat_tests, e))
    by false e = inl (tt, grind (arith, nat_tests, e))

module _ (words : List (List ℕ)) (job : List ℕ) where
  words_go : Decides (at_words words)
  words_go = by (action_of words) refl
    where
      by : (o : Option _) → action_of words ≡ o → Decides (at_words words)
      by None e = inl (tt, e)
      by (Some a) e = inr (a, e)

  length_goes : Decides (at_length job)
  length_goes = by (nat_lt greatest_length (length job)) refl
    where
      by : (b : Bool) → nat_lt greatest_length (length job) ≡ b → Decides (at_length job)
      by true e = inl (tt, grind (arith, nat_tests, e))
      by false e = inr (tt, grind (arith, nat_tests, e))

  layout_goes : Decides (at_layout job)
  layout_goes = by (walk (length job) (lines_of job) start) (walk_is job _ refl)
    where
      by : (r : Result Sections LayoutFault) → IsLayout job r → Decides (at_layout job)
      by (Ok found) h = inr (found, h)
      by (Err f) h = inl (f, h)

  place_goes : (a : Action) (found : Sections) → Decides (at_place a found)
  place_goes a found = by (place_of (needs a) found) refl
    where
      by : (o : Option _) → place_of (needs a) found ≡ o → Decides (at_place a found)
      by None e = inl (tt, e)
      by (Some p) e = inr (p, e)

  -- what is claimed of the answer, and that the stage of the rules refuses or goes on to it
  module _ (Z : Type 0) (rules_go : (a : Action) (r : HasRulesText words job a) → Goes Z (at_rules r.before.classes r.drafts)) where
    past : {F R : Type 0} (g : Stage F R) (rest : R → Says) → Decides g → ((x : R) → g.accepts x → SomeAnswer Z (rest x)) → SomeAnswer Z (Then g rest)
    past g rest d each = some_then Z g rest (goes_on Z g d) each

    asked_some : (text : List ℕ) (S : Classes) (rest : QueryTree → TypeTree → Says) → ((q : QueryTree) (t : TypeTree) → SomeAnswer Z (rest q t)) → SomeAnswer Z (FromQueryText text S rest)
    asked_some text S rest each =
        past (at_query_text text) (λ q. Then (at_query_type S q) (λ t. Then (at_size S q) (λ _. rest q t))) (text_goes text) (λ q _. past (at_query_type S q) (λ t. Then (at_size S q) (λ _. rest q t)) (type_goes S q) (λ t _.
        past (at_size S q) (λ _. rest q t) (size_goes S q) (λ _ _. each q t)))

    run_some : (database : List ℕ) (S : Classes) (q : QueryTree) → SomeAnswer Z (FromDatabase database S q)
    run_some database S q = past (at_database S database) _ (database_goes S database) (λ os _. past (at_visits S os (translation S q)) _ (visits_go S os (translation S q)) (λ _ _ say. say _ _ reported))

    behind_some : (a : Action) (found : Sections) (p : Span) (S : Classes) (ds : List DraftTree) → SomeAnswer Z (BehindRules a job found p S ds)
    behind_some Check found p S ds = λ say. say _ _ reported
    behind_some Translate found p S ds = asked_some (text_at job p) S (λ q t. Reported (report_of_translate S q t)) (λ _ _ say. say _ _ reported)
    behind_some Run found p S ds = asked_some (text_at job p) S (λ q _. FromDatabase (text_in job found.database) S q) (λ q _. run_some (text_in job found.database) S q)

    rules_some : (a : Action) (r : HasRulesText words job a) → SomeAnswer Z (FromRules a job r.before.before.before.found r.before.before.place r.before.classes r.drafts)
    rules_some a r = some_then Z (at_rules r.before.classes r.drafts) _ (rules_go a r) (λ _ _. behind_some a r.before.before.before.found r.before.before.place r.before.classes r.drafts)

    some_staged : SomeAnswer Z (AllTheWay words job)
    some_staged =
        past (at_words words) _ words_go (λ a e. past (at_length job) _ length_goes (λ _ h. past (at_layout job) _ layout_goes (λ found l. past (at_place a found) _ (place_goes a found) (λ p q.
        past (at_schema (text_in job found.schema)) _ (schema_goes (text_in job found.schema)) (λ S w. past (at_rules_text (rules_read a job found)) _ (drafts_go (rules_read a job found)) (λ ds d.
        rules_some a (record {
          before = record { before = record { before = record { before = record { command = e; is_short = h }; found = found; sections = l }; place = p; needed = q }; classes = S; writes = w };
          drafts = ds;
          writes = d;
        })))))))

  pub some_answer : ((a : Action) (r : HasRulesText words job a) → Decides (at_rules r.before.classes r.drafts)) → (s : Status) × ((b : List ℕ) × Answer words job s b)
  some_answer decided = some_staged _ (λ a r. goes_on _ (at_rules r.before.classes r.drafts) (decided a r)) (λ s b k. (s, (b, wholly_answered words job s b k)))

  pub not_none : ((s : Status) (b : List ℕ) → Answer words job s b → ⊥) → ⊥
  not_none none = some_staged ⊥ (λ a r stop on. some_draft r.before.classes r.drafts (λ v. on tt v) (λ m n w b. stop (m, n, w) b)) (λ s b k. none s b (wholly_answered words job s b k))
