-- The words and a job have at most one answer: it is that of a line of stages, of which each refuses in at most one way or accepts one thing.
use Rattle.std.proofs.Common.{◌≡◌, ℕ, List, [], Some, None, Result, Ok, Err, refl, sym, ap, ◌∙◌, arith}
use Rattle.kola_top.specs.declared.section.Span.{Span}
use Rattle.kola_top.specs.declared.section.Sections.{Sections}
use Rattle.kola_top.specs.declared.words.Action.{Action}
use Rattle.kola_top.specs.declared.status.Status.{Status}
use Rattle.kola_values.specs.Types.{TypeTree}
use Rattle.kola_values.specs.Databases.{Classes, Objects}
use Rattle.serde_json.specs.Data.{Data}
use Rattle.kola_load.specs.Loading.{db_of}
use Rattle.kola_load.specs.Loaded.{Reads}
use Rattle.kola_load.specs.SchemaAccepted.{greatest_nesting}
use Rattle.kola_load.specs.declared.fault.DbFault.{DbFault}
use Rattle.kola_load.specs.declared.fault.DbFault.TheVariants.{NotJson, Memory}
use Rattle.kola_load.proofs.OneSchema.{one_schema, schema_or_fault, one_schema_fault}
use Rattle.kola_rule.specs.Rules.{DraftTree}
use Rattle.kola_top.specs.declared.words.Action.TheVariants.{Check, Translate, Run}
use Rattle.kola_top.specs.declared.section.Section.TheVariants.{Query}
use Rattle.oql_tree.specs.QueryTrees.{QueryTree}
use Rattle.kola_translate.specs.Translation.{translation}
use Rattle.oql_check.proofs.OneFault.{one_type, not_both as typed_or_at_fault, one_fault as one_type_fault}
use Rattle.kola_top.specs.Words.{action_of, needs}
use Rattle.kola_top.specs.FaultLines.{layout_fault_line, schema_line, rules_line, rule_line, query_fault_line, query_type_line, database_line}
use Rattle.kola_top.specs.Report.{report_text}
use Rattle.kola_top.specs.Stages.{text_at, text_in, IsTaken, IsLaidOut, HasSections, HasSchema, rules_read, HasRulesText, HasRules, place_in, classes_in, found_in, HasQueryText, HasType, HasTerm, schema_in, sections_in, query_in, HasDatabase, WritesObjects}
use Rattle.kola_top.specs.Answer.{IsRefused, report_of_translate, report_of_run, Answer, usage, too_long, layout, missing, schema, rules_text, rule, check_report, query_text, query_type, too_large, translate_report, database, visits, run_report}
use Rattle.kola_top.proofs.RulesLaws.{one_file, file_or_fault, one_rules_fault, one_bad_draft, valid_or_bad}
use Rattle.kola_top.proofs.FoundLaws.{one_fault, one_layout}
use Rattle.kola_top.proofs.QueryTextLaws.{one_query_of, spelled_or_at_fault, one_fault_of_query}
use Rattle.kola_top.specs.Staged.{Says as Line, Then, refused, onward, Nothing}
use Rattle.kola_top.specs.StageLine.{at_words, at_length, at_layout, at_place, at_schema, at_rules_text, at_rules, at_query_text, at_query_type, at_size, at_database, at_visits, Reported, reported, FromObjects, FromDatabase, FromQueryText, BehindRules, FromRules, FromRulesText, FromSchema, FromPlace, OnItsWay, AllTheWay}
use Rattle.kola_top.proofs.Staged.{One, IsOne, one_then}

-- ---- databases

some_is : {A : Type 0} (x y : A) → Some x ≡ Some y → x ≡ y
some_is x y e = cc

one_value : (text : List ℕ) (j k : Data) → Reads text j → Reads text k → j ≡ k
one_value text j k a b = some_is j k (sym a.1 ∙ b.1)

-- a refusal is a fault of the text's value, or that it has none
data Refusal (S : Classes) (text : List ℕ) : DbFault → Type 0 where
  of_value : (e : DbFault) (j : Data) → Reads text j → db_of S j ≡ Err e → Refusal S text e
  no_value : ((j : Data) → Reads text j → ⊥) → Refusal S text NotJson

refusal : (S : Classes) (text : List ℕ) (e : DbFault) → IsRefused S text e → Refusal S text e
refusal S text Memory h = absurd (let e = h.0 in cc)
refusal S text NotJson h = no_value h.1
refusal S text e h = of_value e h.1.0 h.1.1 h.1.2

one_fault_of : {X : Type 0} (e f : DbFault) (r : Result X DbFault) → r ≡ Err e → r ≡ Err f → e ≡ f
one_fault_of e f r p q = cc

no_ok : {X : Type 0} (x : X) (e : DbFault) (r : Result X DbFault) → r ≡ Ok x → r ≡ Err e → ⊥
no_ok x e r p q = absurd (let i : Ok x ≡ Err e = sym p ∙ q in cc)

one_refusal : (S : Classes) (text : List ℕ) (e f : DbFault) → Refusal S text e → Refusal S text f → e ≡ f
one_refusal S text _ _ (of_value e j a p) (of_value f k b q) = one_fault_of e f (db_of S k) (ap (db_of S) (one_value text k j b a) ∙ p) q
one_refusal S text _ _ (of_value e j a p) (no_value h) = absurd (h j a)
one_refusal S text _ _ (no_value h) (of_value f k b q) = absurd (h k b)
one_refusal S text _ _ (no_value h) (no_value k) = refl

not_refused : (S : Classes) (text : List ℕ) (e : DbFault) (j : Data) (os : Objects) → Refusal S text e → Reads text j → db_of S j ≡ Ok os → ⊥
not_refused S text _ j os (of_value e k b q) a p = no_ok os e (db_of S k) (ap (db_of S) (one_value text k j b a) ∙ p) q
not_refused S text _ j os (no_value h) a p = h j a

one_ok : (os ps : Objects) (r : Result Objects DbFault) → r ≡ Ok os → r ≡ Ok ps → os ≡ ps
one_ok os ps r p q = cc

one_writing : (S : Classes) (text : List ℕ) (os ps : Objects) → WritesObjects S text os → WritesObjects S text ps → os ≡ ps
one_writing S text os ps h k = one_ok os ps (db_of S k.0) (ap (db_of S) (one_value text k.0 h.0 k.1 h.1) ∙ h.2) k.2

-- ---- what comes behind a query's term

abbrev Rest : Action → List ℕ → Sections → Span → Classes → QueryTree → TypeTree → Line
Rest Check job found p S q t = Nothing
Rest Translate job found p S q t = Reported (report_of_translate S q t)
Rest Run job found p S q t = FromDatabase (text_in job found.database) S q

abbrev FromSize : Classes → (QueryTree → TypeTree → Line) → QueryTree → TypeTree → Line
FromSize S rest q t = Then (at_size S q) (λ _. rest q t)

abbrev FromType : Classes → (QueryTree → TypeTree → Line) → QueryTree → Line
FromType S rest q = Then (at_query_type S q) (FromSize S rest q)

behind_asks : (a : Action) (job : List ℕ) (found : Sections) (p : Span) (S : Classes) (ds : List DraftTree) → needs a ≡ Query → (s : Status) (b : List ℕ) → FromQueryText (text_at job p) S (Rest a job found p S) s b → BehindRules a job found p S ds s b
behind_asks Check job found p S ds n s b k = absurd (cc)
behind_asks Translate job found p S ds n s b k = k
behind_asks Run job found p S ds n s b k = k

-- ---- the answer as a line of stages

module _ (words : List (List ℕ)) (job : List ℕ) where
  -- what comes behind a stage comes on the whole line
  module _ {a : Action} where
    taken : (t : IsTaken words job a) (s : Status) (b : List ℕ) → OnItsWay a job s b → AllTheWay words job s b
    taken t s b k = onward a s b t.command (onward tt s b t.is_short k)

    laid_out : (l : IsLaidOut words job a) (s : Status) (b : List ℕ) → FromPlace a job l.found s b → AllTheWay words job s b
    laid_out l s b k = taken l.before s b (onward l.found s b l.sections k)

    with_sections : (c : HasSections words job a) (s : Status) (b : List ℕ) → FromSchema a job c.before.found c.place s b → AllTheWay words job s b
    with_sections c s b k = laid_out c.before s b (onward c.place s b c.needed k)

    with_schema : (c : HasSchema words job a) (s : Status) (b : List ℕ) → FromRulesText a job c.before.before.found c.before.place c.classes s b → AllTheWay words job s b
    with_schema c s b k = with_sections c.before s b (onward c.classes s b c.writes k)

    with_drafts : (r : HasRulesText words job a) (s : Status) (b : List ℕ) → FromRules a job r.before.before.before.found r.before.before.place r.before.classes r.drafts s b → AllTheWay words job s b
    with_drafts r s b k = with_schema r.before s b (onward r.drafts s b r.writes k)

    with_rules : (r : HasRules words job a) (s : Status) (b : List ℕ) → BehindRules a job (found_in r) (place_in r) (classes_in r) r.before.drafts s b → AllTheWay words job s b
    with_rules r s b k = with_drafts r.before s b (onward tt s b r.valid k)

    with_query : (r : HasRules words job a) → needs a ≡ Query → (s : Status) (b : List ℕ) → FromQueryText (text_at job (place_in r)) (classes_in r) (Rest a job (found_in r) (place_in r) (classes_in r)) s b → AllTheWay words job s b
    with_query r n s b k = with_rules r s b (behind_asks a job (found_in r) (place_in r) (classes_in r) r.before.drafts n s b k)

    with_type : (w : HasQueryText words job a) (s : Status) (b : List ℕ) → FromType (classes_in w.before) (Rest a job (found_in w.before) (place_in w.before) (classes_in w.before)) w.query s b → AllTheWay words job s b
    with_type w s b k = with_query w.before w.asks s b (onward w.query s b w.spells k)

    with_size : (t : HasType words job a) (s : Status) (b : List ℕ)
        → FromSize (classes_in t.before.before) (Rest a job (found_in t.before.before) (place_in t.before.before) (classes_in t.before.before)) t.before.query t.query_type s b → AllTheWay words job s b
    with_size t s b k = with_type t.before s b (onward t.query_type s b t.typed k)

    with_term : (t : HasTerm words job a) (s : Status) (b : List ℕ)
        → Rest a job (found_in t.before.before.before) (place_in t.before.before.before) (classes_in t.before.before.before) t.before.before.query t.before.query_type s b → AllTheWay words job s b
    with_term t s b k = with_size t.before s b (onward tt s b t.fits k)

  with_database : (d : HasDatabase words job) (s : Status) (b : List ℕ) → FromObjects (schema_in d.before) (query_in d.before) d.objects s b → AllTheWay words job s b
  with_database d s b k = with_term d.before s b (onward d.objects s b d.writes k)

  pub staged : (s : Status) (b : List ℕ) → Answer words job s b → AllTheWay words job s b
  staged _ _ (usage e) = refused tt e
  staged _ _ (too_long a e h) = onward a _ _ e (refused tt h)
  staged _ _ (layout a f s h) = taken s _ _ (refused f h)
  staged _ _ (missing a s h) = laid_out s _ _ (refused tt h)
  staged _ _ (schema a at why s h) = with_sections s _ _ (refused (at, why) h)
  staged _ _ (rules_text a at why s h) = with_schema s _ _ (refused (at, why) h)
  staged _ _ (rule a name step why s h) = with_drafts s _ _ (refused (name, step, why) h)
  staged _ _ (check_report s) = with_rules s _ _ reported
  staged _ _ (query_text a at cause s n h) = with_query s n _ _ (refused (at, cause) h)
  staged _ _ (query_type a at why s h) = with_type s _ _ (refused (at, why) h)
  staged _ _ (too_large a s h) = with_size s _ _ (refused tt h)
  staged _ _ (translate_report s) = with_term s _ _ reported
  staged _ _ (database e s h) = with_term s _ _ (refused e h)
  staged _ _ (visits s h) = with_database s _ _ (refused tt h)
  staged _ _ (run_report s) = with_database s.before _ _ (onward tt _ _ s.within reported)

  -- ---- each stage refuses in at most one way or accepts one thing

  one_words : IsOne (at_words words)
  one_words = record { one_refusal = λ _ _ _ _. (refl, refl); one_thing = λ x y p q. some_is x y (sym p ∙ q); not_both = λ _ x p q. absurd (let i : None ≡ Some x = sym p ∙ q in cc) }

  one_length : IsOne (at_length job)
  one_length = record { one_refusal = λ _ _ _ _. (refl, refl); one_thing = λ _ _ _ _. refl; not_both = λ _ _ p q. absurd (omega (arith, p, q)) }

  one_lay_out : IsOne (at_layout job)
  one_lay_out = record {
    one_refusal = λ e f p q. (refl, ap layout_fault_line (one_fault _ e f p q));
    one_thing = λ x y p q. one_layout job x y p q;
    not_both = λ e x p q. q.faultless p.at e.why p.faulty;
  }

  one_place : (a : Action) (found : Sections) → IsOne (at_place a found)
  one_place a found = record { one_refusal = λ _ _ _ _. (refl, refl); one_thing = λ x y p q. some_is x y (sym p ∙ q); not_both = λ _ x p q. absurd (let i : None ≡ Some x = sym p ∙ q in cc) }

  one_classes : (text : List ℕ) → IsOne (at_schema text)
  one_classes text = record {
    one_refusal = λ e f p q. let same = one_schema_fault greatest_nesting text e.0 f.0 e.1 f.1 p q in (refl, ap (λ n. schema_line n e.1) same.0 ∙ ap (schema_line f.0) same.1);
    one_thing = λ x y p q. one_schema greatest_nesting text x y p q;
    not_both = λ e x p q. schema_or_fault greatest_nesting text x e.0 e.1 q p;
  }

  one_drafts : (text : List ℕ) → IsOne (at_rules_text text)
  one_drafts text = record {
    one_refusal = λ e f p q. let same = one_rules_fault text e.0 f.0 e.1 f.1 p q in (refl, ap (λ n. rules_line n e.1) same.0 ∙ ap (rules_line f.0) same.1);
    one_thing = λ x y p q. one_file text x y p q;
    not_both = λ e x p q. file_or_fault text x e.0 e.1 q p;
  }

  one_rules : (S : Classes) (ds : List DraftTree) → IsOne (at_rules S ds)
  one_rules S ds = record {
    one_refusal = λ e f p q. let same = one_bad_draft S ds e.0 f.0 e.1 f.1 e.2 f.2 p q in
        (refl, ap (λ n. rule_line n e.1 e.2) same.0 ∙ (ap (λ n. rule_line f.0 n e.2) same.1 ∙ ap (rule_line f.0 f.1) same.2));
    one_thing = λ _ _ _ _. refl;
    not_both = λ e _ p q. valid_or_bad S ds e.0 e.1 e.2 q p;
  }

  one_spelled : (text : List ℕ) → IsOne (at_query_text text)
  one_spelled text = record {
    one_refusal = λ e f p q. let same = one_fault_of_query text e.0 f.0 e.1 f.1 p q in (refl, ap (λ n. query_fault_line n e.1) same.0 ∙ ap (query_fault_line f.0) same.1);
    one_thing = λ x y p q. one_query_of text x y p q;
    not_both = λ e x p q. spelled_or_at_fault text x e.0 e.1 q p;
  }

  one_typing : (S : Classes) (x : QueryTree) → IsOne (at_query_type S x)
  one_typing S x = record {
    one_refusal = λ e f p q. let same = one_type_fault S [] x e.0 f.0 e.1 f.1 p q in (refl, ap (λ n. query_type_line n e.1) same.0 ∙ ap (query_type_line f.0) same.1);
    one_thing = λ t u p q. one_type S [] x t u p q;
    not_both = λ e t p q. typed_or_at_fault S [] x t e.0 e.1 q p;
  }

  one_fitting : (S : Classes) (x : QueryTree) → IsOne (at_size S x)
  one_fitting S x = record { one_refusal = λ _ _ _ _. (refl, refl); one_thing = λ _ _ _ _. refl; not_both = λ _ _ p q. p q }

  one_objects : (S : Classes) (text : List ℕ) → IsOne (at_database S text)
  one_objects S text = record {
    one_refusal = λ e f p q. (refl, ap database_line (one_refusal S text e f (refusal S text e p) (refusal S text f q)));
    one_thing = λ x y p q. one_writing S text x y p q;
    not_both = λ e x p q. not_refused S text e q.0 x (refusal S text e p) q.1 q.2;
  }

  one_visiting : (S : Classes) (os : Objects) (q : QueryTree) → IsOne (at_visits S os (translation S q))
  one_visiting S os q = record { one_refusal = λ _ _ _ _. (refl, refl); one_thing = λ _ _ _ _. refl; not_both = λ _ _ p q. absurd (omega (arith, p, q)) }

  one_report : (text : List ℕ) → One (Reported text)
  one_report text _ _ _ _ reported reported = (refl, refl)

  one_asked : (text : List ℕ) (S : Classes) (rest : QueryTree → TypeTree → Line) → ((q : QueryTree) (t : TypeTree) → One (rest q t)) → One (FromQueryText text S rest)
  one_asked text S rest each =
      one_then (at_query_text text) (FromType S rest) (one_spelled text) (λ q _. one_then (at_query_type S q) (FromSize S rest q) (one_typing S q) (λ t _. one_then (at_size S q) (λ _. rest q t) (one_fitting S q) (λ _ _. each q t)))

  one_run : (db : List ℕ) (S : Classes) (q : QueryTree) → One (FromDatabase db S q)
  one_run db S q = one_then (at_database S db) _ (one_objects S db) (λ os _. one_then (at_visits S os (translation S q)) _ (one_visiting S os q) (λ _ _. one_report (report_text (report_of_run S os q))))

  one_behind : (a : Action) (found : Sections) (p : Span) (S : Classes) (ds : List DraftTree) → One (BehindRules a job found p S ds)
  one_behind Check found p S ds = one_report _
  one_behind Translate found p S ds = one_asked (text_at job p) S (Rest Translate job found p S) (λ q t. one_report (report_of_translate S q t))
  one_behind Run found p S ds = one_asked (text_at job p) S (Rest Run job found p S) (λ q _. one_run (text_in job found.database) S q)

  one_staged : One (AllTheWay words job)
  one_staged =
      one_then (at_words words) _ one_words (λ a _. one_then (at_length job) _ one_length (λ _ _. one_then (at_layout job) _ one_lay_out (λ found _. one_then (at_place a found) _ (one_place a found) (λ p _.
      one_then (at_schema (text_in job found.schema)) _ (one_classes (text_in job found.schema)) (λ S _. one_then (at_rules_text (rules_read a job found)) _ (one_drafts (rules_read a job found)) (λ ds _.
      one_then (at_rules S ds) _ (one_rules S ds) (λ _ _. one_behind a found p S ds)))))))

  pub one_answer : One (Answer words job)
  one_answer s t b c x y = one_staged s t b c (staged s b x) (staged t c y)

  -- the line of stages says nothing else
  from_objects : (d : HasDatabase words job) (s : Status) (b : List ℕ) → FromObjects (schema_in d.before) (query_in d.before) d.objects s b → Answer words job s b
  from_objects d _ _ (refused _ h) = visits d h
  from_objects d _ _ (onward _ _ _ h reported) = run_report (record { before = d; within = h })

  from_database : (t : HasTerm words job Run) (s : Status) (b : List ℕ) → FromDatabase (text_in job (sections_in t).database) (schema_in t) (query_in t) s b → Answer words job s b
  from_database t _ _ (refused e h) = database e t h
  from_database t _ _ (onward os s b w k) = from_objects (record { before = t; objects = os; writes = w }) s b k

  from_term : (a : Action) (t : HasTerm words job a) (s : Status) (b : List ℕ)
      → Rest a job (found_in t.before.before.before) (place_in t.before.before.before) (classes_in t.before.before.before) t.before.before.query t.before.query_type s b → Answer words job s b
  from_term Check t s b k = elim k [ ]
  from_term Translate t _ _ reported = translate_report t
  from_term Run t s b k = from_database t s b k

  from_size : (a : Action) (t : HasType words job a) (s : Status) (b : List ℕ)
      → FromSize (classes_in t.before.before) (Rest a job (found_in t.before.before) (place_in t.before.before) (classes_in t.before.before)) t.before.query t.query_type s b → Answer words job s b
  from_size a t _ _ (refused _ h) = too_large a t h
  from_size a t _ _ (onward _ s b f k) = from_term a (record { before = t; fits = f }) s b k

  from_type : (a : Action) (w : HasQueryText words job a) (s : Status) (b : List ℕ) → FromType (classes_in w.before) (Rest a job (found_in w.before) (place_in w.before) (classes_in w.before)) w.query s b → Answer words job s b
  from_type a w _ _ (refused f h) = query_type a f.0 f.1 w h
  from_type a w _ _ (onward t s b h k) = from_size a (record { before = w; query_type = t; typed = h }) s b k

  from_query_text : (a : Action) (r : HasRules words job a) → needs a ≡ Query → (s : Status) (b : List ℕ) → FromQueryText (text_at job (place_in r)) (classes_in r) (Rest a job (found_in r) (place_in r) (classes_in r)) s b → Answer words job s b
  from_query_text a r n _ _ (refused f h) = query_text a f.0 f.1 r n h
  from_query_text a r n _ _ (onward q s b h k) = from_type a (record { before = r; asks = n; query = q; spells = h }) s b k

  behind_rules : (a : Action) (r : HasRules words job a) (s : Status) (b : List ℕ) → BehindRules a job (found_in r) (place_in r) (classes_in r) r.before.drafts s b → Answer words job s b
  behind_rules Check r _ _ reported = check_report r
  behind_rules Translate r s b k = from_query_text Translate r refl s b k
  behind_rules Run r s b k = from_query_text Run r refl s b k

  from_rules : (a : Action) (r : HasRulesText words job a) (s : Status) (b : List ℕ) → FromRules a job r.before.before.before.found r.before.before.place r.before.classes r.drafts s b → Answer words job s b
  from_rules a r _ _ (refused f h) = rule a f.0 f.1 f.2 r h
  from_rules a r _ _ (onward _ s b v k) = behind_rules a (record { before = r; valid = v }) s b k

  from_rules_text : (a : Action) (c : HasSchema words job a) (s : Status) (b : List ℕ) → FromRulesText a job c.before.before.found c.before.place c.classes s b → Answer words job s b
  from_rules_text a c _ _ (refused f h) = rules_text a f.0 f.1 c h
  from_rules_text a c _ _ (onward ds s b w k) = from_rules a (record { before = c; drafts = ds; writes = w }) s b k

  from_schema : (a : Action) (l : HasSections words job a) (s : Status) (b : List ℕ) → FromSchema a job l.before.found l.place s b → Answer words job s b
  from_schema a l _ _ (refused f h) = schema a f.0 f.1 l h
  from_schema a l _ _ (onward S s b w k) = from_rules_text a (record { before = l; classes = S; writes = w }) s b k

  from_place : (a : Action) (l : IsLaidOut words job a) (s : Status) (b : List ℕ) → FromPlace a job l.found s b → Answer words job s b
  from_place a l _ _ (refused _ h) = missing a l h
  from_place a l _ _ (onward p s b q k) = from_schema a (record { before = l; place = p; needed = q }) s b k

  pub answered : (a : Action) (t : IsTaken words job a) (s : Status) (b : List ℕ) → OnItsWay a job s b → Answer words job s b
  answered a t _ _ (refused f h) = layout a f t h
  answered a t _ _ (onward found s b l k) = from_place a (record { before = t; found = found; sections = l }) s b k

  from_length : (a : Action) → action_of words ≡ Some a → (s : Status) (b : List ℕ) → Then (at_length job) (λ _. OnItsWay a job) s b → Answer words job s b
  from_length a e _ _ (refused _ h) = too_long a e h
  from_length a e _ _ (onward _ s b h k) = answered a (record { command = e; is_short = h }) s b k

  pub wholly_answered : (s : Status) (b : List ℕ) → AllTheWay words job s b → Answer words job s b
  wholly_answered _ _ (refused _ e) = usage e
  wholly_answered _ _ (onward a s b e k) = from_length a e s b k
