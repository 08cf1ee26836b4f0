use Rattle.std.proofs.Common.{◌≡◌, ℕ, Some, List, Result, map, arith, refl, sym, ap, ◌∙◌, subst}
use Rattle.kola_values.specs.Databases.{Classes}
use Rattle.kola_load.specs.SchemaAccepted.{greatest_nesting, Writes}
use Rattle.kola_rule.specs.Rules.{DraftTree}
use Rattle.kola_rule.specs.RuleViews.{draft_tree}
use Rattle.kola_laws.specs.Laws.{laws}
use Rattle.kola_proof.specs.Drafts.{AreValid}
use Rattle.kola_top.specs.declared.section.Section.TheVariants.{Schema, Database, Rules}
use Rattle.kola_top.specs.declared.section.Span.{Span}
use Rattle.kola_top.specs.declared.section.Sections.{Sections}
use Rattle.kola_top.specs.declared.words.Action.{Action}
use Rattle.kola_top.specs.declared.words.Action.TheVariants.{Translate, Run}
use Rattle.kola_top.specs.declared.refusal.Refusal.{Refusal}
use Rattle.kola_top.specs.declared.refusal.Refusal.TheVariants.{Layout}
use Rattle.kola_top.specs.declared.status.Status.{Status}
use Rattle.kola_top.specs.declared.status.Status.TheVariants as statuses
use Rattle.kola_top.specs.Words.{needs}
use Rattle.kola_top.specs.Layout.{AreSections, place_of}
use Rattle.kola_top.specs.Stages.{text_in, rules_read, WritesRules}
use Rattle.kola_top.specs.Report.{check_text}
use Rattle.kola_top.specs.Answer.{report_of_check, report_of_translate}
use Rattle.kola_top.specs.Staged.{onward}
use Rattle.kola_top.specs.StageLine.{at_layout, at_place, at_schema, at_rules_text, at_rules, Reported, reported, BehindRules, FromRules, FromRulesText, FromSchema, FromPlace, FromDatabase, FromQueryText, OnItsWay}
use Rattle.kola_top.specs.Refusals.{Refuses, Replies, IsOf}
use Rattle.kola_top.proofs.PlaceLaws.{place_within, place_fits, lines_within}
use Rattle.kola_top.proofs.StageLaws.{stops, replies_too, refuses_too, handed}
use Rattle.kola_top.proofs.answer.report_of.Goals as goal

-- what comes behind a stage comes on the way
module _ (a : Action) (job : List ℕ) (found : Sections) (l : AreSections job found) where
  behind_layout : (s : Status) (b : List ℕ) → FromPlace a job found s b → OnItsWay a job s b
  behind_layout s b k = onward found s b l k

  module _ (p : Span) (e : place_of (needs a) found ≡ Some p) where
    behind_place : (s : Status) (b : List ℕ) → FromSchema a job found p s b → OnItsWay a job s b
    behind_place s b k = behind_layout s b (onward p s b e k)

    module _ (S : Classes) (w : Writes greatest_nesting (text_in job found.schema) S) where
      behind_schema : (s : Status) (b : List ℕ) → FromRulesText a job found p S s b → OnItsWay a job s b
      behind_schema s b k = behind_place s b (onward S s b w k)

      module _ (ds : List DraftTree) (d : WritesRules (rules_read a job found) ds) where
        behind_rules_text : (s : Status) (b : List ℕ) → FromRules a job found p S ds s b → OnItsWay a job s b
        behind_rules_text s b k = behind_schema s b (onward ds s b d k)

        behind_rules : AreValid S laws ds → (s : Status) (b : List ℕ) → BehindRules a job found p S ds s b → OnItsWay a job s b
        behind_rules v s b k = behind_rules_text s b (onward tt s b v k)

translated : {T : Type 0} (view : T → List ℕ) (r : Result T Refusal) (x y : List ℕ) (Z S : Classes) → x ≡ y → Z ≡ S
    → Replies view (FromQueryText x Z (λ q t. Reported (report_of_translate Z q t))) r → Replies view (FromQueryText y S (λ q t. Reported (report_of_translate S q t))) r
translated view r x y Z S i j h =
    subst (λ z. Replies view (FromQueryText z S (λ q t. Reported (report_of_translate S q t))) r) i
    (subst (λ z. Replies view (FromQueryText x z (λ q t. Reported (report_of_translate z q t))) r) j h)

ran : {T : Type 0} (view : T → List ℕ) (r : Result T Refusal) (x y d e : List ℕ) (Z S : Classes) → x ≡ y → d ≡ e → Z ≡ S
    → Replies view (FromQueryText x Z (λ q _. FromDatabase d Z q)) r → Replies view (FromQueryText y S (λ q _. FromDatabase e S q)) r
ran view r x y d e Z S i k j h =
    subst (λ z. Replies view (FromQueryText z S (λ q _. FromDatabase e S q)) r) i
    (subst (λ z. Replies view (FromQueryText x S (λ q _. FromDatabase z S q)) r) k
    (subst (λ z. Replies view (FromQueryText x z (λ q _. FromDatabase d z q)) r) j h))

pub needed_place-requires : goal.needed_place-requires
needed_place-requires c = omega (arith, lines_within c.args.job.now c.in_ok-found.found ((c.in_ok-found.ensures.found c.in_ok-found.found).0 refl), c.requires)

pub text_in-requires : goal.text_in-requires
text_in-requires c = place_fits c.args.job.now c.in_ok-found.found Schema ((c.in_ok-found.ensures.found c.in_ok-found.found).0 refl)

pub rules_read-requires : goal.rules_read-requires
rules_read-requires c = place_fits c.args.job.now c.in_ok-found.found Rules ((c.in_ok-found.ensures.found c.in_ok-found.found).0 refl)

pub returns-in_err-found : goal.returns-in_err-found
returns-in_err-found c =
    let a = c.args.action in
    let job = c.args.job.now in
    let f = c.in_err-found.field-0.0 in
    handed _ (OnItsWay a job) c.from_residual.result _ c.from_residual.ensures.1
    (λ e i. subst (Refuses (OnItsWay a job)) (sym i) (stops (at_layout job) (FromPlace a job) (Layout f) (f, (c.in_err-found.ensures.refused f).0 refl, refl, refl)))

pub returns-in_err-place : goal.returns-in_err-place
returns-in_err-place c =
    let a = c.args.action in
    let job = c.args.job.now in
    let found = c.in_ok-found.found in
    let l = (c.in_ok-found.ensures.found found).0 refl in
    let r = c.in_err-place.field-0.0 in
    handed _ (OnItsWay a job) c.from_residual-in_err-place.result _ c.from_residual-in_err-place.ensures.1
    (λ e i. subst (Refuses (OnItsWay a job)) (sym i)
    (refuses_too (FromPlace a job found) (OnItsWay a job) (behind_layout a job found l) r
    (stops (at_place a found) (FromSchema a job found) r c.in_err-place.ensures)))

pub returns-in_err-schema : goal.returns-in_err-schema
returns-in_err-schema c =
    let a = c.args.action in
    let job = c.args.job.now in
    let found = c.in_ok-found.found in
    let l = (c.in_ok-found.ensures.found found).0 refl in
    let p = c.in_ok-place.place in
    let r = c.in_err-schema.field-0.0 in
    handed _ (OnItsWay a job) c.from_residual-in_err-schema.result _ c.from_residual-in_err-schema.ensures.1
    (λ e i. subst (Refuses (OnItsWay a job)) (sym i)
    (refuses_too (FromSchema a job found p) (OnItsWay a job) (behind_place a job found l p c.in_ok-place.ensures) r
    (stops (at_schema (text_in job found.schema)) (FromRulesText a job found p) r (subst (λ t. Refuses (IsOf (at_schema t)) r) c.text_in.ensures c.in_err-schema.ensures))))

pub returns-in_err-drafts : goal.returns-in_err-drafts
returns-in_err-drafts c =
    let a = c.args.action in
    let job = c.args.job.now in
    let found = c.in_ok-found.found in
    let l = (c.in_ok-found.ensures.found found).0 refl in
    let p = c.in_ok-place.place in
    let S = c.in_ok-schema.schema.value in
    let w = subst (λ t. Writes greatest_nesting t S) c.text_in.ensures c.in_ok-schema.ensures in
    let r = c.in_err-drafts.field-0.0 in
    handed _ (OnItsWay a job) c.from_residual-in_err-drafts.result _ c.from_residual-in_err-drafts.ensures.1
    (λ e i. subst (Refuses (OnItsWay a job)) (sym i)
    (refuses_too (FromRulesText a job found p S) (OnItsWay a job) (behind_schema a job found l p c.in_ok-place.ensures S w) r
    (stops (at_rules_text (rules_read a job found)) (FromRules a job found p S) r (subst (λ t. Refuses (IsOf (at_rules_text t)) r) c.rules_read.ensures c.in_err-drafts.ensures))))

pub returns-in_err-book : goal.returns-in_err-book
returns-in_err-book c =
    let a = c.args.action in
    let job = c.args.job.now in
    let found = c.in_ok-found.found in
    let l = (c.in_ok-found.ensures.found found).0 refl in
    let p = c.in_ok-place.place in
    let S = c.in_ok-schema.schema.value in
    let w = subst (λ t. Writes greatest_nesting t S) c.text_in.ensures c.in_ok-schema.ensures in
    let ds = map draft_tree c.in_ok-drafts.drafts in
    let d = subst (λ t. WritesRules t ds) c.rules_read.ensures c.in_ok-drafts.ensures in
    let r = c.in_err-book.field-0.0 in
    handed _ (OnItsWay a job) c.from_residual-in_err-book.result _ c.from_residual-in_err-book.ensures.1
    (λ e i. subst (Refuses (OnItsWay a job)) (sym i)
    (refuses_too (FromRules a job found p S ds) (OnItsWay a job) (behind_rules_text a job found l p c.in_ok-place.ensures S w ds d) r
    (stops (at_rules S ds) (λ _. BehindRules a job found p S ds) r c.in_err-book.ensures.answer)))

pub text_in-needed-requires : goal.text_in-needed-requires
text_in-needed-requires c = place_within c.args.job.now c.in_ok-found.found (needs c.args.action) c.in_ok-place.place ((c.in_ok-found.ensures.found c.in_ok-found.found).0 refl) c.in_ok-place.ensures

pub text_in-requires-in-Run : goal.text_in-requires-in-Run
text_in-requires-in-Run c = place_fits c.args.job.now c.in_ok-found.found Database ((c.in_ok-found.ensures.found c.in_ok-found.found).0 refl)

pub returns-in-Check : goal.returns-in-Check
returns-in-Check c =
    let a = c.args.action in
    let job = c.args.job.now in
    let found = c.in_ok-found.found in
    let l = (c.in_ok-found.ensures.found found).0 refl in
    let p = c.in_ok-place.place in
    let S = c.in_ok-schema.schema.value in
    let w = subst (λ t. Writes greatest_nesting t S) c.text_in.ensures c.in_ok-schema.ensures in
    let ds = map draft_tree c.in_ok-drafts.drafts in
    let d = subst (λ t. WritesRules t ds) c.rules_read.ensures c.in_ok-drafts.ensures in
    let v = c.in_ok-book.ensures.answer in
    behind_rules a job found l p c.in_ok-place.ensures S w ds d v _ _
    (subst (λ z. BehindRules z job found p S ds statuses.Ok c.in_ok-check_report-in-Check.field-0.items) (sym c.in-Check.is)
    (subst (Reported (report_of_check ds) statuses.Ok) (sym (c.in_ok-check_report-in-Check.ensures ∙ ap (λ ns. check_text ns 0) c.in_ok-book.ensures.names)) reported))

-- what an action says of a query's text under its schema, it says on the way
module _ (a : Action) (job : List ℕ) (found : Sections) (l : AreSections job found) (p : Span) (e : place_of (needs a) found ≡ Some p)
    (S : Classes) (w : Writes greatest_nesting (text_in job found.schema) S) (ds : List DraftTree) (d : WritesRules (rules_read a job found) ds) (v : AreValid S laws ds) where
  on_its_way : {T : Type 0} (view : T → List ℕ) (b : Action) (r : Result T Refusal) → a ≡ b → Replies view (BehindRules b job found p S ds) r → Replies view (OnItsWay a job) r
  on_its_way view b r same h =
      replies_too view (BehindRules b job found p S ds) (OnItsWay a job)
      (λ s x k. behind_rules a job found l p e S w ds d v s x (subst (λ z. BehindRules z job found p S ds s x) (sym same) k)) r h

pub returns-in-Translate : goal.returns-in-Translate
returns-in-Translate c =
    let a = c.args.action in
    let job = c.args.job.now in
    let found = c.in_ok-found.found in
    let l = (c.in_ok-found.ensures.found found).0 refl in
    let p = c.in_ok-place.place in
    let S = c.in_ok-schema.schema.value in
    let w = subst (λ t. Writes greatest_nesting t S) c.text_in.ensures c.in_ok-schema.ensures in
    let ds = map draft_tree c.in_ok-drafts.drafts in
    let d = subst (λ t. WritesRules t ds) c.rules_read.ensures c.in_ok-drafts.ensures in
    let v = c.in_ok-book.ensures.answer in
    on_its_way a job found l p c.in_ok-place.ensures S w ds d v _ Translate c.translate_report.result c.in-Translate.is
    (translated _ c.translate_report.result _ _ _ _ c.text_in-needed.ensures (c.schema.ensures ∙ c.in_ok-book.ensures.schema) c.translate_report.ensures)

pub returns : goal.returns
returns c =
    let a = c.args.action in
    let job = c.args.job.now in
    let found = c.in_ok-found.found in
    let l = (c.in_ok-found.ensures.found found).0 refl in
    let p = c.in_ok-place.place in
    let S = c.in_ok-schema.schema.value in
    let w = subst (λ t. Writes greatest_nesting t S) c.text_in.ensures c.in_ok-schema.ensures in
    let ds = map draft_tree c.in_ok-drafts.drafts in
    let d = subst (λ t. WritesRules t ds) c.rules_read.ensures c.in_ok-drafts.ensures in
    let v = c.in_ok-book.ensures.answer in
    on_its_way a job found l p c.in_ok-place.ensures S w ds d v _ Run c.run_report.result c.in-Run.is
    (ran _ c.run_report.result _ _ _ _ _ _ c.text_in-needed.ensures c.text_in-in-Run.ensures (c.schema-in-Run.ensures ∙ c.in_ok-book.ensures.schema) c.run_report.ensures)
