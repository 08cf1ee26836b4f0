use Rattle.std.proofs.Common.{sym, ap, ◌∙◌, subst, IsPermutation}
use Rattle.kola_values.specs.Types.{TypeTree}
use Rattle.oql_tree.specs.QueryTrees.{QueryTree}
use Rattle.kola_text.specs.Spelling.{term_spelling}
use Rattle.kola_translate.specs.Translation.{translation}
use Rattle.kola_top.specs.declared.status.Status.TheVariants as statuses
use Rattle.kola_top.specs.Report.{report_text}
use Rattle.kola_top.specs.Answer.{report_of_run, unchanged_report}
use Rattle.kola_top.specs.Staged.{onward}
use Rattle.kola_top.specs.StageLine.{at_database, at_visits, Reported, reported, FromQueryText, FromObjects, FromDatabase}
use Rattle.kola_top.specs.Refusals.{Refuses}
use Rattle.kola_top.proofs.StageLaws.{stops, goes, handed, refuses_too, refused_early, asked_on}
use Rattle.kola_top.proofs.answer.run_report.Goals as goal

pub returns-in_err-asked : goal.returns-in_err-asked
returns-in_err-asked c =
    let S = c.args.schema.now in
    let text = c.args.text.now in
    let rest = λ (x : QueryTree) (_ : TypeTree). FromDatabase c.args.database.now S x in
    let way = FromQueryText text S rest in
    handed _ way c.from_residual.result _ c.from_residual.ensures.1
    (λ e i. subst (Refuses way) (sym i) (refused_early text S rest c.in_err-asked.field-0.0 c.in_err-asked.ensures.refused))

pub returns-in_err-db : goal.returns-in_err-db
returns-in_err-db c =
    let S = c.args.schema.now in
    let text = c.args.text.now in
    let database = c.args.database.now in
    let q = c.in_ok-asked.asked.typed.value.0 in
    let rest = λ (x : QueryTree) (_ : TypeTree). FromDatabase database S x in
    let way = FromQueryText text S rest in
    let r = c.in_err-db.field-0.0 in
    handed _ way c.from_residual-in_err-db.result _ c.from_residual-in_err-db.ensures.1
    (λ e i. subst (Refuses way) (sym i)
    (refuses_too (FromDatabase database S q) way (asked_on S text c.in_ok-asked.asked rest c.in_ok-asked.ensures.found) r
    (stops (at_database S database) (FromObjects S q) r c.in_err-db.ensures.refused)))

pub returns-in_err-valued : goal.returns-in_err-valued
returns-in_err-valued c =
    let S = c.args.schema.now in
    let text = c.args.text.now in
    let database = c.args.database.now in
    let q = c.in_ok-asked.asked.typed.value.0 in
    let rest = λ (x : QueryTree) (_ : TypeTree). FromDatabase database S x in
    let way = FromQueryText text S rest in
    let r = c.in_err-valued.field-0.0 in
    let l = c.in_ok-db.ensures.loaded in
    handed _ way c.from_residual-in_err-valued.result _ c.from_residual-in_err-valued.ensures.1
    (λ e i. subst (Refuses way) (sym i)
    (refuses_too (FromDatabase database S q) way (asked_on S text c.in_ok-asked.asked rest c.in_ok-asked.ensures.found) r
    (goes (at_database S database) (FromObjects S q) l.objects (l.value, l.reads, l.writes) r
    (stops (at_visits S l.objects (translation S q)) (λ _. Reported (report_text (report_of_run S l.objects q))) r (c.in_err-valued.ensures l.objects (subst (λ d. IsPermutation l.objects d.objects) (sym c.deref.ensures) l.exactly))))))

pub returns : goal.returns
returns c =
    let S = c.args.schema.now in
    let text = c.args.text.now in
    let database = c.args.database.now in
    let q = c.in_ok-asked.asked.typed.value.0 in
    let found = c.in_ok-asked.ensures.found in
    let l = c.in_ok-db.ensures.loaded in
    let v = c.in_ok-valued.ensures l.objects (subst (λ d. IsPermutation l.objects d.objects) (sym c.deref.ensures) l.exactly) in
    let query = c.deref-2.ensures.value ∙ c.in_ok-query.ensures ∙ ap term_spelling found.ready.term in
    let outcome = c.deref-3.ensures.value ∙ v.text in
    asked_on S text c.in_ok-asked.asked (λ x _. FromDatabase database S x) found _ _
    (onward l.objects _ _ (l.value, l.reads, l.writes) (onward tt _ _ v.within
    (subst (Reported (report_text (report_of_run S l.objects q)) statuses.Ok) (sym (c.in_ok-bytes.ensures ∙ (λ k. report_text (unchanged_report (query k) (v.visited k) (outcome k))))) reported)))
