use Rattle.std.proofs.Common.{ap, sym, subst, ◌∙◌}
use Rattle.kola_canon.specs.Spelling.{type_spelling}
use Rattle.kola_text.specs.Spelling.{term_spelling}
use Rattle.kola_top.specs.declared.status.Status.TheVariants as statuses
use Rattle.kola_top.specs.Report.{translate_text}
use Rattle.kola_top.specs.Answer.{report_of_translate}
use Rattle.kola_top.specs.StageLine.{Reported, reported, FromQueryText}
use Rattle.kola_top.specs.Refusals.{Refuses}
use Rattle.kola_top.proofs.StageLaws.{handed, refused_early, asked_on}
use Rattle.kola_top.proofs.asked.translate_report.Goals as goal

pub returns-in_err-asked : goal.returns-in_err-asked
returns-in_err-asked c =
    let S = c.args.schema.now in
    let text = c.args.text.now in
    let way = FromQueryText text S (λ q t. Reported (report_of_translate S q t)) in
    handed _ way c.from_residual.result _ c.from_residual.ensures.1
    (λ e i. subst (Refuses way) (sym i) (refused_early text S (λ q t. Reported (report_of_translate S q t)) c.in_err-asked.field-0.0 c.in_err-asked.ensures.refused))

pub returns : goal.returns
returns c =
    let S = c.args.schema.now in
    let found = c.in_ok-asked.ensures.found in
    let q = c.in_ok-asked.asked.typed.value.0 in
    let t = c.in_ok-asked.asked.typed.value.1 in
    asked_on S c.args.text.now c.in_ok-asked.asked (λ x y. Reported (report_of_translate S x y)) found _ _
    (subst (Reported (report_of_translate S q t) statuses.Ok)
    (sym (c.in_ok-bytes.ensures ∙ ap (λ z. translate_text (term_spelling z) (type_spelling t)) found.ready.term)) reported)
