use Rattle.std.proofs.Common.{ap, sym, subst, ◌∙◌}
use Rattle.oql_tree.specs.QueryViews.{query_tree}
use Rattle.kola_top.specs.Staged.{Then, Nothing}
use Rattle.kola_top.specs.StageLine.{at_query_text, at_query_type, at_size, FromQueryText}
use Rattle.kola_top.specs.Refusals.{Refuses, IsOf}
use Rattle.kola_top.proofs.StageLaws.{handed_on, stops, goes}
use Rattle.kola_top.proofs.asked.ask.Goals as goal

pub returns-in_err-query-clause-refused : goal.returns-in_err-query-clause-refused
returns-in_err-query-clause-refused c =
    let S = c.args.schema.now in
    let text = c.args.text.now in
    let way = FromQueryText text S (λ _ _. Nothing) in
    handed_on way c.from_residual.result _ c.from_residual.ensures.1
    (λ e i. subst (Refuses way) (sym i) (stops (at_query_text text) (λ q. Then (at_query_type S q) (λ _. Then (at_size S q) (λ _. Nothing))) c.in_err-query.field-0.0 c.in_err-query.ensures))

pub returns-in_err-typed-clause-refused : goal.returns-in_err-typed-clause-refused
returns-in_err-typed-clause-refused c =
    let S = c.args.schema.now in
    let text = c.args.text.now in
    let q = query_tree c.in_ok-query.query.value in
    let r = c.in_err-typed.field-0.0 in
    let way = FromQueryText text S (λ _ _. Nothing) in
    handed_on way c.from_residual-in_err-typed.result _ c.from_residual-in_err-typed.ensures.1
    (λ e i. subst (Refuses way) (sym i)
    (goes (at_query_text text) (λ x. Then (at_query_type S x) (λ _. Then (at_size S x) (λ _. Nothing))) q c.in_ok-query.ensures r
    (stops (at_query_type S q) (λ _. Then (at_size S q) (λ _. Nothing)) r c.in_err-typed.ensures.answer)))

pub returns-in_err-term-clause-refused : goal.returns-in_err-term-clause-refused
returns-in_err-term-clause-refused c =
    let S = c.args.schema.now in
    let text = c.args.text.now in
    let q = query_tree c.in_ok-query.query.value in
    let t = c.in_ok-typed.typed.value.1 in
    let r = c.in_err-term.field-0.0 in
    let way = FromQueryText text S (λ _ _. Nothing) in
    handed_on way c.from_residual-in_err-term.result _ c.from_residual-in_err-term.ensures.1
    (λ e i. subst (Refuses way) (sym i)
    (goes (at_query_text text) (λ x. Then (at_query_type S x) (λ _. Then (at_size S x) (λ _. Nothing))) q c.in_ok-query.ensures r
    (goes (at_query_type S q) (λ _. Then (at_size S q) (λ _. Nothing)) t c.in_ok-typed.ensures.answer r
    (stops (at_size S q) (λ _. Nothing) r
    (subst (λ x. Refuses (IsOf (at_size S x)) r) (ap (λ p. p.0) c.deref.ensures ∙ c.in_ok-typed.ensures.query) c.in_err-term.ensures.answer)))))
