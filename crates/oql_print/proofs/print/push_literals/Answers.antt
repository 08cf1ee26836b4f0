use Rattle.std.proofs.Common.{◌++◌, ap, ◌∙◌, codes}
use Rattle.std.proofs.lemmas.List.{append_assoc}
use Rattle.std.specs.List.{flat_map}
use Rattle.oql_tree.specs.QueryViews.{lit_tree, literal_entry}
use Rattle.oql_print.specs.QuerySpelling.{literal_spelling, further_literal}
use Rattle.kola_canon.proofs.Texts.{spelt_more}
use Rattle.oql_print.proofs.SpellingLoops.{further_literals_push}
use Rattle.oql_print.proofs.print.push_literals.Goals as goal

pub loop-literal-preserved : goal.loop-literal-preserved
loop-literal-preserved c =
    let text = literal_spelling (lit_tree c.loop-literal-item.result.0) in
    c.in_ok-push_literal-2.ensures
    ∙ ap (λ l. l ++ text) c.in_ok-push_bytes.ensures.ok
    ∙ append_assoc c.loop-literal.out.items (codes ", ") text
    ∙ spelt_more literal_entry (flat_map further_literal) further_literal further_literals_push c.push_literal.new.out.items c.loop-literal.out.items c.in-Some.others.now c.loop-literal.literal-index c.loop-literal-item.result c.loop-literal.invariant c.loop-literal-test.true c.loop-literal-item.is
