use Rattle.std.proofs.Common.{sym, ◌∙◌}
use Rattle.oql_tree.specs.QueryViews.{lit_tree}
use Rattle.oql_check.specs.Checking.{literal_form}
use Rattle.oql_check.proofs.CheckLoops.{alike_turn}
use Rattle.oql_check.proofs.literal.all_alike.Goals as goal

pub returns-then-not-are_alike : goal.returns-then-not-are_alike
returns-then-not-are_alike c =
    c.loop-literal.invariant
    ∙ alike_turn (literal_form (lit_tree c.args.first.now)) (literal_form (lit_tree c.loop-literal-item.result.0)) c.args.others.now c.loop-literal.literal-index c.loop-literal-item.result _ c.loop-literal-test.true c.loop-literal-item.is (c.is_in_range.ensures c.loop-literal-item.result.1) (sym c.are_alike.ensures ∙ c.if-not-are_alike.true)

pub loop-literal-preserved : goal.loop-literal-preserved
loop-literal-preserved c =
    c.loop-literal.invariant
    ∙ alike_turn (literal_form (lit_tree c.args.first.now)) (literal_form (lit_tree c.loop-literal-item.result.0)) c.args.others.now c.loop-literal.literal-index c.loop-literal-item.result _ c.loop-literal-test.true c.loop-literal-item.is (c.is_in_range.ensures c.loop-literal-item.result.1) (sym c.are_alike.ensures ∙ c.if-not-are_alike.false)
