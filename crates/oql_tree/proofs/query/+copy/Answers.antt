use Rattle.std.proofs.Common.{◌∙◌, ap, map, arith}
use Rattle.kola_core.proofs.Lists.{copied_more}
use Rattle.oql_tree.specs.QueryViews.{form_tree, link_entry, set_link_entry, named_entry}
use Rattle.oql_tree.specs.Models.Weights.{weight}
use Rattle.oql_tree.proofs.QueryLoops.{link_falls, set_link_falls, named_falls, ranges_as_fields}
use Rattle.oql_tree.proofs.query.+copy.Goals as goal

pub Chain::copy-copy-requires : goal.Chain::copy-copy-requires
Chain::copy-copy-requires t c =
    let h = link_falls c.deref-at-items.result.now c.args.self.now c.loop-at.at-index c.loop-at-item.result (ap (map link_entry) c.deref-at-items.ensures.value ∙ c.self.view_is) c.loop-at-test.true c.loop-at-item.is in
    (omega (arith, h, c.decreases), tt)

pub Chain::copy-loop-at-preserved : goal.Chain::copy-loop-at-preserved
Chain::copy-loop-at-preserved t c =
    ap (map link_entry) c.in_ok-push.ensures.items
    ∙ copied_more link_entry c.loop-at.entries.items c.deref-at-items.result.now c.self.inside.entries.items c.args.self.now c.loop-at.at-index c.loop-at-item.result (c.loop-at-item.result.0, c.in_ok-copy.field-0)
    c.loop-at.invariant c.deref-at-items.ensures.value c.self.view_is c.loop-at-test.true c.loop-at-item.is (λ j. (c.loop-at-item.result.0, c.in_ok-copy.ensures j))

pub Expr::copy-copy-requires-in-Select-2 : goal.Expr::copy-copy-requires-in-Select-2
Expr::copy-copy-requires-in-Select-2 t c =
    (omega (arith, ranges_as_fields c.in-Select.ranges, ap (λ f. weight (form_tree c.args.self.now.at f)) c.in-Select.is, c.decreases), tt)

pub NamedExprs::copy-copy-requires-in-loop-name : goal.NamedExprs::copy-copy-requires-in-loop-name
NamedExprs::copy-copy-requires-in-loop-name t c =
    let h = named_falls c.deref-name-items.result.now c.args.self.now c.loop-name.name-index c.loop-name-item.result (ap (map named_entry) c.deref-name-items.ensures.value ∙ c.self.view_is) c.loop-name-test.true c.loop-name-item.is in
    (omega (arith, h, c.decreases), tt)

pub NamedExprs::copy-loop-name-preserved : goal.NamedExprs::copy-loop-name-preserved
NamedExprs::copy-loop-name-preserved t c =
    ap (map named_entry) c.in_ok-push.ensures.items
    ∙ copied_more named_entry c.loop-name.entries.items c.deref-name-items.result.now c.self.inside.entries.items c.args.self.now c.loop-name.name-index c.loop-name-item.result (c.in_ok-copy.field-0, c.loop-name-item.result.1, c.in_ok-copy-2.field-0)
    c.loop-name.invariant c.deref-name-items.ensures.value c.self.view_is c.loop-name-test.true c.loop-name-item.is (λ j. (c.in_ok-copy.ensures j, c.loop-name-item.result.1, c.in_ok-copy-2.ensures j))

pub SetChain::copy-copy-requires : goal.SetChain::copy-copy-requires
SetChain::copy-copy-requires t c =
    let h = set_link_falls c.deref-at-items.result.now c.args.self.now c.loop-at.at-index c.loop-at-item.result (ap (map set_link_entry) c.deref-at-items.ensures.value ∙ c.self.view_is) c.loop-at-test.true c.loop-at-item.is in
    (omega (arith, h, c.decreases), tt)

pub SetChain::copy-loop-at-preserved : goal.SetChain::copy-loop-at-preserved
SetChain::copy-loop-at-preserved t c =
    ap (map set_link_entry) c.in_ok-push.ensures.items
    ∙ copied_more set_link_entry c.loop-at.entries.items c.deref-at-items.result.now c.self.inside.entries.items c.args.self.now c.loop-at.at-index c.loop-at-item.result (c.loop-at-item.result.0, c.loop-at-item.result.1, c.in_ok-copy.field-0)
    c.loop-at.invariant c.deref-at-items.ensures.value c.self.view_is c.loop-at-test.true c.loop-at-item.is (λ j. (c.loop-at-item.result.0, c.loop-at-item.result.1, c.in_ok-copy.ensures j))
