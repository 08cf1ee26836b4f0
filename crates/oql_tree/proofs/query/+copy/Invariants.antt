use Rattle.std.proofs.Common.{◌≡◌, ◌+◌, ◌*◌, map, take}
use Rattle.oql_tree.specs.QueryTrees.{of_links, of_set_links, of_fields}
use Rattle.oql_tree.specs.QueryViews.{query_tree, link_entry, set_link_entry, named_entry, where_of}
use Rattle.oql_tree.specs.Models.Weights.{weight, links_weight, set_links_weight, fields_weight, where_weight}
use Rattle.oql_tree.proofs.query.+copy.Given as goal

abbrev pub decreases-Expr::copy : goal.decreases-Expr::copy
decreases-Expr::copy l = 2 * weight (query_tree l.self.now)

abbrev pub decreases-BoxedExpr::copy : goal.decreases-BoxedExpr::copy
decreases-BoxedExpr::copy l = 2 * weight l.self.now + 1

abbrev pub decreases-Chain::copy : goal.decreases-Chain::copy
decreases-Chain::copy l = 2 * links_weight (of_links l.self.now)

abbrev pub decreases-SetChain::copy : goal.decreases-SetChain::copy
decreases-SetChain::copy l = 2 * set_links_weight (of_set_links l.self.now)

abbrev pub decreases-NamedExprs::copy : goal.decreases-NamedExprs::copy
decreases-NamedExprs::copy l = 2 * fields_weight (of_fields l.self.now)

abbrev pub decreases-copy_condition : goal.decreases-copy_condition
decreases-copy_condition l = 2 * where_weight (where_of l.condition.now)

abbrev pub invariant-Chain::copy-loop-at : goal.invariant-Chain::copy-loop-at
invariant-Chain::copy-loop-at l = map link_entry l.entries.items ≡ take l.at-index l.self

abbrev pub invariant-SetChain::copy-loop-at : goal.invariant-SetChain::copy-loop-at
invariant-SetChain::copy-loop-at l = map set_link_entry l.entries.items ≡ take l.at-index l.self

abbrev pub invariant-NamedExprs::copy-loop-name : goal.invariant-NamedExprs::copy-loop-name
invariant-NamedExprs::copy-loop-name l = map named_entry l.entries.items ≡ take l.name-index l.self
