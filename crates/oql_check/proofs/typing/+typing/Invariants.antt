use Rattle.std.proofs.Common.{◌≡◌, ◌+◌, ◌*◌, [], map, drop}
use Rattle.oql_tree.specs.QueryTrees.{of_links, of_set_links, of_fields, of_ranges}
use Rattle.oql_tree.specs.QueryViews.{query_tree, link_entry, set_link_entry, where_of}
use Rattle.oql_tree.specs.Models.Weights.{weight, links_weight, set_links_weight, fields_weight, ranges_weight, where_weight}
use Rattle.oql_check.specs.QueryTypes.{links_type, set_links_type, ranges_scope}
use Rattle.oql_check.specs.Checking.{EndsIn, join_type}
use Rattle.oql_check.proofs.CheckLoops.{to_come}
use Rattle.oql_check.proofs.typing.+typing.Given as goal

abbrev pub decreases-query_type : goal.decreases-query_type
decreases-query_type l = 4 * weight (query_tree l.e.now)

abbrev pub decreases-walk_type : goal.decreases-walk_type
decreases-walk_type l = 4 * weight l.first.now + 1

abbrev pub decreases-links_type : goal.decreases-links_type
decreases-links_type l = 4 * links_weight (of_links (map link_entry l.links.now))

abbrev pub decreases-set_links_type : goal.decreases-set_links_type
decreases-set_links_type l = 4 * set_links_weight (of_set_links (map set_link_entry l.links.now))

abbrev pub decreases-fields_type : goal.decreases-fields_type
decreases-fields_type l = 4 * fields_weight (of_fields l.fields.now)

abbrev pub decreases-quantifier_type : goal.decreases-quantifier_type
decreases-quantifier_type l = 4 * (weight l.range.now + weight l.body.now) + 3

abbrev pub decreases-select_type : goal.decreases-select_type
decreases-select_type l = 4 * (weight l.head.now + ranges_weight (of_ranges l.ranges.now) + where_weight (where_of l.condition.now)) + 3

abbrev pub decreases-bind_ranges : goal.decreases-bind_ranges
decreases-bind_ranges l = 4 * ranges_weight (of_ranges l.ranges.now) + 2

abbrev pub decreases-bind_range : goal.decreases-bind_range
decreases-bind_range l = 4 * weight (query_tree l.range.now) + 1

abbrev pub decreases-check_condition : goal.decreases-check_condition
decreases-check_condition l = 4 * where_weight (where_of l.condition.now)

abbrev pub invariant-links_type-loop-at : goal.invariant-links_type-loop-at
invariant-links_type-loop-at l =
    (links_type l.schema l.initial.scope (join_type l.join) l.initial.t (of_links (map link_entry l.links))
    ≡ links_type l.schema l.initial.scope (join_type l.join) l.t (of_links (drop l.at-index (map link_entry l.links))))
    × (l.scope ≡ l.initial.scope)

abbrev pub invariant-set_links_type-loop-at : goal.invariant-set_links_type-loop-at
invariant-set_links_type-loop-at l =
    (set_links_type l.schema l.initial.scope l.initial.t (of_set_links (map set_link_entry l.links))
    ≡ set_links_type l.schema l.initial.scope l.t (of_set_links (drop l.at-index (map set_link_entry l.links))))
    × (l.scope ≡ l.initial.scope)

abbrev pub invariant-fields_type-loop-label : goal.invariant-fields_type-loop-label
invariant-fields_type-loop-label l =
    (to_come l.schema l.initial.scope [] l.fields ≡ to_come l.schema l.initial.scope l.types (drop l.label-index l.fields))
    × (l.scope ≡ l.initial.scope)

abbrev pub invariant-bind_ranges-loop-x : goal.invariant-bind_ranges-loop-x
invariant-bind_ranges-loop-x l =
    (ranges_scope l.schema l.initial.scope (of_ranges l.ranges) ≡ ranges_scope l.schema l.scope (of_ranges (drop l.x-index l.ranges)))
    × EndsIn l.scope l.initial.scope
