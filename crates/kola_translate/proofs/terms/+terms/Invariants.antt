use Rattle.std.proofs.Common.{◌+◌, ◌*◌, ◌∷◌, map}
use Rattle.oql_tree.specs.QueryTrees.{of_links, of_set_links, of_fields, of_ranges}
use Rattle.oql_tree.specs.QueryViews.{query_tree, link_entry, set_link_entry, named_entry, where_of}
use Rattle.oql_tree.specs.Models.Weights.{weight, links_weight, set_links_weight, fields_weight, ranges_weight, where_weight}
use Rattle.kola_translate.proofs.terms.+terms.Given as goal

abbrev pub decreases-part_of : goal.decreases-part_of
decreases-part_of l = 4 * weight (query_tree l.e.now)

abbrev pub decreases-function : goal.decreases-function
decreases-function l = 4 * weight (query_tree l.e.now) + 1

abbrev pub decreases-predicate : goal.decreases-predicate
decreases-predicate l = 4 * weight (query_tree l.e.now) + 1

abbrev pub decreases-intersections : goal.decreases-intersections
decreases-intersections l = 4 * links_weight (of_links (map link_entry l.links.now))

abbrev pub decreases-tests_of : goal.decreases-tests_of
decreases-tests_of l = 4 * (weight l.first.now + links_weight (of_links l.links.now)) + 1

abbrev pub decreases-tests : goal.decreases-tests
decreases-tests l = 4 * links_weight (of_links (map link_entry l.links.now))

abbrev pub decreases-unions : goal.decreases-unions
decreases-unions l = 4 * set_links_weight (of_set_links (map set_link_entry l.links.now))

abbrev pub decreases-comparison : goal.decreases-comparison
decreases-comparison l = 4 * (weight l.a.now + weight l.b.now) + 2

abbrev pub decreases-struct_of : goal.decreases-struct_of
decreases-struct_of l = 4 * fields_weight (of_fields l.fields.now) + 3

abbrev pub decreases-fields_of : goal.decreases-fields_of
decreases-fields_of l = 4 * fields_weight (of_fields (named_entry l.first.now ∷ map named_entry l.rest.now)) + 2

abbrev pub decreases-quantifier : goal.decreases-quantifier
decreases-quantifier l = 4 * (weight l.range.now + weight l.body.now) + 3

abbrev pub decreases-select : goal.decreases-select
decreases-select l = 4 * (weight l.head.now + ranges_weight (of_ranges l.ranges.now) + where_weight (where_of l.condition.now)) + 3

abbrev pub decreases-ranges_of : goal.decreases-ranges_of
decreases-ranges_of l = 4 * (weight l.head.now + ranges_weight (of_ranges (named_entry l.first.now ∷ map named_entry l.rest.now)) + where_weight (where_of l.condition.now)) + 2

abbrev pub decreases-innermost : goal.decreases-innermost
decreases-innermost l = 4 * (weight l.head.now + where_weight (where_of l.condition.now)) + 3

abbrev pub decreases-behind_range : goal.decreases-behind_range
decreases-behind_range l = 4 * (weight l.head.now + ranges_weight (of_ranges (map named_entry l.rest.now)) + where_weight (where_of l.condition.now)) + 3

abbrev pub decreases-condition_of : goal.decreases-condition_of
decreases-condition_of l = 4 * where_weight (where_of l.condition.now) + 2
