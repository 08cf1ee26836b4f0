use Rattle.std.proofs.Common.{◌≡◌, ◌+◌, ◌*◌, ◌≤◌, ◌++◌, map, take, drop}
use Rattle.oql_tree.specs.QueryTrees.{of_links, of_set_links, of_fields, of_ranges}
use Rattle.oql_tree.specs.QueryViews.{query_tree, link_entry, set_link_entry, named_entry, where_of}
use Rattle.oql_tree.specs.Models.Weights.{weight, links_weight, set_links_weight, fields_weight, ranges_weight, where_weight}
use Rattle.oql_print.specs.QuerySpelling.{spelling_at, operands_spelling, set_links_spelling, further_fields, further_ranges}
use Rattle.oql_print.proofs.print.+print.Given as goal

abbrev pub decreases-push_query : goal.decreases-push_query
decreases-push_query l = 4 * weight (query_tree l.query.now)

abbrev pub decreases-push_part : goal.decreases-push_part
decreases-push_part l = 4 * weight (query_tree l.e.now) + 1

abbrev pub decreases-push_inside : goal.decreases-push_inside
decreases-push_inside l = 4 * weight l.e.now + 1

abbrev pub decreases-push_not : goal.decreases-push_not
decreases-push_not l = 4 * weight l.e.now + 2

abbrev pub decreases-push_chain : goal.decreases-push_chain
decreases-push_chain l = 4 * (weight l.e.now + links_weight (of_links l.links.now)) + 3

abbrev pub decreases-push_struct : goal.decreases-push_struct
decreases-push_struct l = 4 * fields_weight (of_fields (map named_entry l.fields.now)) + 1

abbrev pub decreases-push_path : goal.decreases-push_path
decreases-push_path l = 4 * weight l.e.now + 2

abbrev pub decreases-push_comparison : goal.decreases-push_comparison
decreases-push_comparison l = 4 * (weight l.a.now + weight l.b.now) + 2

abbrev pub decreases-push_sets : goal.decreases-push_sets
decreases-push_sets l = 4 * (weight l.first.now + set_links_weight (of_set_links (map set_link_entry l.links.now))) + 2

abbrev pub decreases-push_select : goal.decreases-push_select
decreases-push_select l = 4 * (weight l.head.now + ranges_weight (of_ranges (map named_entry l.ranges.now)) + where_weight (where_of l.condition.now)) + 3

abbrev pub decreases-push_quantifier : goal.decreases-push_quantifier
decreases-push_quantifier l = 4 * (weight l.range.now + weight l.body.now) + 3

abbrev pub decreases-push_operands : goal.decreases-push_operands
decreases-push_operands l = 4 * (weight (query_tree l.first.now) + links_weight (of_links (map link_entry l.links.now))) + 2

abbrev pub decreases-push_set_links : goal.decreases-push_set_links
decreases-push_set_links l = 4 * set_links_weight (of_set_links (map set_link_entry l.links.now))

abbrev pub decreases-push_fields : goal.decreases-push_fields
decreases-push_fields l = 4 * fields_weight (of_fields (map named_entry l.fields.now))

abbrev pub decreases-push_field : goal.decreases-push_field
decreases-push_field l = 4 * weight (query_tree l.e.now) + 2

abbrev pub decreases-push_ranges : goal.decreases-push_ranges
decreases-push_ranges l = 4 * ranges_weight (of_ranges (map named_entry l.ranges.now))

abbrev pub decreases-push_range : goal.decreases-push_range
decreases-push_range l = 4 * weight (query_tree l.e.now) + 2

abbrev pub decreases-push_condition : goal.decreases-push_condition
decreases-push_condition l = 4 * where_weight (where_of l.condition.now)

abbrev pub invariant-push_operands-loop-next : goal.invariant-push_operands-loop-next
invariant-push_operands-loop-next l =
    (l.out.items ++ operands_spelling l.fn.class l.fn.word l.fn.open_end (λ o. spelling_at l.fn.class o (query_tree l.last)) (of_links (drop l.next-index (map link_entry l.fn.links)))
    ≡ l.fn.out.items ++ operands_spelling l.fn.class l.fn.word l.fn.open_end (λ o. spelling_at l.fn.class o (query_tree l.fn.first)) (of_links (map link_entry l.fn.links)))
    × (weight (query_tree l.last) + links_weight (of_links (drop l.next-index (map link_entry l.fn.links))) ≤ weight (query_tree l.fn.first) + links_weight (of_links (map link_entry l.fn.links)))

abbrev pub invariant-push_set_links-loop-except : goal.invariant-push_set_links-loop-except
invariant-push_set_links-loop-except l = l.out.items ≡ l.initial.out.items ++ set_links_spelling (of_set_links (take l.except-index (map set_link_entry l.links)))

abbrev pub invariant-push_fields-loop-label : goal.invariant-push_fields-loop-label
invariant-push_fields-loop-label l = l.out.items ≡ l.initial.out.items ++ further_fields (of_fields (take l.label-index (map named_entry l.others)))

abbrev pub invariant-push_ranges-loop-x : goal.invariant-push_ranges-loop-x
invariant-push_ranges-loop-x l = l.out.items ≡ l.initial.out.items ++ further_ranges (of_ranges (take l.x-index (map named_entry l.others)))
