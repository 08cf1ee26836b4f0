use Rattle.kola_base.specs.NamedViews.{named_view}
use Rattle.kola_parse.specs.Reader.{chain, few_rounds, final, rounds, ◌>>=◌}
use Rattle.oql_syntax.specs.Alphabet.{kind}
use Rattle.oql_syntax.specs.QueryReaders.{Operands, OperandsTailed, RangesTailed, SetOperands, add_operand, add_set_operand, and_move, below, comma_move, field, first_field, first_range, full, intersect_move, meet_from, more_operands, more_ranges, next, openand, opennot, or_move, path_by, prim, union_move}
use Rattle.oql_syntax.specs.TailViews.{range_view, tail_view}
use Rattle.std.proofs.Common.{[], length, true, ◌*◌, ◌+◌, ◌≡◌}
use Rattle.oql_syntax.proofs.reading.+queries.Given as goal

abbrev pub decreases-closed_of : goal.decreases-closed_of
decreases-closed_of l = 32 * l.levels + 23

abbrev pub decreases-parts_at : goal.decreases-parts_at
decreases-parts_at l = 32 * l.levels + 25

abbrev pub decreases-prim_of : goal.decreases-prim_of
decreases-prim_of l = 32 * l.levels + 0

abbrev pub decreases-path_at : goal.decreases-path_at
decreases-path_at l = 32 * l.levels + 1

abbrev pub decreases-next_intersect : goal.decreases-next_intersect
decreases-next_intersect l = 32 * l.levels + 2

abbrev pub decreases-intersects_of : goal.decreases-intersects_of
decreases-intersects_of l = 32 * l.levels + 3

abbrev pub decreases-meet_of : goal.decreases-meet_of
decreases-meet_of l = 32 * l.levels + 4

abbrev pub decreases-meet_at : goal.decreases-meet_at
decreases-meet_at l = 32 * l.levels + 5

abbrev pub decreases-next_union : goal.decreases-next_union
decreases-next_union l = 32 * l.levels + 6

abbrev pub decreases-unions_of : goal.decreases-unions_of
decreases-unions_of l = 32 * l.levels + 7

abbrev pub decreases-sets_of : goal.decreases-sets_of
decreases-sets_of l = 32 * l.levels + 8

abbrev pub decreases-sets_at : goal.decreases-sets_at
decreases-sets_at l = 32 * l.levels + 9

abbrev pub decreases-next_comparison : goal.decreases-next_comparison
decreases-next_comparison l = 32 * l.levels + 10

abbrev pub decreases-cmp_of : goal.decreases-cmp_of
decreases-cmp_of l = 32 * l.levels + 11

abbrev pub decreases-quantified_of : goal.decreases-quantified_of
decreases-quantified_of l = 32 * l.levels + 23

abbrev pub decreases-exists_of : goal.decreases-exists_of
decreases-exists_of l = 32 * l.levels + 12

abbrev pub decreases-for_all_of : goal.decreases-for_all_of
decreases-for_all_of l = 32 * l.levels + 24

abbrev pub decreases-opennot_of : goal.decreases-opennot_of
decreases-opennot_of l = 32 * l.levels + 13

abbrev pub decreases-opennot_at : goal.decreases-opennot_at
decreases-opennot_at l = 32 * l.levels + 14

abbrev pub decreases-next_and : goal.decreases-next_and
decreases-next_and l = 32 * l.levels + 15

abbrev pub decreases-ands_of : goal.decreases-ands_of
decreases-ands_of l = 32 * l.levels + 16

abbrev pub decreases-and_of : goal.decreases-and_of
decreases-and_of l = 32 * l.levels + 17

abbrev pub decreases-openand_at : goal.decreases-openand_at
decreases-openand_at l = 32 * l.levels + 18

abbrev pub decreases-next_or : goal.decreases-next_or
decreases-next_or l = 32 * l.levels + 19

abbrev pub decreases-ors_of : goal.decreases-ors_of
decreases-ors_of l = 32 * l.levels + 20

abbrev pub decreases-or_of : goal.decreases-or_of
decreases-or_of l = 32 * l.levels + 21

abbrev pub decreases-full_at : goal.decreases-full_at
decreases-full_at l = 32 * l.levels + 22

abbrev pub decreases-where_of : goal.decreases-where_of
decreases-where_of l = 32 * l.levels + 23

abbrev pub decreases-select_rest_of : goal.decreases-select_rest_of
decreases-select_rest_of l = 32 * l.levels + 24

abbrev pub decreases-select_of : goal.decreases-select_of
decreases-select_of l = 32 * l.levels + 25

abbrev pub decreases-as_of : goal.decreases-as_of
decreases-as_of l = 32 * l.levels + 9

abbrev pub decreases-named_range_of : goal.decreases-named_range_of
decreases-named_range_of l = 32 * l.levels + 10

abbrev pub decreases-range_of : goal.decreases-range_of
decreases-range_of l = 32 * l.levels + 11

abbrev pub decreases-next_range_of : goal.decreases-next_range_of
decreases-next_range_of l = 32 * l.levels + 10

abbrev pub decreases-next_set_of : goal.decreases-next_set_of
decreases-next_set_of l = 32 * l.levels + 11

abbrev pub decreases-next_parts_of : goal.decreases-next_parts_of
decreases-next_parts_of l = 32 * l.levels + 11

abbrev pub decreases-word_range_of : goal.decreases-word_range_of
decreases-word_range_of l = 32 * l.levels + 12

abbrev pub decreases-next_of : goal.decreases-next_of
decreases-next_of l = 32 * l.levels + 13

abbrev pub decreases-next_at : goal.decreases-next_at
decreases-next_at l = 32 * l.levels + 14

abbrev pub decreases-next_range : goal.decreases-next_range
decreases-next_range l = 32 * l.levels + 15

abbrev pub decreases-more_ranges_of : goal.decreases-more_ranges_of
decreases-more_ranges_of l = 32 * l.levels + 16

abbrev pub decreases-ranges_of : goal.decreases-ranges_of
decreases-ranges_of l = 32 * l.levels + 17

abbrev pub decreases-more_fields_of : goal.decreases-more_fields_of
decreases-more_fields_of l = 32 * l.levels + 23

abbrev pub decreases-fields_of : goal.decreases-fields_of
decreases-fields_of l = 32 * l.levels + 24

abbrev pub invariant-ands_of-loop-operands : goal.invariant-ands_of-loop-operands
invariant-ands_of-loop-operands l =
    chain (λ (x : OperandsTailed) t. and_move (opennot l.links l.field (below l.links l.levels)) x.2 t.at (kind t)) more_operands l.left (l._e, l.operands, tail_view l.tail) l.rest
    ≡ chain (λ (x : OperandsTailed) t. and_move (opennot l.links l.field (below l.links l.levels)) x.2 t.at (kind t)) more_operands l.links (l._e, [], tail_view l.fn.end) l.fn.tokens

abbrev pub decreases-ands_of-loop-operands : goal.decreases-ands_of-loop-operands
decreases-ands_of-loop-operands l = l.left

abbrev pub invariant-intersects_of-loop-operands : goal.invariant-intersects_of-loop-operands
invariant-intersects_of-loop-operands l =
    chain (λ (x : Operands) t. intersect_move (path_by l.links (prim (below l.links l.levels))) t.at (kind t)) add_operand l.left (l._e, l.operands) l.rest
    ≡ chain (λ (x : Operands) t. intersect_move (path_by l.links (prim (below l.links l.levels))) t.at (kind t)) add_operand l.links (l._e, []) l.fn.tokens

abbrev pub decreases-intersects_of-loop-operands : goal.decreases-intersects_of-loop-operands
decreases-intersects_of-loop-operands l = l.left

abbrev pub invariant-ors_of-loop-operands : goal.invariant-ors_of-loop-operands
invariant-ors_of-loop-operands l =
    chain (λ (x : OperandsTailed) t. or_move (openand l.links l.field (below l.links l.levels)) x.2 t.at (kind t)) more_operands l.left (l._e, l.operands, tail_view l.tail) l.rest
    ≡ chain (λ (x : OperandsTailed) t. or_move (openand l.links l.field (below l.links l.levels)) x.2 t.at (kind t)) more_operands l.links (l._e, [], tail_view l.fn.end) l.fn.tokens

abbrev pub decreases-ors_of-loop-operands : goal.decreases-ors_of-loop-operands
decreases-ors_of-loop-operands l = l.left

abbrev pub invariant-unions_of-loop-operands : goal.invariant-unions_of-loop-operands
invariant-unions_of-loop-operands l =
    chain (λ (x : SetOperands) t. union_move (meet_from l.links (below l.links l.levels) (prim (below l.links l.levels))) t.at (kind t)) add_set_operand l.left (l._e, l.operands) l.rest
    ≡ chain (λ (x : SetOperands) t. union_move (meet_from l.links (below l.links l.levels) (prim (below l.links l.levels))) t.at (kind t)) add_set_operand l.links (l._e, []) l.fn.tokens

abbrev pub decreases-unions_of-loop-operands : goal.decreases-unions_of-loop-operands
decreases-unions_of-loop-operands l = l.left

abbrev pub invariant-more_fields_of-loop-fields : goal.invariant-more_fields_of-loop-fields
invariant-more_fields_of-loop-fields l =
    (few_rounds (field (full l.links true (below l.links l.levels))) l.left (l.fields, l.label.name.now, l.label.at) l.rest >>= λ x. final x.0 x.1)
    ≡ rounds (field (full l.links true (below l.links l.levels))) (first_field (named_view l.fn.first)) l.fn.tokens

abbrev pub decreases-more_fields_of-loop-fields : goal.decreases-more_fields_of-loop-fields
decreases-more_fields_of-loop-fields l = l.left

abbrev pub invariant-more_ranges_of-loop-ranges : goal.invariant-more_ranges_of-loop-ranges
invariant-more_ranges_of-loop-ranges l =
    chain (λ (x : RangesTailed) t. comma_move (next l.links (below l.links l.levels) l.field) x.1 (kind t)) more_ranges l.left (l.ranges, tail_view l.tail) l.rest
    ≡ chain (λ (x : RangesTailed) t. comma_move (next l.links (below l.links l.levels) l.field) x.1 (kind t)) more_ranges (length l.fn.tokens) (first_range (range_view l.fn.first)) l.fn.tokens

abbrev pub decreases-more_ranges_of-loop-ranges : goal.decreases-more_ranges_of-loop-ranges
decreases-more_ranges_of-loop-ranges l = l.left
