use Rattle.std.proofs.Common.{◌≡◌, ◌+◌, ◌∷◌, [], Ok, map, drop, refl, sym, ap, subst, ◌∙◌, arith}
use Rattle.oql_tree.specs.QueryTrees.{QRange, NoRanges, of_ranges}
use Rattle.oql_tree.specs.QueryViews.{query_tree, link_entry, set_link_entry, where_of}
use Rattle.oql_tree.proofs.QueryLoops.{link_falls, set_link_falls, named_falls}
use Rattle.oql_tree.proofs.QueryLoops.{range_falls}
use Rattle.oql_check.specs.QueryTypes.{and_then, query_type, ranges_scope}
use Rattle.oql_check.specs.Checking.{IsFault, join_type}
use Rattle.oql_check.proofs.CheckLoops.{fault_then, to_come, fields_start, fields_done, label_refused, field_refused, field_more, ranges_turn, ends_further, handed, handed_fields, handed_scope, operand_refused, join_refused, link_more, set_operand_refused, set_join_refused, set_link_more, ranges_there, condition_refused, head_refused, head_typed}
use Rattle.oql_check.proofs.typing.+typing.Goals as goal

-- ---- ranges

pub bind_range-returns-clause-older : goal.bind_range-returns-clause-older
bind_range-returns-clause-older t c = ((c.args.x.now, c.in_ok-member.member) ∷ [], c.in_ok-bind.ensures ∙ ap (λ l. (c.args.x.now, c.in_ok-member.member) ∷ l) c.in_ok-t.ensures.kept)

pub bind_ranges-bind_range-requires : goal.bind_ranges-bind_range-requires
bind_ranges-bind_range-requires t c =
    let h = range_falls c.as_slice-x-items.result.now c.args.ranges.now c.loop-x.x-index c.loop-x-item.result c.as_slice-x-items.ensures c.loop-x-test.true c.loop-x-item.is in
    (omega (arith, h, c.decreases), tt)

pub bind_ranges-returns-in_err-bind_range-clause-value : goal.bind_ranges-returns-in_err-bind_range-clause-value
bind_ranges-returns-in_err-bind_range-clause-value t c =
    let S = c.args.schema.now in
    let i = c.loop-x.x-index in
    let x = c.loop-x-item.result in
    let rest = of_ranges (drop (i + 1) c.args.ranges.now) in
    handed_scope c.from_residual.result _ _ _ c.from_residual.ensures.1
    (subst (IsFault _) (sym (c.loop-x.invariant.0 ∙ ranges_turn S c.loop-x.scope c.as_slice-x-items.result.now c.args.ranges.now c.as_slice-x-items.ensures i x c.loop-x-test.true c.loop-x-item.is))
    (fault_then _ (ranges_scope S c.loop-x.scope (QRange x.0 x.1 (query_tree x.2) NoRanges)) (λ ms. ranges_scope S ms rest) c.in_err-bind_range.ensures.value))

pub bind_ranges-loop-x-preserved : goal.bind_ranges-loop-x-preserved
bind_ranges-loop-x-preserved t c =
    let S = c.args.schema.now in
    let i = c.loop-x.x-index in
    let rest = of_ranges (drop (i + 1) c.args.ranges.now) in (
      c.loop-x.invariant.0
          ∙ ranges_turn S c.loop-x.scope c.as_slice-x-items.result.now c.args.ranges.now c.as_slice-x-items.ensures i c.loop-x-item.result c.loop-x-test.true c.loop-x-item.is
          ∙ ap (λ r. and_then r (λ ms. ranges_scope S ms rest)) c.in_ok-bind_range.ensures.value,
      ends_further c.bind_range.new.scope c.loop-x.scope c.args.scope.now c.in_ok-bind_range.ensures.older c.loop-x.invariant.1,
    )

-- ---- fields

pub fields_type-returns-in_err-check_label-clause-value : goal.fields_type-returns-in_err-check_label-clause-value
fields_type-returns-in_err-check_label-clause-value t c =
    let S = c.args.schema.now in
    let ns = c.args.scope.now in
    let us = c.args.fields.now in
    handed_fields c.from_residual.result _ _ c.from_residual.ensures.1
    (subst (IsFault _) (sym (fields_start S ns us ∙ c.loop-label.invariant.0))
    (label_refused S ns c.as_slice-label-items.result.now us c.as_slice-label-items.ensures c.loop-label.label-index c.loop-label-item.result c.loop-label-test.true c.loop-label-item.is c.loop-label.types _ c.in_err-check_label.ensures))

pub fields_type-query_type-requires : goal.fields_type-query_type-requires
fields_type-query_type-requires t c =
    let h = named_falls c.as_slice-label-items.result.now c.args.fields.now c.loop-label.label-index c.loop-label-item.result c.as_slice-label-items.ensures c.loop-label-test.true c.loop-label-item.is in
    (omega (arith, h, c.decreases), tt)

pub fields_type-returns-in_err-t-clause-value : goal.fields_type-returns-in_err-t-clause-value
fields_type-returns-in_err-t-clause-value t c =
    let S = c.args.schema.now in
    let ns = c.args.scope.now in
    let us = c.args.fields.now in
    let x = c.loop-label-item.result in
    handed_fields c.from_residual-in_err-t.result _ _ c.from_residual-in_err-t.ensures.1
    (subst (IsFault _) (sym (fields_start S ns us ∙ c.loop-label.invariant.0))
    (field_refused S ns c.as_slice-label-items.result.now us c.as_slice-label-items.ensures c.loop-label.label-index x c.loop-label-test.true c.loop-label-item.is c.loop-label.types _ c.in_ok-check_label.ensures
    (subst (λ m. IsFault c.in_err-t.field-0.0 (query_type S m (query_tree x.2))) c.loop-label.invariant.1 c.in_err-t.ensures.value)))

pub fields_type-loop-label-preserved : goal.fields_type-loop-label-preserved
fields_type-loop-label-preserved t c =
    let S = c.args.schema.now in
    let ns = c.args.scope.now in
    let us = c.args.fields.now in
    let i = c.loop-label.label-index in
    let x = c.loop-label-item.result in (
      c.loop-label.invariant.0
          ∙ field_more S ns c.as_slice-label-items.result.now us c.as_slice-label-items.ensures i x c.loop-label-test.true c.loop-label-item.is c.loop-label.types c.in_ok-t.t c.in_ok-check_label.ensures
          (subst (λ m. query_type S m (query_tree x.2) ≡ Ok c.in_ok-t.t) c.loop-label.invariant.1 c.in_ok-t.ensures.value)
          ∙ ap (λ l. to_come S ns l (drop (i + 1) us)) (sym c.in_ok-push_field.ensures),
      c.in_ok-t.ensures.kept ∙ c.loop-label.invariant.1,
    )

pub fields_type-returns-clause-value : goal.fields_type-returns-clause-value
fields_type-returns-clause-value t c =
    let S = c.args.schema.now in
    let ns = c.args.scope.now in
    let us = c.args.fields.now in
    fields_start S ns us ∙ c.loop-label.invariant.0
    ∙ fields_done S ns c.as_slice-label-items.result.now us c.loop-label.label-index c.loop-label.types c.as_slice-label-items.ensures (omega (arith, c.loop-label-test.false))

-- ---- chains

pub links_type-query_type-requires : goal.links_type-query_type-requires
links_type-query_type-requires t c =
    let xs = c.args.links.now in
    let h = link_falls xs (map link_entry xs) c.loop-at.at-index c.loop-at-item.result refl c.loop-at-test.true c.loop-at-item.is in
    (omega (arith, h, c.decreases), tt)

pub links_type-returns-in_err-u-clause-value : goal.links_type-returns-in_err-u-clause-value
links_type-returns-in_err-u-clause-value t c =
    handed c.from_residual.result _ _ c.from_residual.ensures.1
    (operand_refused c.args.schema.now c.args.scope.now c.loop-at.scope c.loop-at.invariant.1 (join_type c.args.join) c.args.links.now c.loop-at.at-index c.loop-at-item.result c.loop-at.t c.loop-at-test.true c.loop-at-item.is _ c.loop-at.invariant.0 _ c.in_err-u.ensures.value)

pub links_type-returns-in_err-t-clause-value : goal.links_type-returns-in_err-t-clause-value
links_type-returns-in_err-t-clause-value t c =
    handed c.from_residual-in_err-t.result _ _ c.from_residual-in_err-t.ensures.1
    (join_refused c.args.schema.now c.args.scope.now c.loop-at.scope c.loop-at.invariant.1 (join_type c.args.join) c.args.links.now c.loop-at.at-index c.loop-at-item.result c.loop-at.t c.loop-at-test.true c.loop-at-item.is _ c.loop-at.invariant.0 _ c.in_ok-u.u c.in_ok-u.ensures.value c.in_err-t.ensures)

pub links_type-loop-at-preserved : goal.links_type-loop-at-preserved
links_type-loop-at-preserved t c = (
  link_more c.args.schema.now c.args.scope.now c.loop-at.scope c.loop-at.invariant.1 (join_type c.args.join) c.args.links.now c.loop-at.at-index c.loop-at-item.result c.loop-at.t c.loop-at-test.true c.loop-at-item.is _ c.loop-at.invariant.0 c.in_ok-u.u c.in_ok-t.t c.in_ok-u.ensures.value c.in_ok-t.ensures,
  c.in_ok-u.ensures.kept ∙ c.loop-at.invariant.1,
)

pub set_links_type-query_type-requires : goal.set_links_type-query_type-requires
set_links_type-query_type-requires t c =
    let xs = c.args.links.now in
    let h = set_link_falls xs (map set_link_entry xs) c.loop-at.at-index c.loop-at-item.result refl c.loop-at-test.true c.loop-at-item.is in
    (omega (arith, h, c.decreases), tt)

pub set_links_type-returns-in_err-u-clause-value : goal.set_links_type-returns-in_err-u-clause-value
set_links_type-returns-in_err-u-clause-value t c =
    handed c.from_residual.result _ _ c.from_residual.ensures.1
    (set_operand_refused c.args.schema.now c.args.scope.now c.loop-at.scope c.loop-at.invariant.1 c.args.links.now c.loop-at.at-index c.loop-at-item.result c.loop-at.t c.loop-at-test.true c.loop-at-item.is _ c.loop-at.invariant.0 _ c.in_err-u.ensures.value)

pub set_links_type-returns-in_err-t-clause-value : goal.set_links_type-returns-in_err-t-clause-value
set_links_type-returns-in_err-t-clause-value t c =
    handed c.from_residual-in_err-t.result _ _ c.from_residual-in_err-t.ensures.1
    (set_join_refused c.args.schema.now c.args.scope.now c.loop-at.scope c.loop-at.invariant.1 c.args.links.now c.loop-at.at-index c.loop-at-item.result c.loop-at.t c.loop-at-test.true c.loop-at-item.is _ c.loop-at.invariant.0 _ c.in_ok-u.u c.in_ok-u.ensures.value c.in_err-t.ensures)

pub set_links_type-loop-at-preserved : goal.set_links_type-loop-at-preserved
set_links_type-loop-at-preserved t c = (
  set_link_more c.args.schema.now c.args.scope.now c.loop-at.scope c.loop-at.invariant.1 c.args.links.now c.loop-at.at-index c.loop-at-item.result c.loop-at.t c.loop-at-test.true c.loop-at-item.is _ c.loop-at.invariant.0 c.in_ok-u.u c.in_ok-t.t c.in_ok-u.ensures.value c.in_ok-t.ensures,
  c.in_ok-u.ensures.kept ∙ c.loop-at.invariant.1,
)

-- ---- selects

pub select_type-returns-in_err-check_condition-clause-value : goal.select_type-returns-in_err-check_condition-clause-value
select_type-returns-in_err-check_condition-clause-value t c =
    let o = ranges_there c.as_slice.result.now c.args.ranges.now c.as_slice.ensures (sym c.is_empty.ensures ∙ c.if-is_empty.false) in
    handed c.from_residual-in_err-check_condition.result _ _ c.from_residual-in_err-check_condition.ensures.1
    (condition_refused c.args.schema.now c.args.scope.now c.bind_ranges.new.scope c.args.at c.args.head.now (of_ranges c.args.ranges.now) (where_of c.args.condition.now) o c.in_ok-bind_ranges.ensures.value _ c.in_err-check_condition.ensures.value)

pub select_type-returns-in_err-t-clause-value : goal.select_type-returns-in_err-t-clause-value
select_type-returns-in_err-t-clause-value t c =
    let o = ranges_there c.as_slice.result.now c.args.ranges.now c.as_slice.ensures (sym c.is_empty.ensures ∙ c.if-is_empty.false) in
    handed c.from_residual-in_err-t.result _ _ c.from_residual-in_err-t.ensures.1
    (head_refused c.args.schema.now c.args.scope.now c.bind_ranges.new.scope c.args.at c.args.head.now (of_ranges c.args.ranges.now) (where_of c.args.condition.now) o c.in_ok-bind_ranges.ensures.value
    c.in_ok-check_condition.ensures.value c.check_condition.new.scope c.in_ok-check_condition.ensures.kept (query_tree c.get.result.now) c.get.ensures _ c.in_err-t.ensures.value)

pub select_type-returns-clause-value : goal.select_type-returns-clause-value
select_type-returns-clause-value t c =
    let o = ranges_there c.as_slice.result.now c.args.ranges.now c.as_slice.ensures (sym c.is_empty.ensures ∙ c.if-is_empty.false) in
    head_typed c.args.schema.now c.args.scope.now c.bind_ranges.new.scope c.args.at c.args.head.now (of_ranges c.args.ranges.now) (where_of c.args.condition.now) o c.in_ok-bind_ranges.ensures.value
    c.in_ok-check_condition.ensures.value c.check_condition.new.scope c.in_ok-check_condition.ensures.kept (query_tree c.get.result.now) c.get.ensures c.set_of.result c.in_ok-t.t c.in_ok-t.ensures.value c.set_of.ensures
