use Rattle.std.proofs.Common.{◌≡◌, ◌+◌, ◌++◌, map, drop, false, true, refl, sym, ap, subst, ◌∙◌, codes, arith}
use Rattle.std.specs.Prelude.{OnOk}
use Rattle.std.proofs.lemmas.List.{append_assoc}
use Rattle.kola_canon.proofs.Texts.{spelt_more}
use Rattle.oql_tree.specs.QueryTrees.{of_links, of_set_links, of_fields, of_ranges}
use Rattle.oql_tree.specs.QueryViews.{form_tree, query_tree, link_entry, set_link_entry, named_entry, where_of}
use Rattle.oql_tree.specs.Models.Weights.{fields_weight, ranges_weight}
use Rattle.oql_print.specs.declared.print.Class.TheVariants.{Meet}
use Rattle.oql_print.specs.QuerySpelling.{spelling, spelling_at, operands_spelling, union_spelling, set_links_spelling, further_fields, ranges_spelling, further_ranges, where_spelling}
use Rattle.oql_tree.proofs.QueryLoops.{set_link_falls, named_falls, range_falls}
use Rattle.oql_print.proofs.SpellingLoops.{set_links_push, set_link_text, further_fields_push, field_text, further_ranges_push, range_text, added_in_turn, operand_more, operand_weight}
use Rattle.oql_print.proofs.print.+print.Goals as goal

-- ---- fields

pub push_fields-push_field-requires-in-loop-label : goal.push_fields-push_field-requires-in-loop-label
push_fields-push_field-requires-in-loop-label t c =
    let others = c.in-Some.others.now in
    let h = named_falls others (map named_entry others) c.loop-label.label-index c.loop-label-item.result refl c.loop-label-test.true c.loop-label-item.is in
    (omega (arith, h, ap (λ l. fields_weight (of_fields (map named_entry l))) c.in-Some.ensures.cases.0, c.decreases), tt)

pub push_fields-loop-label-preserved : goal.push_fields-loop-label-preserved
push_fields-loop-label-preserved t c =
    c.in_ok-push_field-2.ensures
    ∙ spelt_more named_entry (λ us. further_fields (of_fields us)) field_text further_fields_push c.push_field.new.out.items c.loop-label.out.items c.in-Some.others.now c.loop-label.label-index c.loop-label-item.result c.loop-label.invariant c.loop-label-test.true c.loop-label-item.is

-- ---- ranges

pub push_ranges-push_range-requires-in-loop-x : goal.push_ranges-push_range-requires-in-loop-x
push_ranges-push_range-requires-in-loop-x t c =
    let others = c.in-Some.others.now in
    let h = range_falls others (map named_entry others) c.loop-x.x-index c.loop-x-item.result refl c.loop-x-test.true c.loop-x-item.is in
    (omega (arith, h, ap (λ l. ranges_weight (of_ranges (map named_entry l))) c.in-Some.ensures.cases.0, c.decreases), tt)

pub push_ranges-loop-x-preserved : goal.push_ranges-loop-x-preserved
push_ranges-loop-x-preserved t c =
    c.in_ok-push_range-2.ensures
    ∙ spelt_more named_entry (λ us. further_ranges (of_ranges us)) range_text further_ranges_push c.push_range.new.out.items c.loop-x.out.items c.in-Some.others.now c.loop-x.x-index c.loop-x-item.result c.loop-x.invariant c.loop-x-test.true c.loop-x-item.is

-- ---- chains

pub push_operands-loop-next-preserved : goal.push_operands-loop-next-preserved
push_operands-loop-next-preserved t c =
    let x = c.loop-next-item.result in
    let i = c.loop-next.next-index in
    let k = c.args.class in
    let word = c.args.word.now in
    let links = c.args.links.now in
    let rest = operands_spelling k word c.args.open_end (λ o. spelling_at k o (query_tree x.1)) (of_links (drop (i + 1) (map link_entry links))) in (
      ap (λ l. l ++ rest) (c.in_ok-push_bytes.ensures.ok ∙ ap (λ l. l ++ word) c.in_ok-push_part.ensures)
          ∙ operand_more k word c.args.open_end (λ o. spelling_at k o (query_tree c.loop-next.last.now)) links i x c.loop-next.out.items c.loop-next-test.true c.loop-next-item.is
          ∙ c.loop-next.invariant.0,
      omega (arith, operand_weight links i x c.loop-next-test.true c.loop-next-item.is, c.loop-next.invariant.1),
    )

pub push_query-returns-in-Intersect : goal.push_query-returns-in-Intersect
push_query-returns-in-Intersect t c =
    subst (λ l. OnOk c.push_chain.result (c.push_chain.new.out.items ≡ c.args.out.now.items ++ l))
    (ap (λ f. spelling c.args.open_end (form_tree c.args.query.now.at f)) (sym c.in-Intersect.is))
    c.push_chain.ensures

-- ---- union and except

pub push_set_links-push_part-requires : goal.push_set_links-push_part-requires
push_set_links-push_part-requires t c =
    let links = c.args.links.now in
    let h = set_link_falls links (map set_link_entry links) c.loop-except.except-index c.loop-except-item.result refl c.loop-except-test.true c.loop-except-item.is in
    (omega (arith, h, c.decreases), tt)

pub push_set_links-loop-except-preserved : goal.push_set_links-loop-except-preserved
push_set_links-loop-except-preserved t c =
    let x = c.loop-except-item.result in
    let text = spelling_at Meet false (query_tree x.2) in
    c.in_ok-push_part.ensures
    ∙ ap (λ l. l ++ text) c.in_ok-push_union.ensures
    ∙ append_assoc c.loop-except.out.items (union_spelling x.1) text
    ∙ spelt_more set_link_entry (λ us. set_links_spelling (of_set_links us)) set_link_text set_links_push c.args.out.now.items c.loop-except.out.items c.args.links.now c.loop-except.except-index x c.loop-except.invariant c.loop-except-test.true c.loop-except-item.is

-- ---- selects

pub push_select-returns : goal.push_select-returns
push_select-returns t c =
    let start = c.args.out.now.items in
    let head = spelling true c.args.head.now in
    let list = ranges_spelling (of_ranges (map named_entry c.args.ranges.now)) in
    let condition = where_spelling (where_of c.args.condition.now) in
    subst (λ l. OnOk c.push_condition.result (c.push_condition.new.out.items ≡ l))
    (ap (λ l. l ++ condition) (c.in_ok-push_ranges.ensures
    ∙ ap (λ l. l ++ list) (c.in_ok-push_bytes-2.ensures.ok
    ∙ ap (λ l. l ++ codes " from ") (c.in_ok-push_query.ensures
    ∙ ap (λ l. l ++ spelling true (query_tree c.get.result.now)) c.in_ok-push_bytes.ensures.ok
    ∙ ap (λ e. (start ++ codes "select distinct ") ++ spelling true e) c.get.ensures)))
    ∙ added_in_turn start (codes "select distinct ") head (codes " from ") list condition)
    c.push_condition.ensures
