use Rattle.std.proofs.Common.{rules, ◌≡◌, ℕ, ◌+◌, List, ◌∷◌, map, inl, inr, ap, ◌∙◌, arith}
use Rattle.coko_block.specs.Statements.{of_stmts, of_arms}
use Rattle.coko_block.specs.StmtViews.{stmt_tree, arm_entry}
use Rattle.coko_block.specs.Models.Weights.{weight, entries_weight, arm_entries_weight}
use Rattle.coko_plan.specs.EntryViews.{entry_tree}
use Rattle.coko_plan.specs.Naming.{names_among, names_in_arms}
use Rattle.coko_plan.specs.Entries.{EntryTree}
use Rattle.coko_plan.specs.Faults.{names_of_rules}
use Rattle.coko_plan.specs.Listing.{with_entry}
use Rattle.coko_plan.specs.Working.Groups.{group}
use Rattle.coko_plan.specs.Working.Sites.{rules_of, known_of, site_faults, StopTells}
use Rattle.coko_plan.specs.Working.Puts.{put_right_at}
use Rattle.coko_plan.proofs.Wanting.{part_weighs, arm_weighs, arms_weigh, group_weight}
use Rattle.coko_plan.proofs.Putting.{item_passes, item_stops, item_more, item_all, arm_passes, arm_stops, arm_all, makes_puts, left_puts, left_stops, right_grouped}
use Rattle.coko_plan.proofs.listing.+listing.Goals as goal

pub list_all-list_stmt-requires : goal.list_all-list_stmt-requires
list_all-list_stmt-requires t c = (omega (arith, part_weighs c.args.parts.now c.loop-part.part-index c.part-item.result c.loop-part-test.true c.part-item.is, c.decreases), c.requires)

pub list_more-list_stmt-requires : goal.list_more-list_stmt-requires
list_more-list_stmt-requires t c = (omega (arith, part_weighs c.args.parts.now c.loop-part.part-index c.part-item.result c.loop-part-test.true c.part-item.is, c.decreases), c.requires)

pub list_arms-list_stmt-requires : goal.list_arms-list_stmt-requires
list_arms-list_stmt-requires t c = (omega (arith, arm_weighs c.args.arms.now c.loop-path.path-index c.loop-path-item.result c.loop-path-test.true c.loop-path-item.is, c.decreases), c.requires)

pub list_all-loop-part-preserved : goal.list_all-loop-part-preserved
list_all-loop-part-preserved t c =
    let s = c.args.site.now in (
      item_all s c.args.parts.now c.loop-part.part-index c.part-item.result c.loop-part-test.true c.part-item.is (map entry_tree c.loop-part.entries.items) (map entry_tree c.list_stmt.new.entries.items) c.loop-part.numbers.items c.push.new.all.items c.in_ok-number.number _ c.loop-part.invariant.0 c.in_ok-number.ensures.0 c.in_ok-push.ensures,
      item_passes s c.args.parts.now c.loop-part.part-index c.part-item.result c.loop-part-test.true c.part-item.is _ c.loop-part.invariant.1 c.in_ok-number.ensures.1,
    )

pub list_arms-loop-path-preserved : goal.list_arms-loop-path-preserved
list_arms-loop-path-preserved t c =
    let s = c.args.site.now in (
      arm_all s c.args.arms.now c.loop-path.path-index c.loop-path-item.result c.loop-path-test.true c.loop-path-item.is (map entry_tree c.loop-path.entries.items) (map entry_tree c.list_stmt.new.entries.items) c.loop-path.listed c.push_arm.new.arms c.in_ok-number.number _ c.loop-path.invariant.0 c.in_ok-number.ensures.0 c.in_ok-push_arm.ensures,
      arm_passes s c.args.arms.now c.loop-path.path-index c.loop-path-item.result c.loop-path-test.true c.loop-path-item.is _ c.loop-path.invariant.1 c.in_ok-number.ensures.1,
    )

pub list_more-loop-part-preserved : goal.list_more-loop-part-preserved
list_more-loop-part-preserved t c =
    let s = c.args.site.now in
    let made = c.in_ok-whole.ensures ∙ ap (with_entry (map entry_tree c.list_stmt.new.entries.items)) c.pair_of.ensures in (
      item_more s c.args.parts.now c.loop-part.part-index c.part-item.result c.loop-part-test.true c.part-item.is c.args.pairing (map entry_tree c.loop-part.entries.items) (map entry_tree c.list_stmt.new.entries.items) (map entry_tree c.push_entry.new.entries.items) c.loop-part.whole c.in_ok-next.next c.in_ok-whole.whole c.in_ok-next.ensures.0 made ∙ c.loop-part.invariant.0,
      item_passes s c.args.parts.now c.loop-part.part-index c.part-item.result c.loop-part-test.true c.part-item.is _ c.loop-part.invariant.1 c.in_ok-next.ensures.1,
    )

pub list_all-returns-in_err-number : goal.list_all-returns-in_err-number
list_all-returns-in_err-number t c =
    let s = c.args.site.now in
    let k : StopTells s.block.now c.in_err-number.field-0.0 (site_faults s (names_among (of_stmts (map stmt_tree c.args.parts.now)))) = item_stops s c.args.parts.now c.loop-part.part-index c.part-item.result c.loop-part-test.true c.part-item.is _ c.in_err-number.field-0.0 c.loop-part.invariant.1 c.in_err-number.ensures in
    search rules

pub list_arms-returns-in_err-number : goal.list_arms-returns-in_err-number
list_arms-returns-in_err-number t c =
    let s = c.args.site.now in
    let k : StopTells s.block.now c.in_err-number.field-0.0 (site_faults s (names_in_arms (of_arms (map arm_entry c.args.arms.now)))) = arm_stops s c.args.arms.now c.loop-path.path-index c.loop-path-item.result c.loop-path-test.true c.loop-path-item.is _ c.in_err-number.field-0.0 c.loop-path.invariant.1 c.in_err-number.ensures in
    search rules

pub list_more-returns-in_err-next : goal.list_more-returns-in_err-next
list_more-returns-in_err-next t c =
    let s = c.args.site.now in
    let k : StopTells s.block.now c.in_err-next.field-0.0 (site_faults s (names_among (of_stmts (map stmt_tree c.args.parts.now)))) = item_stops s c.args.parts.now c.loop-part.part-index c.part-item.result c.loop-part-test.true c.part-item.is _ c.in_err-next.field-0.0 c.loop-part.invariant.1 c.in_err-next.ensures in
    search rules

pub list_left-returns-in_err-first-in-Some : goal.list_left-returns-in_err-first-in-Some
list_left-returns-in_err-first-in-Some t c =
    let s = c.args.site.now in
    let e : c.args.parts.now ≡ c.in-Some.first.now ∷ c.in-Some.others.now = search rules in
    let k : StopTells s.block.now c.in_err-first-in-Some.field-0.0 (site_faults s (names_among (of_stmts (map stmt_tree c.args.parts.now)))) = left_stops s c.args.parts.now c.in-Some.others.now c.in-Some.first.now c.in_err-first-in-Some.field-0.0 e c.in_err-first-in-Some.ensures in
    search rules

pub list_left-returns-in_ok-first-in-Some : goal.list_left-returns-in_ok-first-in-Some
list_left-returns-in_ok-first-in-Some t c =
    let e : c.args.parts.now ≡ c.in-Some.first.now ∷ c.in-Some.others.now = search rules in
    left_puts c.args.site.now c.args.pairing c.args.parts.now c.in-Some.others.now c.in-Some.first.now c.args.entries.now.items c.list_stmt.new.entries.items c.list_more.new.entries.items c.in_ok-first-in-Some.first c.list_more.result e c.in_ok-first-in-Some.ensures.0 c.in_ok-first-in-Some.ensures.1 c.list_more.ensures

pub list_right-returns : goal.list_right-returns
list_right-returns t c =
    let s = c.args.site.now in
    let ss = of_stmts (map stmt_tree c.args.parts.now) in
    let made = ap (group (map entry_tree c.list_all.new.entries.items)) c.as_slice.ensures.value ∙ (ap (λ (y : List EntryTree × List ℕ). group y.0 y.1) c.in_ok-numbers.ensures.0 ∙ right_grouped (names_of_rules (rules_of s)) (known_of s) (map entry_tree c.args.entries.now.items) ss) in
    makes_puts s (names_among ss) (put_right_at s ss) (group (map entry_tree c.list_all.new.entries.items) c.as_slice.result.now) c.args.entries.now.items c.push_groups.new.entries.items c.push_groups.result c.push_groups.ensures made c.in_ok-numbers.ensures.1

pub list_stmt-list_left-requires : goal.list_stmt-list_left-requires
list_stmt-list_left-requires t c = (omega (arith, group_weight c.args.s.now c.in-Seq.parts (inl c.in-Seq.is), ap entries_weight c.as_slice.ensures, c.decreases), c.requires)

pub list_stmt-list_right-requires : goal.list_stmt-list_right-requires
list_stmt-list_right-requires t c = (omega (arith, group_weight c.args.s.now c.in-Then.parts (inr (inl c.in-Then.is)), ap entries_weight c.as_slice-in-Then.ensures, c.decreases), c.requires)

pub list_stmt-list_left-requires-in-Else : goal.list_stmt-list_left-requires-in-Else
list_stmt-list_left-requires-in-Else t c = (omega (arith, group_weight c.args.s.now c.in-Else.parts (inr (inr c.in-Else.is)), ap entries_weight c.as_slice-in-Else.ensures, c.decreases), c.requires)

pub list_stmt-list_given-requires : goal.list_stmt-list_given-requires
list_stmt-list_given-requires t c =
    let a : weight (stmt_tree c.args.s.now) ≡ 1 + arm_entries_weight c.in-Given.arms = ap (λ z. weight (stmt_tree z)) c.in-Given.is ∙ ap (λ n. 1 + n) (arms_weigh c.in-Given.arms) in
    (omega (arith, a, ap arm_entries_weight c.as_slice-in-Given.ensures, c.decreases), c.requires)
