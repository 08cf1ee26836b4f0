use Rattle.std.proofs.Common.{map, length, ◌-◌, ◌<◌, arith}
use Rattle.std.proofs.lemmas.Bool.Decides.{nat_tests}
use Rattle.coko_plan.specs.EntryViews.{entry_tree}
use Rattle.coko_plan.proofs.Putting.{group_last, group_on, same_item}
use Rattle.coko_plan.proofs.listing.push_groups.Goals as goal

pub loop-left-init : goal.loop-left-init
loop-left-init c =
    let h : 0 < length c.args.numbers.now = grind (arith, nat_tests, c.if-is_empty.ensures) in
    (omega (arith, h), group_last (map entry_tree c.args.entries.now.items) c.args.numbers.now _ h (same_item c.args.numbers.now (length c.args.numbers.now - 1) 0 _ (omega (arith, h))))

pub loop-left-preserved : goal.loop-left-preserved
loop-left-preserved c = (
  omega (arith, c.loop-left.invariant.0),
  group_on (map entry_tree c.args.entries.now.items) (map entry_tree c.loop-left.entries.items) (map entry_tree c.push_entry-in-loop-left.new.entries.items, c.in_ok-whole.whole) c.args.numbers.now c.loop-left.left c.loop-left.whole _ c.loop-left-test.true c.loop-left.invariant.0 (same_item c.args.numbers.now (c.loop-left.left - 1) 0 _ (omega (arith, c.loop-left.invariant.0))) c.loop-left.invariant.1 c.in_ok-whole.ensures,
)
