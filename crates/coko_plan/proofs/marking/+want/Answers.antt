use Rattle.std.proofs.Common.{◌≡◌, ◌+◌, ap, ◌∙◌, arith}
use Rattle.coko_block.specs.StmtViews.{stmt_tree}
use Rattle.coko_block.specs.Models.Weights.{weight, entries_weight, arm_entries_weight}
use Rattle.coko_plan.proofs.Wanting.{adds_part, adds_arm, part_weighs, arm_weighs, arms_weigh, walk_weight, group_weight}
use Rattle.coko_plan.proofs.marking.+want.Goals as goal

pub want-want_in_arms-requires : goal.want-want_in_arms-requires
want-want_in_arms-requires t c =
    let a : weight (stmt_tree c.args.s.now) ≡ 1 + arm_entries_weight c.in-Given.arms = ap (λ z. weight (stmt_tree z)) c.in-Given.is ∙ ap (λ n. 1 + n) (arms_weigh c.in-Given.arms) in
    (omega (arith, a, ap arm_entries_weight c.as_slice.ensures, c.decreases), tt)

pub want-want-requires : goal.want-want-requires
want-want-requires t c = (omega (arith, walk_weight c.args.s.now c.in-Bu.s c.in-Bu.is, ap weight c.get.ensures, c.decreases), tt)

pub want-want_all-requires : goal.want-want_all-requires
want-want_all-requires t c = (omega (arith, group_weight c.args.s.now c.in-Seq.parts c.in-Seq.is, ap entries_weight c.as_slice-in-Seq.ensures, c.decreases), tt)

pub want_all-want-requires : goal.want_all-want-requires
want_all-want-requires t c = (omega (arith, part_weighs c.args.parts.now c.loop-part.part-index c.part-item.result c.loop-part-test.true c.part-item.is, c.decreases), tt)

pub want_all-loop-part-preserved : goal.want_all-loop-part-preserved
want_all-loop-part-preserved t c =
    adds_part c.args.wanted.now c.loop-part.wanted c.want.new.wanted c.args.parts.now c.loop-part.part-index c.part-item.result c.loop-part-test.true c.part-item.is c.loop-part.invariant c.in_ok-want.ensures

pub want_in_arms-want-requires : goal.want_in_arms-want-requires
want_in_arms-want-requires t c = (omega (arith, arm_weighs c.args.arms.now c.loop-s.s-index c.loop-s-item.result c.loop-s-test.true c.loop-s-item.is, c.decreases), tt)

pub want_in_arms-loop-s-preserved : goal.want_in_arms-loop-s-preserved
want_in_arms-loop-s-preserved t c =
    adds_arm c.args.wanted.now c.loop-s.wanted c.want.new.wanted c.args.arms.now c.loop-s.s-index c.loop-s-item.result c.loop-s-test.true c.loop-s-item.is c.loop-s.invariant c.in_ok-want.ensures
