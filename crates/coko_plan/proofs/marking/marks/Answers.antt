use Rattle.std.proofs.Common.{◌≡◌, map, drop, reverse, sym, subst, arith}
use Rattle.coko_block.specs.StmtViews.{block_tree}
use Rattle.coko_plan.specs.Naming.{wanted, reached}
use Rattle.coko_plan.specs.Working.Marks.{marks}
use Rattle.coko_plan.proofs.Reaching.{Lists, lists_more, marks_more}
use Rattle.coko_plan.proofs.Taking.{left_item}
use Rattle.coko_plan.proofs.marking.marks.Goals as goal

pub loop-left-preserved : goal.loop-left-preserved
loop-left-preserved c =
    let chosen = c.args.chosen.now in
    let old = c.loop-left.wanted in
    let b = block_tree c.index-blocks-left.result in
    let bs = map block_tree (drop c.loop-left.left c.args.blocks.now) in
    let e = left_item c.args.blocks.now c.loop-left.left c.index-blocks-left.result c.loop-left-test.true c.loop-left.invariant.0 c.index-blocks-left.is in (
      omega (arith, c.loop-left.invariant.0),
      subst (λ l. Lists c.mark.new.wanted (wanted chosen (reached chosen (map block_tree l)))) (sym e) (lists_more chosen b bs old c.mark.new.wanted c.in_ok-reached.reached c.in_ok-reached.ensures.is_wanted c.loop-left.invariant.1 c.in_ok-reached.ensures.adds),
      subst (λ l. reverse c.push.new.self.items ≡ marks chosen (map block_tree l)) (sym e) (marks_more chosen b bs old c.in_ok-reached.reached c.loop-left.marks.items c.push.new.self.items c.in_ok-reached.ensures.is_wanted c.loop-left.invariant.1 c.loop-left.invariant.2 c.in_ok-push.ensures.items),
    )
