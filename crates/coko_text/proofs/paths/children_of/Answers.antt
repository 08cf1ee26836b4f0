use Rattle.std.proofs.Common.{◌∙◌}
use Rattle.kola_base.specs.Alphabets.{sign}
use Rattle.kola_base.specs.declared.sign.Sign.TheVariants.{Dot}
use Rattle.coko_text.specs.RuleReaders.{child_at}
use Rattle.coko_text.proofs.ItemLists.{item_shorter, more_items}
use Rattle.coko_text.proofs.RuleLaws.{child_shrinks}
use Rattle.coko_text.proofs.paths.children_of.Goals as goal

pub loop-path-smaller : goal.loop-path-smaller
loop-path-smaller c = item_shorter (sign Dot) (child_at) (child_shrinks) c.in-Some.child c.loop-path.rest c.in_ok-next.behind (rw c.in-Some.is at c.in_ok-next.ensures)

pub loop-path-preserved : goal.loop-path-preserved
loop-path-preserved c =
    more_items (sign Dot) (child_at) (child_shrinks) c.loop-path.path c.push.new.self c.in-Some.child c.loop-path.rest c.in_ok-next.behind c.in_ok-push-in-Some.ensures.ok (rw c.in-Some.is at c.in_ok-next.ensures)
    ∙ c.loop-path.invariant
