use Rattle.std.proofs.Common.{sym, ap₂}
use Rattle.kola_rule.specs.RuleViews.{rule_tree}
use Rattle.coko_plan.specs.Working.Seen.{directions}
use Rattle.coko_plan.proofs.Taking.{made_at}
use Rattle.coko_plan.proofs.firing.directions.Goals as goal

pub loop-n-preserved : goal.loop-n-preserved
loop-n-preserved c =
    made_at rule_tree directions c.loop-n.all.items c.push.new.self.items c.args.rules.now c.loop-n.n c.in-Some.rule.now (c.in_ok-forwards.forwards, c.in_ok-backwards.backwards) c.loop-n.invariant c.in_ok-push.ensures.items (sym c.in-Some.ensures) (ap₂ (λ a b. (a, b)) c.in_ok-forwards.ensures c.in_ok-backwards.ensures)
