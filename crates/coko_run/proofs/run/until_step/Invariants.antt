use Rattle.std.specs.Prelude.{map}
use Rattle.kola_rule.specs.RuleViews.{rule_tree}
use Rattle.coko_plan.specs.Entries.{table}
use Rattle.coko_plan.specs.EntryViews.{entries_of}
use Rattle.coko_run.specs.Firing.{world}
use Rattle.coko_run.specs.Weights.{weight}
use Rattle.coko_run.specs.Views.{conf}
use Rattle.coko_run.proofs.Ended.{Since}
use Rattle.coko_run.proofs.run.until_step.Given as goal

abbrev pub invariant-moves : goal.invariant-moves
invariant-moves l = Since (world l.fn.schema (map rule_tree l.fn.rules)) (table (entries_of l.fn.plan)) l.fn.m l.fn.now l.m l.at

abbrev pub decreases-moves : goal.decreases-moves
decreases-moves l = weight (conf (table (entries_of l.fn.plan)) l.m l.at)
