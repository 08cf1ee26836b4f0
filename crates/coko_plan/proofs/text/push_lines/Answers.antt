use Rattle.std.proofs.Common.{map, sym}
use Rattle.kola_rule.specs.RuleViews.{rule_tree}
use Rattle.coko_plan.specs.EntryViews.{entry_tree, entries_of}
use Rattle.coko_plan.specs.Faults.{names_of_rules}
use Rattle.coko_plan.proofs.Writing.{line_written}
use Rattle.coko_plan.proofs.text.push_lines.Goals as goal

pub loop-n-preserved : goal.loop-n-preserved
loop-n-preserved c =
    line_written (names_of_rules (map rule_tree c.args.rules.now)) c.loop-n.out.items c.push_line.new.out.items _ (entries_of c.args.plan.now) c.loop-n.n (entry_tree c.in-Some.entry.now) (sym c.in-Some.ensures.value) c.in_ok-push_line-in-Some.ensures c.loop-n.invariant
