use Rattle.std.proofs.Common.{◌≡◌, ◌++◌, drop, map}
use Rattle.kola_rule.specs.RuleViews.{rule_tree}
use Rattle.coko_plan.specs.EntryViews.{entries_of}
use Rattle.coko_plan.specs.Faults.{names_of_rules}
use Rattle.coko_plan.specs.Spelling.{lines_from}
use Rattle.coko_plan.proofs.text.push_lines.Given as goal

abbrev pub invariant-loop-n : goal.invariant-loop-n
invariant-loop-n l =
    l.out.items ++ lines_from l.n (names_of_rules (map rule_tree l.rules)) (drop l.n (entries_of l.plan))
    ≡ l.initial.out.items ++ lines_from 0 (names_of_rules (map rule_tree l.rules)) (entries_of l.plan)
