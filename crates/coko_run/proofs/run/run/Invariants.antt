use Rattle.std.specs.Prelude.{map, []}
use Rattle.kola_term.specs.Terms.{TermF}
use Rattle.kola_term.specs.TermView.{fun_tree}
use Rattle.kola_rule.specs.RuleViews.{rule_tree}
use Rattle.coko_plan.specs.Entries.{table, stands_for}
use Rattle.coko_plan.specs.EntryViews.{entries_of, start_of}
use Rattle.coko_run.specs.Runs.{Do}
use Rattle.coko_run.specs.Firing.{world}
use Rattle.coko_run.specs.Moves.{Going}
use Rattle.coko_run.specs.Views.{begun}
use Rattle.coko_run.proofs.Ended.{Ran}
use Rattle.coko_run.proofs.run.run.Given as goal

abbrev pub invariant-steps : goal.invariant-steps
invariant-steps l = Ran (world l.fn.schema (map rule_tree l.fn.rules)) (table (entries_of l.fn.plan)) (Going (Do (stands_for (entries_of l.fn.plan) (start_of l.fn.plan))) (TermF (fun_tree l.fn.term)) [] l.fn.budget (begun l.fn.keep) []) l.fn.budget l.m l.at

abbrev pub decreases-steps : goal.decreases-steps
decreases-steps l = l.m.left
