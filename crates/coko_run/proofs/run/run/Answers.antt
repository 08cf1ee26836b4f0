use Rattle.std.proofs.Common.{◌∙◌, [], sym, ap, map}
use Rattle.kola_term.specs.Terms.{TermF}
use Rattle.kola_term.specs.TermView.{fun_tree}
use Rattle.kola_rule.specs.RuleViews.{rule_tree}
use Rattle.coko_plan.specs.Entries.{table, pick, stands_for}
use Rattle.coko_plan.specs.EntryViews.{entries_of, start_of}
use Rattle.coko_run.specs.Runs.{Do}
use Rattle.coko_run.specs.Firing.{world}
use Rattle.coko_run.specs.Moves.{Going}
use Rattle.coko_run.specs.Views.{begun}
use Rattle.coko_run.proofs.Ended.{run_begins, ran_more, run_reached, step_less}
use Rattle.coko_run.proofs.run.run.Goals as goal

pub steps-init : goal.steps-init
steps-init c = run_begins (world c.args.schema.now (map rule_tree c.args.rules.now)) (table (entries_of c.args.plan.now)) _ (TermF (fun_tree c.args.term)) c.args.budget c.args.keep c.in_ok-m.m c.start.result c.new.result
    c.in_ok-m.ensures.whole c.in_ok-m.ensures.left c.in_ok-m.ensures.log c.in_ok-m.ensures.stack (ap (pick (table (entries_of c.args.plan.now))) c.start.ensures.value) c.new.ensures c.requires.fits

pub returns-then-is_over-clause-reached : goal.returns-then-is_over-clause-reached
returns-then-is_over-clause-reached c = run_reached (world c.args.schema.now (map rule_tree c.args.rules.now)) (table (entries_of c.args.plan.now)) (Do (stands_for (entries_of c.args.plan.now) (start_of c.args.plan.now))) (TermF (fun_tree c.args.term)) c.args.budget (begun c.args.keep) c.steps.m c.until_step.new.m c.steps.at c.in_ok-at.at c.steps.invariant c.in_ok-at.ensures (sym c.is_over.ensures ∙ c.if-is_over.true)

pub returns-then-is_over-clause-within : goal.returns-then-is_over-clause-within
returns-then-is_over-clause-within c =
    let a = Going (Do (stands_for (entries_of c.args.plan.now) (start_of c.args.plan.now))) (TermF (fun_tree c.args.term)) [] c.args.budget (begun c.args.keep) [] in
    (ran_more (world c.args.schema.now (map rule_tree c.args.rules.now)) (table (entries_of c.args.plan.now)) a c.args.budget c.steps.m c.until_step.new.m c.steps.at c.in_ok-at.at c.steps.invariant c.in_ok-at.ensures).counts

pub steps-smaller : goal.steps-smaller
steps-smaller c = step_less (world c.args.schema.now (map rule_tree c.args.rules.now)) (table (entries_of c.args.plan.now)) c.steps.m c.until_step.new.m c.steps.at c.in_ok-at.at c.in_ok-at.ensures (sym c.is_over.ensures ∙ c.if-is_over.false)

pub steps-preserved : goal.steps-preserved
steps-preserved c =
    let a = Going (Do (stands_for (entries_of c.args.plan.now) (start_of c.args.plan.now))) (TermF (fun_tree c.args.term)) [] c.args.budget (begun c.args.keep) [] in
    ran_more (world c.args.schema.now (map rule_tree c.args.rules.now)) (table (entries_of c.args.plan.now)) a c.args.budget c.steps.m c.until_step.new.m c.steps.at c.in_ok-at.at c.steps.invariant c.in_ok-at.ensures
