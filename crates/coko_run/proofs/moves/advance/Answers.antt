use Rattle.std.proofs.Common.{ap, map}
use Rattle.kola_term.specs.TermView.{term_tree}
use Rattle.kola_rule.specs.RuleViews.{rule_tree}
use Rattle.coko_plan.specs.Entries.{table}
use Rattle.coko_plan.specs.EntryViews.{entries_of}
use Rattle.coko_run.specs.Firing.{world}
use Rattle.coko_run.specs.Views.{frames, notes, conf_at}
use Rattle.coko_run.proofs.Arms.{at_end}
use Rattle.coko_run.proofs.moves.advance.Goals as goal

pub returns-in-Done : goal.returns-in-Done
returns-in-Done c = at_end (world c.args.schema.now (map rule_tree c.args.rules.now)) _ _ (ap (λ z. conf_at (table (entries_of c.args.plan.now)) z (term_tree c.args.m.now.whole.value) c.args.m.now.left (notes c.args.m.now.log) (frames (table (entries_of c.args.plan.now)) c.args.m.now.stack.items)) c.in-Done.is) tt

pub returns-in-Spent : goal.returns-in-Spent
returns-in-Spent c = at_end (world c.args.schema.now (map rule_tree c.args.rules.now)) _ _ (ap (λ z. conf_at (table (entries_of c.args.plan.now)) z (term_tree c.args.m.now.whole.value) c.args.m.now.left (notes c.args.m.now.log) (frames (table (entries_of c.args.plan.now)) c.args.m.now.stack.items)) c.in-Spent.is) tt

pub returns-in-Size : goal.returns-in-Size
returns-in-Size c = at_end (world c.args.schema.now (map rule_tree c.args.rules.now)) _ _ (ap (λ z. conf_at (table (entries_of c.args.plan.now)) z (term_tree c.args.m.now.whole.value) c.args.m.now.left (notes c.args.m.now.log) (frames (table (entries_of c.args.plan.now)) c.args.m.now.stack.items)) c.in-Size.is) tt
