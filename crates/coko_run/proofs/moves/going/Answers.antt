use Rattle.std.proofs.Common.{map, ap, ◌∙◌}
use Rattle.kola_term.specs.TermView.{term_tree}
use Rattle.kola_rule.specs.RuleViews.{rule_tree}
use Rattle.coko_plan.specs.Entries.{table}
use Rattle.coko_plan.specs.EntryViews.{entries_of}
use Rattle.coko_run.specs.Firing.{world}
use Rattle.coko_run.specs.Outcomes.{kids}
use Rattle.coko_run.specs.Views.{job_of, before}
use Rattle.coko_run.proofs.Arms.{from_conf, kids_are}
use Rattle.coko_run.proofs.moves.going.Goals as goal

pub returns-in-Kids : goal.returns-in-Kids
returns-in-Kids c = from_conf (world c.args.schema.now (map rule_tree c.args.rules.now)) _ _ _ (ap (λ z. before (table (entries_of c.args.plan.now)) c.args.m.now (job_of (table (entries_of c.args.plan.now)) z) c.args.path) c.in-Kids.is) (kids_are (world c.args.schema.now (map rule_tree c.args.rules.now)) _ _ _ _ _ _ _ (c.live_children_at-count.ensures ∙ ap (λ z. kids (term_tree z) c.args.path) c.deref.ensures))
