use Rattle.std.proofs.Common.{◌∙◌, sym, map, arith}
use Rattle.kola_rule.specs.RuleViews.{rule_tree}
use Rattle.coko_plan.specs.Entries.{table}
use Rattle.coko_plan.specs.EntryViews.{entries_of}
use Rattle.coko_run.specs.Firing.{world}
use Rattle.coko_run.proofs.Ended.{since_itself, since_more, less_weight, step_ended, step_taken}
use Rattle.coko_run.proofs.run.until_step.Goals as goal

pub moves-init : goal.moves-init
moves-init c = since_itself (world c.args.schema.now (map rule_tree c.args.rules.now)) (table (entries_of c.args.plan.now)) c.args.m.now c.args.now

pub advance-requires-clause-fits : goal.advance-requires-clause-fits
advance-requires-clause-fits c = c.moves.invariant.fits c.requires.fits

pub advance-requires-clause-room : goal.advance-requires-clause-room
advance-requires-clause-room c = omega (arith, c.moves.invariant.counts, c.requires.room)

pub returns-then-is_over : goal.returns-then-is_over
returns-then-is_over c = step_ended (world c.args.schema.now (map rule_tree c.args.rules.now)) (table (entries_of c.args.plan.now)) c.args.m.now c.moves.m c.advance.new.m c.args.now c.moves.at c.in_ok-at.at c.moves.invariant c.in_ok-at.ensures (sym c.is_over.ensures ∙ c.if-is_over.true)

pub returns-then-m-before : goal.returns-then-m-before
returns-then-m-before c = step_taken (world c.args.schema.now (map rule_tree c.args.rules.now)) (table (entries_of c.args.plan.now)) c.args.m.now c.moves.m c.advance.new.m c.args.now c.moves.at c.in_ok-at.at c.moves.invariant c.in_ok-at.ensures c.if-m-before.true

pub moves-smaller : goal.moves-smaller
moves-smaller c = less_weight (world c.args.schema.now (map rule_tree c.args.rules.now)) (table (entries_of c.args.plan.now)) c.args.m.now c.moves.m c.advance.new.m c.args.now c.moves.at c.in_ok-at.at c.moves.invariant c.in_ok-at.ensures (sym c.is_over.ensures ∙ c.if-is_over.false) (omega (arith, c.if-m-before.false))

pub moves-preserved : goal.moves-preserved
moves-preserved c = since_more (world c.args.schema.now (map rule_tree c.args.rules.now)) (table (entries_of c.args.plan.now)) c.args.m.now c.moves.m c.advance.new.m c.args.now c.moves.at c.in_ok-at.at c.moves.invariant c.in_ok-at.ensures (sym c.is_over.ensures ∙ c.if-is_over.false) (omega (arith, c.if-m-before.false))
