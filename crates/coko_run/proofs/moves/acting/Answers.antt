use Rattle.std.proofs.Common.{Some, map, sym, ap, ◌∙◌}
use Rattle.kola_rule.specs.RuleViews.{rule_tree}
use Rattle.coko_plan.specs.Entries.{made, table}
use Rattle.coko_plan.specs.EntryViews.{entry_tree, entries_of}
use Rattle.coko_run.specs.Firing.{world}
use Rattle.coko_run.specs.Views.{conf}
use Rattle.coko_run.proofs.Armed.{pick_past, may_fire}
use Rattle.coko_run.proofs.Arms.{from_stmt, lead_ok, seq, then_, else_, bu, td_ok, repeat_ok}
use Rattle.coko_run.proofs.moves.acting.Goals as goal

pub returns-in_default : goal.returns-in_default
returns-in_default c = from_stmt (world c.args.schema.now (map rule_tree c.args.rules.now)) _ _ _ _ _ _ _ _ (pick_past (entries_of c.args.plan.now) c.args.i c.in_default.ensures.past) (c.idle.ensures c.args.schema.now (map rule_tree c.args.rules.now) c.args.path)

pub attempt-requires-clause-fires : goal.attempt-requires-clause-fires
attempt-requires-clause-fires c = may_fire (map rule_tree c.args.rules.now) (entries_of c.args.plan.now) c.args.i _ _ c.requires.fires (sym c.in-Some.ensures.value ∙ ap (λ z. Some (entry_tree z)) c.in-Fire.is)

pub returns-in-Skip : goal.returns-in-Skip
returns-in-Skip c = from_stmt (world c.args.schema.now (map rule_tree c.args.rules.now)) _ _ _ _ _ _ _ _ (c.in-Some.ensures.stands ∙ ap (λ z. made (table (entries_of c.args.plan.now)) (entry_tree z)) c.in-Skip.is) (c.idle-in-Skip.ensures c.args.schema.now (map rule_tree c.args.rules.now) c.args.path)

pub returns-in-Fail : goal.returns-in-Fail
returns-in-Fail c = from_stmt (world c.args.schema.now (map rule_tree c.args.rules.now)) _ _ _ _ _ _ _ _ (c.in-Some.ensures.stands ∙ ap (λ z. made (table (entries_of c.args.plan.now)) (entry_tree z)) c.in-Fail.is) (c.idle-in-Fail.ensures c.args.schema.now (map rule_tree c.args.rules.now) c.args.path)

pub returns-in-Seq : goal.returns-in-Seq
returns-in-Seq c = lead_ok (world c.args.schema.now (map rule_tree c.args.rules.now)) c.first_of.result (conf (table (entries_of c.args.plan.now)) c.first_of.new.m) _ _ c.first_of.ensures (from_stmt (world c.args.schema.now (map rule_tree c.args.rules.now)) _ _ _ _ _ _ _ _ (c.in-Some.ensures.stands ∙ ap (λ z. made (table (entries_of c.args.plan.now)) (entry_tree z)) c.in-Seq.is) (seq (world c.args.schema.now (map rule_tree c.args.rules.now)) _ _ _ _ _ _ _))

pub returns-in-Then : goal.returns-in-Then
returns-in-Then c = lead_ok (world c.args.schema.now (map rule_tree c.args.rules.now)) c.first_of-in-Then.result (conf (table (entries_of c.args.plan.now)) c.first_of-in-Then.new.m) _ _ c.first_of-in-Then.ensures (from_stmt (world c.args.schema.now (map rule_tree c.args.rules.now)) _ _ _ _ _ _ _ _ (c.in-Some.ensures.stands ∙ ap (λ z. made (table (entries_of c.args.plan.now)) (entry_tree z)) c.in-Then.is) (then_ (world c.args.schema.now (map rule_tree c.args.rules.now)) _ _ _ _ _ _ _))

pub returns-in-Else : goal.returns-in-Else
returns-in-Else c = lead_ok (world c.args.schema.now (map rule_tree c.args.rules.now)) c.first_of-in-Else.result (conf (table (entries_of c.args.plan.now)) c.first_of-in-Else.new.m) _ _ c.first_of-in-Else.ensures (from_stmt (world c.args.schema.now (map rule_tree c.args.rules.now)) _ _ _ _ _ _ _ _ (c.in-Some.ensures.stands ∙ ap (λ z. made (table (entries_of c.args.plan.now)) (entry_tree z)) c.in-Else.is) (else_ (world c.args.schema.now (map rule_tree c.args.rules.now)) _ _ _ _ _ _ _))

pub returns-in-Bu : goal.returns-in-Bu
returns-in-Bu c = lead_ok (world c.args.schema.now (map rule_tree c.args.rules.now)) c.first_of-in-Bu.result (conf (table (entries_of c.args.plan.now)) c.first_of-in-Bu.new.m) _ _ c.first_of-in-Bu.ensures (bu (world c.args.schema.now (map rule_tree c.args.rules.now)) _ _ _ _ _ _ _ (c.in-Some.ensures.stands ∙ ap (λ z. made (table (entries_of c.args.plan.now)) (entry_tree z)) c.in-Bu.is))

pub returns-in-Td : goal.returns-in-Td
returns-in-Td c = td_ok (world c.args.schema.now (map rule_tree c.args.rules.now)) c.stepping.result (conf (table (entries_of c.args.plan.now)) c.stepping.new.m) (table (entries_of c.args.plan.now)) c.args.m.now _ _ c.args.path (c.in-Some.ensures.stands ∙ ap (λ z. made (table (entries_of c.args.plan.now)) (entry_tree z)) c.in-Td.is) c.stepping.ensures

pub returns-in-Repeat : goal.returns-in-Repeat
returns-in-Repeat c = repeat_ok (world c.args.schema.now (map rule_tree c.args.rules.now)) c.stepping-in-Repeat.result (conf (table (entries_of c.args.plan.now)) c.stepping-in-Repeat.new.m) (table (entries_of c.args.plan.now)) c.args.m.now _ _ c.args.path (c.in-Some.ensures.stands ∙ ap (λ z. made (table (entries_of c.args.plan.now)) (entry_tree z)) c.in-Repeat.is) c.stepping-in-Repeat.ensures

pub returns-in-Given : goal.returns-in-Given
returns-in-Given c = c.given.ensures c.args.schema.now (map rule_tree c.args.rules.now) _ (c.in-Some.ensures.stands ∙ ap (λ z. made (table (entries_of c.args.plan.now)) (entry_tree z)) c.in-Given.is)
