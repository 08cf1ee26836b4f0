use Rattle.std.proofs.Common.{ap, ◌∙◌, sym, ◌∷◌}
use Rattle.coko_plan.specs.Entries.{table}
use Rattle.coko_plan.specs.EntryViews.{entries_of}
use Rattle.coko_run.specs.Firing.{world}
use Rattle.coko_run.specs.Views.{frame_of, frames}
use Rattle.coko_run.proofs.Arms.{back_or, back_go, back_stay, back_end}
use Rattle.coko_run.proofs.moves.returning.Goals as goal

pub returns-in-None : goal.returns-in-None
returns-in-None c = λ S A. back_end (world S A) _ _ _ _ _ c.in-None.ensures.none

pub returns-in-Some-Or : goal.returns-in-Some-Or
returns-in-Some-Or c = λ S A. back_or (world S A) _ _ _ _ _ _ _ (frames (table (entries_of c.args.plan.now)) c.pop.new.stack.items) (c.in-Some-Or.ensures.some ∙ ap (λ z. frame_of (table (entries_of c.args.plan.now)) z ∷ frames (table (entries_of c.args.plan.now)) c.pop.new.stack.items) c.in-Some-Or.field-0-is) c.or.ensures

pub returns-then-not-goes : goal.returns-then-not-goes
returns-then-not-goes c = λ S A. back_stay (world S A) _ _ _ _ _ _ _ _ _ (c.in-Some-After.ensures.some ∙ ap (λ z. frame_of (table (entries_of c.args.plan.now)) z ∷ frames (table (entries_of c.args.plan.now)) c.pop.new.stack.items) c.in-Some-After.field-0-is) (sym c.goes.ensures ∙ c.if-not-goes.true)

pub returns-in_ok-push_or-in-Some-After : goal.returns-in_ok-push_or-in-Some-After
returns-in_ok-push_or-in-Some-After c = λ S A. back_go (world S A) _ _ _ _ _ _ _ _ (frames (table (entries_of c.args.plan.now)) c.pop.new.stack.items) _ (c.in-Some-After.ensures.some ∙ ap (λ z. frame_of (table (entries_of c.args.plan.now)) z ∷ frames (table (entries_of c.args.plan.now)) c.pop.new.stack.items) c.in-Some-After.field-0-is) (sym c.goes.ensures ∙ c.if-not-goes.false) c.in_ok-push_or-in-Some-After.ensures
