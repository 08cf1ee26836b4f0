use Rattle.std.proofs.Common.{ap, sym, ◌∙◌}
use Rattle.coko_plan.specs.Entries.{pick, table}
use Rattle.coko_plan.specs.EntryViews.{entry_tree, entries_of}
use Rattle.coko_run.specs.Views.{arms_of}
use Rattle.coko_run.proofs.Armed.{pick_past, no_list, one_none, one_some}
use Rattle.coko_run.proofs.moves.arm_at.Goals as goal

pub returns-in_default-clause-none : goal.returns-in_default-clause-none
returns-in_default-clause-none c = ap (arms_of c.args.k) (pick_past (entries_of c.args.plan.now) c.args.i c.in_default.ensures.past)

pub returns-in_default-arms_in-clause-none : goal.returns-in_default-arms_in-clause-none
returns-in_default-arms_in-clause-none c = no_list (table (entries_of c.args.plan.now)) (pick (table (entries_of c.args.plan.now)) c.args.i) c.args.k (entry_tree c.in-Some.e.now) c.in-Some.ensures.stands c.in_default-arms_in.ensures.none

pub returns-clause-none : goal.returns-clause-none
returns-clause-none c = one_none (table (entries_of c.args.plan.now)) (pick (table (entries_of c.args.plan.now)) c.args.i) c.args.k (entry_tree c.in-Some.e.now) c.as_slice.result.now c.one_of.result c.in-Some.ensures.stands (c.in-Some-arms_in.ensures.some ∙ sym c.as_slice.ensures) c.one_of.ensures.none

pub returns-clause-some : goal.returns-clause-some
returns-clause-some c = one_some (table (entries_of c.args.plan.now)) (pick (table (entries_of c.args.plan.now)) c.args.i) c.args.k (entry_tree c.in-Some.e.now) c.as_slice.result.now c.one_of.result c.in-Some.ensures.stands (c.in-Some-arms_in.ensures.some ∙ sym c.as_slice.ensures) c.one_of.ensures.some
