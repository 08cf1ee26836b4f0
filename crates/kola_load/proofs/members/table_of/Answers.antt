use Rattle.kola_load.proofs.JsonViews.{one_more}
use Rattle.kola_load.proofs.members.table_of.Goals as goal

pub loop-member-preserved : goal.loop-member-preserved
loop-member-preserved c =
    (tt, tt, one_more c.in-Some.member _ _ c.loop-member.table.entries c.insert.new.self.entries _ c.in-Some.ensures.steps.0 c.in_ok-insert.ensures.entries c.loop-member.invariant.2)
