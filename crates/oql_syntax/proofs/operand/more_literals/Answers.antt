use Rattle.std.proofs.Common.{◌∙◌}
use Rattle.oql_tree.specs.QueryViews.{literal_entry}
use Rattle.kola_parse.proofs.ListedLaws.{listed_more}
use Rattle.oql_syntax.proofs.LevelLaws.{literal_list}
use Rattle.oql_syntax.proofs.operand.more_literals.Goals as goal

pub loop-literals-preserved : goal.loop-literals-preserved
loop-literals-preserved c =
    listed_more literal_list literal_entry c.loop-literals.literals.items c.push.new.self.items c.in-Some.literal c.loop-literals.rest c.in_ok-next.behind c.in_ok-push-in-Some.ensures.items (rw c.in-Some.is at c.in_ok-next.ensures)
    ∙ c.loop-literals.invariant
