use Rattle.std.proofs.Common.{take, ap, ◌∙◌}
use Rattle.kola_base.specs.LexemeViews.{placed_view}
use Rattle.oql_syntax.specs.Roles.{role}
use Rattle.oql_syntax.proofs.RoleLaws.{ends_is, one_more}
use Rattle.oql_syntax.proofs.outside.ends_in_select.Goals as goal

pub loop-left-init : goal.loop-left-init
loop-left-init c = ends_is (take c.args.count c.args.tokens)

pub loop-left-preserved : goal.loop-left-preserved
loop-left-preserved c =
    one_more c.loop-left.ends c.is_bare_select-ends.result c.loop-left.before c.loop-left.last c.role_of-role.result c.loop-left.left (placed_view c.in-Some.first) c.loop-left.rest c.in-Some.behind c.loop-left-test.true c.in-Some.ensures.some (c.role_of-role.ensures ∙ ap role c.symbol_of.ensures) c.is_bare_select-ends.ensures
    ∙ c.loop-left.invariant
