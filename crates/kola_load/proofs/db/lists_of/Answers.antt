use Rattle.std.proofs.Common.{sym, subst, ◌∙◌}
use Rattle.kola_load.specs.Calls.{FindsLists}
use Rattle.kola_load.specs.JsonViews.{view}
use Rattle.kola_load.proofs.JsonViews.{an_object}
use Rattle.kola_load.proofs.db.lists_of.Goals as goal

pub returns : goal.returns
returns c =
    subst (λ j. FindsLists c.args.schema.now j c.lists_in.result) (c.in_ok-members.ensures ∙ an_object (view c.args.value) (sym c.is_object.ensures ∙ c.if-not-is_object.false)) c.lists_in.ensures
