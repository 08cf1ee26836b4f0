use Rattle.std.proofs.Common.{◌∙◌}
use Rattle.kola_load.specs.SchemaViews.{named_view}
use Rattle.kola_parse.proofs.ListedLaws.{listed_more}
use Rattle.kola_load.proofs.SchemaLaws.{name_list}
use Rattle.kola_load.proofs.schema_syntax.names_of.Goals as goal

pub loop-names-preserved : goal.loop-names-preserved
loop-names-preserved c =
    listed_more name_list named_view c.loop-names.names.items c.push-in-Some.new.self.items c.in-Some.name c.loop-names.rest c.in_ok-next.behind c.in_ok-push-in-Some.ensures.items (rw c.in-Some.is at c.in_ok-next.ensures)
    ∙ c.loop-names.invariant
