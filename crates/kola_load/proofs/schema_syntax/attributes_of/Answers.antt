use Rattle.std.proofs.Common.{◌∙◌, option_map}
use Rattle.kola_load.specs.SchemaViews.{attribute_view}
use Rattle.kola_parse.proofs.ListedLaws.{listed_more, item_shorter}
use Rattle.kola_load.proofs.SchemaLaws.{attribute_list}
use Rattle.kola_load.proofs.schema_syntax.attributes_of.Goals as goal

pub loop-attributes-smaller : goal.loop-attributes-smaller
loop-attributes-smaller c = item_shorter (attribute_list c.args.levels) (option_map attribute_view c.in_ok-next.next) c.loop-attributes.rest c.in_ok-next.behind c.in_ok-next.ensures

pub loop-attributes-preserved : goal.loop-attributes-preserved
loop-attributes-preserved c =
    listed_more (attribute_list c.args.levels) attribute_view c.loop-attributes.attributes.items c.push.new.self.items c.in-Some.attribute c.loop-attributes.rest c.in_ok-next.behind c.in_ok-push-in-Some.ensures.items (rw c.in-Some.is at c.in_ok-next.ensures)
    ∙ c.loop-attributes.invariant
