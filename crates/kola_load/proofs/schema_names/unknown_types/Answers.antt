use Rattle.std.proofs.Common.{map, ap, ◌∙◌}
use Rattle.kola_load.specs.SchemaTree.{AttributeAt}
use Rattle.kola_load.specs.FirstMarks.{unknown_class, unknown_types}
use Rattle.kola_load.specs.SchemaViews.{type_view, attribute_view}
use Rattle.kola_load.proofs.MarkLoops.{first_step}
use Rattle.kola_load.proofs.schema_names.unknown_types.Goals as goal

pub loop-attribute-preserved : goal.loop-attribute-preserved
loop-attribute-preserved c =
    first_step (λ (a : AttributeAt). unknown_class c.args.known.now a.type) attribute_view c.args.attributes.now c.loop-attribute.attribute-index c.attribute-item.result c.loop-attribute.first c.unknown_class.result c.earlier-first.result (unknown_types c.args.known.now (map attribute_view c.args.attributes.now)) c.loop-attribute-test.true
    (c.unknown_class.ensures ∙ ap (λ x. unknown_class c.args.known.now (type_view x.ty)) c.attribute-item.is) c.earlier-first.ensures c.loop-attribute.invariant
