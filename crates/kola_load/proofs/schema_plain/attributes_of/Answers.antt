use Rattle.std.proofs.Common.{ap, ◌∙◌}
use Rattle.kola_values.specs.Views.{type_entry}
use Rattle.kola_load.specs.PlainSchemas.{plain_type, plain_attribute}
use Rattle.kola_load.specs.SchemaViews.{type_view, attribute_view}
use Rattle.kola_load.proofs.MarkLoops.{pushed_step}
use Rattle.kola_load.proofs.schema_plain.attributes_of.Goals as goal

pub loop-attribute-preserved : goal.loop-attribute-preserved
loop-attribute-preserved c =
    let name = c.in_ok-from_text.ensures ∙ ap (λ a. a.name.name.now) c.attribute-item.is in
    let type = c.in_ok-ty.ensures ∙ ap (λ a. plain_type (type_view a.ty)) c.attribute-item.is in
    pushed_step plain_attribute attribute_view c.args.attributes.now c.loop-attribute.attribute-index c.attribute-item.result c.loop-attribute.all c.push.new.self (type_entry (c.in_ok-from_text.field-0, c.in_ok-ty.ty)) c.loop-attribute-test.true c.loop-attribute.invariant
    (λ j. (name j, type j)) c.in_ok-push.ensures.ok
