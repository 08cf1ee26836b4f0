use Rattle.std.proofs.Common.{◌++◌, ◌∷◌, [], map, take, sym, ap, ◌∙◌}
use Rattle.std.proofs.lemmas.List.{map-append}
use Rattle.kola_load.specs.JsonViews.{table_view}
use Rattle.kola_core.proofs.Lists.{taken_more}
use Rattle.kola_schema.specs.SchemaViews.{class_tree}
use Rattle.kola_values.specs.Views.{type_entry}
use Rattle.kola_load.specs.Ids.{there}
use Rattle.kola_load.specs.Loading.{attribute_fault}
use Rattle.kola_load.specs.Written.{attribute_in}
use Rattle.kola_load.proofs.Answering.{handed_on}
use Rattle.kola_load.proofs.Walks.{of_next, of_found}
use Rattle.kola_load.proofs.objects.read_attributes.Goals as goal

pub returns-in_err-entry : goal.returns-in_err-entry
returns-in_err-entry c =
    let test = attribute_fault (there c.args.ids.now) (class_tree c.args.class.now) (table_view c.args.object.now) in
    handed_on _ _ c.from_residual.result _ c.from_residual.ensures.1
    (λ n. of_found type_entry c.as_slice-attribute-items.result.now c.args.class.now.attributes c.as_slice-attribute-items.ensures c.loop-attribute.attribute-index c.attribute-item.result c.loop-attribute-test.true c.attribute-item.is test _ c.loop-attribute.invariant.1 _ (c.in_err-entry.ensures n))

pub loop-attribute-preserved : goal.loop-attribute-preserved
loop-attribute-preserved c =
    let test = attribute_fault (there c.args.ids.now) (class_tree c.args.class.now) (table_view c.args.object.now) in
    let us = c.args.class.now.attributes in
    let xs = c.as_slice-attribute-items.result.now in
    let i = c.loop-attribute.attribute-index in (
      c.in_ok-push.ensures.ok ∙ (λ j. c.loop-attribute.invariant.0 j ++ c.in_ok-entry.ensures.1 j ∷ [])
          ∙ sym (map-append (attribute_in (table_view c.args.object.now)) (take i us) (type_entry c.attribute-item.result ∷ []))
          ∙ sym (ap (map (attribute_in (table_view c.args.object.now))) (taken_more type_entry xs us i c.attribute-item.result c.as_slice-attribute-items.ensures c.loop-attribute-test.true c.attribute-item.is)),
      of_next type_entry xs us c.as_slice-attribute-items.ensures i c.attribute-item.result c.loop-attribute-test.true c.attribute-item.is test _ c.loop-attribute.invariant.1 c.in_ok-entry.ensures.0,
    )
