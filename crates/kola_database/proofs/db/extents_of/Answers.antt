use Rattle.std.proofs.Common.{◌≡◌, ◌++◌, ◌∷◌, [], ap, ◌∙◌, sym, map}
use Rattle.kola_core.proofs.Lists.{taken_more}
use Rattle.kola_values.specs.Databases.{objects_of}
use Rattle.kola_schema.specs.Schemas.{names_of}
use Rattle.kola_database.specs.ObjectViews.{object_tree}
use Rattle.kola_database.specs.ExtentViews.{extent_of, filled}
use Rattle.kola_schema.proofs.Schemas.{attribute_names_seen}
use Rattle.kola_database.proofs.db.extents_of.Goals as goal

pub loop-class-preserved : goal.loop-class-preserved
loop-class-preserved c =
    let d = map object_tree c.args.objects.now in
    let us = filled c.args.schema.now d in
    let i = c.loop-class.class-index in
    let k = c.class-item.result in
    let g = c.get-class.ensures in
    let made : record { name = c.in_ok-copy.field-0; class = c.in_ok-copy-2.field-0; attributes = c.in_ok-labels_of.field-0; members = c.in_ok-members.members } ≡ extent_of d k = λ j. record {
      name = (c.in_ok-copy.ensures ∙ ap (λ t. t.extent) g) j;
      class = (c.in_ok-copy-2.ensures ∙ ap (λ t. t.name) g) j;
      attributes = (c.in_ok-labels_of.ensures ∙ attribute_names_seen c.as_slice.result.now ∙ ap (λ l. names_of l) (c.as_slice.ensures ∙ ap (λ t. t.attributes) g)) j;
      members = (c.in_ok-members.ensures ∙ ap (λ t. objects_of t.name d) g) j;
    } in
    c.in_ok-push.ensures.items
    ∙ (λ j. c.loop-class.invariant j ++ made j ∷ [])
    ∙ sym (taken_more (extent_of d) c.classes-class-items.result.now us i k (ap (λ l. filled l d) c.classes-class-items.ensures) c.loop-class-test.true c.class-item.is)
