use Rattle.std.proofs.Common.{◌≡◌, ◌++◌, ◌∷◌, [], map, take, subst, sym, ap, ◌∙◌}
use Rattle.std.proofs.lemmas.List.{map-append, take_more}
use Rattle.kola_load.specs.JsonViews.{view, table_view}
use Rattle.kola_values.specs.Databases.{Class}
use Rattle.kola_database.specs.ObjectViews.{object_tree}
use Rattle.kola_schema.proofs.Schemas.{parts_of_schema}
use Rattle.kola_load.specs.Ids.{there}
use Rattle.kola_load.specs.Loading.{first_of, object_fault, objects_fault}
use Rattle.kola_load.specs.Members.{elements_at, AreLeft}
use Rattle.kola_load.specs.Written.{extent_of, object_in, objects_in}
use Rattle.kola_load.proofs.Answering.{handed_on}
use Rattle.kola_load.proofs.Taken.{extent_ahead, fewer_ahead}
use Rattle.kola_load.proofs.Walks.{map_itself, at_place, of_next, of_found}
use Rattle.kola_load.proofs.objects.read_objects.Goals as goal

pub returns-in_err-objects : goal.returns-in_err-objects
returns-in_err-objects c =
    let S = c.args.schema.now in
    let i = c.loop-class.class-index in
    let k = c.class-item.result in
    let given = c.args.given.entries in
    let now = c.loop-class.members.entries in
    let j = table_view c.args.given in
    let test = objects_fault (there c.args.ids.now) j in
    let p = at_place c.classes-class-items.result.now S i k c.classes-class-items.ensures c.loop-class-test.true c.class-item.is in
    let taken : map view c.elements_of-elements.result.items ≡ extent_of j k = c.elements_of-elements.ensures.taken ∙ ap (λ (x : Class). elements_at x.extent now) c.get.ensures ∙ extent_ahead S i k p.0 p.1 given now c.loop-class.invariant.2 (parts_of_schema S c.well_formed-2.ensures).1 in
    handed_on _ _ c.from_residual.result _ c.from_residual.ensures.1
    (λ n. of_found (λ x. x) S S (map_itself S) i k p.0 p.1 test _ c.loop-class.invariant.1 _ (ap (first_of (object_fault (there c.args.ids.now) k)) (sym taken) ∙ c.in_err-objects.ensures n))

pub loop-class-preserved : goal.loop-class-preserved
loop-class-preserved c =
    let S = c.args.schema.now in
    let i = c.loop-class.class-index in
    let k = c.class-item.result in
    let given = c.args.given.entries in
    let now = c.loop-class.members.entries in
    let after = c.elements_of-elements.new.members.entries in
    let j = table_view c.args.given in
    let test = objects_fault (there c.args.ids.now) j in
    let p = at_place c.classes-class-items.result.now S i k c.classes-class-items.ensures c.loop-class-test.true c.class-item.is in
    let taken : map view c.elements_of-elements.result.items ≡ extent_of j k = c.elements_of-elements.ensures.taken ∙ ap (λ (x : Class). elements_at x.extent now) c.get.ensures ∙ extent_ahead S i k p.0 p.1 given now c.loop-class.invariant.2 (parts_of_schema S c.well_formed-2.ensures).1 in (
      ap (map (λ os. map object_tree os.items)) c.in_ok-push.ensures.items
          ∙ map-append (λ os. map object_tree os.items) c.loop-class.lists.items (c.in_ok-objects.objects ∷ [])
          ∙ (λ q. c.loop-class.invariant.0 q ++ (c.in_ok-objects.ensures.1 ∙ ap (map (object_in k)) taken) q ∷ [])
          ∙ sym (map-append (objects_in j) (take i S) (k ∷ []))
          ∙ sym (ap (map (objects_in j)) (take_more S i k p.0 ∙ ap (λ x. take i S ++ x ∷ []) (sym p.1))),
      of_next (λ x. x) S S (map_itself S) i k p.0 p.1 test _ c.loop-class.invariant.1 (ap (first_of (object_fault (there c.args.ids.now) k)) (sym taken) ∙ c.in_ok-objects.ensures.0),
      fewer_ahead S i k p.0 p.1 given now c.loop-class.invariant.2 after (subst (λ (x : Class). AreLeft x.extent now after) c.get.ensures c.elements_of-elements.ensures.others),
    )
