use Rattle.std.proofs.Common.{◌≡◌, ◌&&◌, map, sym, ◌∙◌}
use Rattle.std.proofs.lemmas.List.Folds.{list_all-map}
use Rattle.kola_values.specs.Databases.{Object}
use Rattle.kola_schema.specs.Schemas.{class_named}
use Rattle.kola_database.specs.MeetsTests.{is_there, no_two, same_object, fits_class, all_fit}
use Rattle.kola_database.specs.ObjectViews.{object_tree}
use Rattle.kola_database.proofs.MeetingLoops.{then_holds, else_fails}
use Rattle.kola_database.proofs.meets.meets.Goals as goal
use Rattle.kola_database.proofs.meets.meets.Goals.{then-objects_are_distinct, else-objects_are_distinct}

pub returns-then-all_fit : goal.returns-then-all_fit
returns-then-all_fit c =
    let d = map object_tree c.args.objects.now in
    let fit : c.if-objects_are_distinct.value ≡ (no_two same_object d && all_fit c.args.schema.now d d) = elim c.if-objects_are_distinct.branch [
      | then-objects_are_distinct w ↦ then_holds _ _ _ (sym c.objects_are_distinct.ensures ∙ w.if-objects_are_distinct.true) (w.value-is ∙ w.all_fit.ensures ∙ sym (list_all-map (λ (o : Object). fits_class (is_there d) (class_named c.args.schema.now o.class) o) object_tree c.args.objects.now))
      | else-objects_are_distinct w ↦ else_fails _ _ _ (sym c.objects_are_distinct.ensures ∙ w.if-objects_are_distinct.false) (w.value-is ∙ w.if-objects_are_distinct.false)
    ] in
    then_holds _ _ _ (sym fit ∙ c.if-all_fit.true) c.keys_are_met.ensures

pub returns-else-all_fit : goal.returns-else-all_fit
returns-else-all_fit c =
    let d = map object_tree c.args.objects.now in
    let fit : c.if-objects_are_distinct.value ≡ (no_two same_object d && all_fit c.args.schema.now d d) = elim c.if-objects_are_distinct.branch [
      | then-objects_are_distinct w ↦ then_holds _ _ _ (sym c.objects_are_distinct.ensures ∙ w.if-objects_are_distinct.true) (w.value-is ∙ w.all_fit.ensures ∙ sym (list_all-map (λ (o : Object). fits_class (is_there d) (class_named c.args.schema.now o.class) o) object_tree c.args.objects.now))
      | else-objects_are_distinct w ↦ else_fails _ _ _ (sym c.objects_are_distinct.ensures ∙ w.if-objects_are_distinct.false) (w.value-is ∙ w.if-objects_are_distinct.false)
    ] in
    else_fails _ _ _ (sym fit ∙ c.if-all_fit.false) c.if-all_fit.false
