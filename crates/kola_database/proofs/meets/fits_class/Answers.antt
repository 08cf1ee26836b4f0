use Rattle.std.proofs.Common.{◌≡◌, ◌&&◌, ap, sym, ◌∙◌}
use Rattle.std.specs.List.{list_all}
use Rattle.std.specs.Prelude.{ltb}
use Rattle.std.proofs.lemmas.Bool.{lt-ltb, le-ltb}
use Rattle.kola_values.specs.Databases.{look_up}
use Rattle.kola_schema.specs.Schemas.{are_distinct, names_of}
use Rattle.kola_database.specs.MeetsTests.{is_value_of, are_typed}
use Rattle.kola_database.proofs.MeetingLoops.{then_holds, else_fails, distinct_labels, typed_entries, whole_entries}
use Rattle.kola_database.proofs.meets.fits_class.Goals as goal
use Rattle.kola_database.proofs.meets.fits_class.Goals.{then-object-gt0, else-object-gt0, then-labels_are_distinct, else-labels_are_distinct}

pub returns-then-are_typed : goal.returns-then-are_typed
returns-then-are_typed g c =
    let there = g.H.Holds.there c.args.objects.now in
    let types = c.args.class.now.attributes in
    let values = c.args.object.now.values in
    let once : c.if-object-gt0.value ≡ (ltb 0 c.args.object.now.id && are_distinct (names_of values)) = elim c.if-object-gt0.branch [
      | then-object-gt0 w ↦ then_holds _ _ _ (lt-ltb 0 c.args.object.now.id w.if-object-gt0.true) (w.value-is ∙ w.labels_are_distinct.ensures ∙ distinct_labels c.as_slice-values.result.now values c.as_slice-values.ensures)
      | else-object-gt0 w ↦ else_fails _ _ _ (le-ltb 0 c.args.object.now.id w.if-object-gt0.false) (w.value-is ∙ le-ltb 0 c.args.object.now.id w.if-object-gt0.false)
    ] in
    let typed : c.if-labels_are_distinct.value ≡ (ltb 0 c.args.object.now.id && are_distinct (names_of values) && are_typed there types values) = elim c.if-labels_are_distinct.branch [
      | then-labels_are_distinct w ↦ then_holds _ _ _ (sym once ∙ w.if-labels_are_distinct.true) (w.value-is ∙ w.are_typed.ensures
          ∙ typed_entries c.as_slice-values.result.now values c.as_slice-values.ensures (λ e. is_value_of there (look_up e.0 _) e.1)
          ∙ ap (λ us. list_all (λ e. is_value_of there (look_up e.0 us) e.1) values) c.as_slice-types.ensures)
      | else-labels_are_distinct w ↦ else_fails _ _ _ (sym once ∙ w.if-labels_are_distinct.false) (w.value-is ∙ w.if-labels_are_distinct.false)
    ] in
    then_holds _ _ _ (sym typed ∙ c.if-are_typed.true) (c.are_whole.ensures ∙ whole_entries c.as_slice-values.result.now values c.as_slice-values.ensures c.as_slice-types.result.now types c.as_slice-types.ensures)

pub returns-else-are_typed : goal.returns-else-are_typed
returns-else-are_typed g c =
    let there = g.H.Holds.there c.args.objects.now in
    let types = c.args.class.now.attributes in
    let values = c.args.object.now.values in
    let once : c.if-object-gt0.value ≡ (ltb 0 c.args.object.now.id && are_distinct (names_of values)) = elim c.if-object-gt0.branch [
      | then-object-gt0 w ↦ then_holds _ _ _ (lt-ltb 0 c.args.object.now.id w.if-object-gt0.true) (w.value-is ∙ w.labels_are_distinct.ensures ∙ distinct_labels c.as_slice-values.result.now values c.as_slice-values.ensures)
      | else-object-gt0 w ↦ else_fails _ _ _ (le-ltb 0 c.args.object.now.id w.if-object-gt0.false) (w.value-is ∙ le-ltb 0 c.args.object.now.id w.if-object-gt0.false)
    ] in
    let typed : c.if-labels_are_distinct.value ≡ (ltb 0 c.args.object.now.id && are_distinct (names_of values) && are_typed there types values) = elim c.if-labels_are_distinct.branch [
      | then-labels_are_distinct w ↦ then_holds _ _ _ (sym once ∙ w.if-labels_are_distinct.true) (w.value-is ∙ w.are_typed.ensures
          ∙ typed_entries c.as_slice-values.result.now values c.as_slice-values.ensures (λ e. is_value_of there (look_up e.0 _) e.1)
          ∙ ap (λ us. list_all (λ e. is_value_of there (look_up e.0 us) e.1) values) c.as_slice-types.ensures)
      | else-labels_are_distinct w ↦ else_fails _ _ _ (sym once ∙ w.if-labels_are_distinct.false) (w.value-is ∙ w.if-labels_are_distinct.false)
    ] in
    else_fails _ _ _ (sym typed ∙ c.if-are_typed.false) c.if-are_typed.false
