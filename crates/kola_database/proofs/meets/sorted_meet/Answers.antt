use Rattle.std.proofs.Common.{◌≡◌, ◌&&◌, true, false, IfOk, map, ap, refl, sym, subst, ◌∙◌}
use mathlib.Core.Bool.{and-false}
use Rattle.std.proofs.lemmas.List.Folds.{list_all-map}
use Rattle.kola_values.specs.Databases.{Object}
use Rattle.kola_schema.specs.Schemas.{class_named}
use Rattle.kola_database.specs.MeetsTests.{is_there, no_two, same_object, fits_class, all_fit, keys_are_met}
use Rattle.kola_database.specs.ObjectViews.{object_tree}
use Rattle.kola_values.proofs.SameTypes.{and_true}
use Rattle.kola_database.proofs.MeetingLoops.{then_holds, else_fails}
use Rattle.kola_database.proofs.meets.sorted_meet.Goals as goal

pub returns-then-not-all_fit : goal.returns-then-not-all_fit
returns-then-not-all_fit c =
    let S = c.args.schema.now in
    let d = map object_tree c.args.objects.now in
    let fit : all_fit S d d ≡ false = list_all-map (λ (o : Object). fits_class (is_there d) (class_named S o.class) o) object_tree c.args.objects.now ∙ sym c.all_fit.ensures ∙ c.if-not-all_fit.true in
    else_fails (no_two same_object d && all_fit S d d) (keys_are_met S d) false (ap (λ b. no_two same_object d && b) fit ∙ and-false (no_two same_object d)) refl

pub returns : goal.returns
returns c =
    let S = c.args.schema.now in
    let d = map object_tree c.args.objects.now in
    let fit : all_fit S d d ≡ true = list_all-map (λ (o : Object). fits_class (is_there d) (class_named S o.class) o) object_tree c.args.objects.now ∙ sym c.all_fit.ensures ∙ c.if-not-all_fit.false in
    let apart : no_two same_object d ≡ true = sym c.objects_rise.ensures ∙ c.if-not-objects_rise.false in
    subst (λ m. IfOk c.keys_are_apart.result (λ b. b ≡ m)) (then_holds (no_two same_object d && all_fit S d d) (keys_are_met S d) (keys_are_met S d) (and_true _ _ apart fit) refl) c.keys_are_apart.ensures
