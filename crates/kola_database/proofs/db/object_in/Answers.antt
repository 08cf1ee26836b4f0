use Rattle.std.proofs.Common.{◌∙◌, sym, ap, rules, subst, option_map, Err, length, refl}
use Rattle.std.proofs.lemmas.Option.{slice_get_read}
use Rattle.std.proofs.lemmas.Fn.{always_returns_same}
use Rattle.kola_values.specs.Values.{VObj}
use Rattle.kola_values.specs.Order.{cmp}
use Rattle.kola_values.specs.Sets.{Rising}
use Rattle.kola_database.specs.ObjectViews.{object_tree}
use Rattle.kola_values.proofs.Making.{found, first_at_place, none_found}
use Rattle.kola_database.proofs.Stored.{object_value, object_values_seen, object_found}
use Rattle.kola_database.proofs.db.object_in.Goals as goal

pub returns-in-Ok : goal.returns-in-Ok
returns-in-Ok c =
    let xs = c.args.objects.now in
    let v = VObj c.args.class.now c.args.id in
    let rise = subst Rising (sym (object_values_seen xs)) c.requires in
    let at = c.in-Ok.ensures.position (λ x. cmp (object_value x) v) (always_returns_same _ _ _ (λ a r f' k. search rules)) in
    let x = c.index-objects-place.result in
    let read = slice_get_read xs (length xs) c.in-Ok.place x refl c.in-Ok.ensures.bound c.index-objects-place.is in
    ap (option_map object_tree) (sym read ∙ sym (first_at_place object_value v xs c.in-Ok.place rise c.in-Ok.ensures.bound at)) ∙ object_found xs c.args.class.now c.args.id

pub returns-in-Err : goal.returns-in-Err
returns-in-Err c =
    let xs = c.args.objects.now in
    let v = VObj c.args.class.now c.args.id in
    let rise = subst Rising (sym (object_values_seen xs)) c.requires in
    let at = c.in-Err.ensures.position (λ x. cmp (object_value x) v) (always_returns_same _ _ _ (λ a r f' k. search rules)) in
    let none = sym (found object_value v xs (Err c.in-Err.field-0) rise c.in-Err.ensures.bound at) in
    ap (option_map object_tree) (sym (none_found object_value v xs none)) ∙ object_found xs c.args.class.now c.args.id
