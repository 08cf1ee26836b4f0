use Rattle.std.proofs.Common.{rules, ◌∙◌, ap, map}
use Rattle.kola_values.specs.Databases.{look_up}
use Rattle.kola_database.specs.Stored.{object_named}
use Rattle.kola_database.specs.ObjectViews.{object_tree}
use Rattle.kola_database.proofs.Stored.{value_found}
use Rattle.kola_database.proofs.db.Db.attribute.Goals as goal

pub returns-in_err-entry : goal.returns-in_err-entry
returns-in_err-entry c =
    let objects = ap (map object_tree) c.deref.ensures.value ∙ ap (λ x. x.objects) c.self.view_is in
    let named = ap (object_named c.args.class.now c.args.id) objects in
    let k = value_found c.as_slice.result.now c.args.a.now ∙ ap (look_up c.args.a.now) c.as_slice.ensures in
    search rules

pub returns : goal.returns
returns c =
    let objects = ap (map object_tree) c.deref.ensures.value ∙ ap (λ x. x.objects) c.self.view_is in
    let named = ap (object_named c.args.class.now c.args.id) objects in
    let k = value_found c.as_slice.result.now c.args.a.now ∙ ap (look_up c.args.a.now) c.as_slice.ensures in
    search rules
