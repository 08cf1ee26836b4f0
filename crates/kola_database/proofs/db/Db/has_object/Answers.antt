use Rattle.std.proofs.Common.{◌∙◌, sym, ap, map, is_some}
use Rattle.kola_values.specs.Values.{VObj}
use Rattle.kola_values.specs.Sets.{has}
use Rattle.kola_values.specs.Databases.{objects_of}
use Rattle.kola_database.specs.ObjectViews.{object_tree, object_at}
use Rattle.kola_database.proofs.Stored.{object_is_there, some_mapped}
use Rattle.kola_database.proofs.db.Db.has_object.Goals as goal

pub returns : goal.returns
returns c =
    c.is_some.ensures
    ∙ sym (some_mapped object_at c.object_in.result)
    ∙ ap is_some c.object_in.ensures
    ∙ object_is_there (map object_tree c.deref.result.now) c.args.class.now c.args.id
    ∙ ap (λ l. has (VObj c.args.class.now c.args.id) (objects_of c.args.class.now l)) (ap (map object_tree) c.deref.ensures.value ∙ ap (λ x. x.objects) c.self.view_is)
