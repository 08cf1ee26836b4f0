use Rattle.std.proofs.Common.{◌∙◌, ap, map, slice_get, option_map}
use Rattle.kola_database.specs.Stored.{extent_at}
use Rattle.kola_database.specs.ObjectViews.{object_tree}
use Rattle.kola_database.proofs.Numbered.{members_numbered}
use Rattle.kola_database.proofs.db.Db.extent_at.Goals as goal

pub returns : goal.returns
returns c =
    let xs = c.self.inside.extents.items in
    c.members_at.ensures
    ∙ ap (λ l. option_map (λ x. x.members) (slice_get l c.args.class)) c.deref.ensures.value
    ∙ members_numbered xs (map object_tree c.self.inside.objects.items) c.args.class c.self.invariant.sets
    ∙ ap (λ d. extent_at d c.args.class) c.self.view_is
