use Rattle.std.proofs.Common.{rules, position, ◌∙◌, ap, map}
use Rattle.kola_database.specs.Stored.{extent_in}
use Rattle.kola_database.specs.ObjectViews.{object_tree}
use Rattle.kola_database.proofs.Stored.{members_at_place}
use Rattle.kola_database.proofs.db.Db.extent.Goals as goal
use Rattle.std.specs.Str.{bytes_eq}

pub returns-in_err-place : goal.returns-in_err-place
returns-in_err-place c =
    let kept = c.self.invariant in
    let h = members_at_place c.self.inside.extents.items (map object_tree c.self.inside.objects.items) c.self.inside.names c.args.name.now c.place.result kept.sets kept.named (c.place.ensures ∙ ap (λ n. position (bytes_eq n) c.self.inside.names) c.as_text.ensures.text) ∙ ap (λ x. extent_in x c.args.name.now) c.self.view_is in
    search rules

pub returns : goal.returns
returns c =
    let kept = c.self.invariant in
    let h = members_at_place c.self.inside.extents.items (map object_tree c.self.inside.objects.items) c.self.inside.names c.args.name.now c.place.result kept.sets kept.named (c.place.ensures ∙ ap (λ n. position (bytes_eq n) c.self.inside.names) c.as_text.ensures.text) ∙ ap (λ x. extent_in x c.args.name.now) c.self.view_is in
    search rules
