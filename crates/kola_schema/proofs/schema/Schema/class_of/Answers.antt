use Rattle.std.proofs.Common.{rules, position, ◌∙◌, ap}
use Rattle.kola_values.specs.Databases.{extent_class}
use Rattle.kola_schema.proofs.Places.{extent_at_place}
use Rattle.kola_schema.proofs.schema.Schema.class_of.Goals as goal
use Rattle.std.specs.Str.{bytes_eq}

pub returns-in_err-place : goal.returns-in_err-place
returns-in_err-place c =
    let h = extent_at_place c.self.inside.classes.items c.self.inside.extents c.args.extent.now c.place.result (c.place.ensures ∙ ap (λ n. position (bytes_eq n) c.self.inside.extents) c.as_text.ensures.text) c.self.invariant.2 ∙ ap (λ l. extent_class l c.args.extent.now) c.self.view_is in
    search rules

pub returns-in_err-class : goal.returns-in_err-class
returns-in_err-class c =
    let h = extent_at_place c.self.inside.classes.items c.self.inside.extents c.args.extent.now c.place.result (c.place.ensures ∙ ap (λ n. position (bytes_eq n) c.self.inside.extents) c.as_text.ensures.text) c.self.invariant.2 ∙ ap (λ l. extent_class l c.args.extent.now) c.self.view_is in
    search rules

pub returns : goal.returns
returns c =
    let h = extent_at_place c.self.inside.classes.items c.self.inside.extents c.args.extent.now c.place.result (c.place.ensures ∙ ap (λ n. position (bytes_eq n) c.self.inside.extents) c.as_text.ensures.text) c.self.invariant.2 ∙ ap (λ l. extent_class l c.args.extent.now) c.self.view_is in
    search rules
