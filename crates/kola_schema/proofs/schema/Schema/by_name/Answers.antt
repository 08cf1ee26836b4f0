use Rattle.std.proofs.Common.{rules, position, ◌∙◌, ap}
use Rattle.kola_schema.specs.Schemas.{class_named}
use Rattle.kola_schema.proofs.Places.{class_at_place}
use Rattle.kola_schema.proofs.schema.Schema.by_name.Goals as goal
use Rattle.std.specs.Str.{bytes_eq}

pub returns-in_err-place : goal.returns-in_err-place
returns-in_err-place c =
    let h = class_at_place c.self.inside.classes.items c.self.inside.names c.args.name.now c.place.result (c.place.ensures ∙ ap (λ n. position (bytes_eq n) c.self.inside.names) c.as_text.ensures.text) c.self.invariant.1 ∙ ap (λ l. class_named l c.args.name.now) c.self.view_is in
    search rules

pub returns : goal.returns
returns c =
    let h = class_at_place c.self.inside.classes.items c.self.inside.names c.args.name.now c.place.result (c.place.ensures ∙ ap (λ n. position (bytes_eq n) c.self.inside.names) c.as_text.ensures.text) c.self.invariant.1 ∙ ap (λ l. class_named l c.args.name.now) c.self.view_is in
    search rules
