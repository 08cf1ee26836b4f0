use Rattle.std.proofs.Common.{rules, ◌∙◌, ap, position}
use Rattle.std.specs.Str.{bytes_eq}
use Rattle.kola_values.specs.Databases.{look_up}
use Rattle.kola_schema.proofs.Places.{entry_at_place}
use Rattle.kola_schema.proofs.schema.IndexedClass.attribute.Goals as goal

pub returns-in_err-place : goal.returns-in_err-place
returns-in_err-place c =
    let es = c.self.inside.class.attributes in
    let h = entry_at_place es c.args.a.now c.place.result (c.place.ensures ∙ ap (λ n. position (bytes_eq n) c.self.inside.attributes) c.as_text.ensures.text ∙ ap (position (bytes_eq c.args.a.now)) c.self.invariant) ∙ ap (λ k. look_up c.args.a.now k.attributes) c.self.view_is in
    search rules

pub returns-in_err-entry : goal.returns-in_err-entry
returns-in_err-entry c =
    let es = c.self.inside.class.attributes in
    let h = entry_at_place es c.args.a.now c.place.result (c.place.ensures ∙ ap (λ n. position (bytes_eq n) c.self.inside.attributes) c.as_text.ensures.text ∙ ap (position (bytes_eq c.args.a.now)) c.self.invariant) ∙ ap (λ k. look_up c.args.a.now k.attributes) c.self.view_is in
    search rules

pub returns : goal.returns
returns c =
    let es = c.self.inside.class.attributes in
    let h = entry_at_place es c.args.a.now c.place.result (c.place.ensures ∙ ap (λ n. position (bytes_eq n) c.self.inside.attributes) c.as_text.ensures.text ∙ ap (position (bytes_eq c.args.a.now)) c.self.invariant) ∙ ap (λ k. look_up c.args.a.now k.attributes) c.self.view_is in
    search rules
