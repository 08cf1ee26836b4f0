use Rattle.std.proofs.Common.{None, Some, position, ap, ◌∙◌}
use Rattle.std.specs.Str.{bytes_eq}
use Rattle.coko_plan.proofs.Finding.{earlier_at}
use Rattle.coko_plan.proofs.site.earlier.Goals as goal

pub returns-in-Some : goal.returns-in-Some
returns-in-Some c =
    let s = c.args.site.now in
    c.number_at.ensures
    ∙ earlier_at c.args.name.now c.args.rev s.names.now s.numbers.now (Some c.in-Some.place) c.if-rev.false (c.in-Some.ensures ∙ ap (λ z. position (bytes_eq z) s.names.now) c.as_text.ensures.text)

pub returns-in-None : goal.returns-in-None
returns-in-None c =
    let s = c.args.site.now in
    earlier_at c.args.name.now c.args.rev s.names.now s.numbers.now None c.if-rev.false (c.in-None.ensures ∙ ap (λ z. position (bytes_eq z) s.names.now) c.as_text.ensures.text)
