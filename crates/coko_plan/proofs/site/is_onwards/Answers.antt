use Rattle.std.proofs.Common.{length, position, sym, ap, ◌∙◌}
use Rattle.std.specs.Str.{bytes_eq}
use Rattle.coko_plan.proofs.Finding.{is_from, at_or_behind, listed_from}
use Rattle.coko_plan.proofs.site.is_onwards.Goals as goal

pub returns-in-Some : goal.returns-in-Some
returns-in-Some c =
    let s = c.args.site.now in
    at_or_behind (length s.numbers.now) c.in-Some.place
    ∙ (ap (is_from (length s.numbers.now)) (c.in-Some.ensures ∙ ap (λ z. position (bytes_eq z) s.names.now) c.as_text.ensures.text) ∙ sym (listed_from c.args.name.now s.names.now (length s.numbers.now) c.requires))

pub returns-in-None : goal.returns-in-None
returns-in-None c =
    let s = c.args.site.now in
    ap (is_from (length s.numbers.now)) (c.in-None.ensures ∙ ap (λ z. position (bytes_eq z) s.names.now) c.as_text.ensures.text) ∙ sym (listed_from c.args.name.now s.names.now (length s.numbers.now) c.requires)
