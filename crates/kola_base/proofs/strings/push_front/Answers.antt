use Rattle.std.proofs.Common.{sym, ap, ◌∙◌, ◌++◌}
use Rattle.std.specs.Char.{encode_utf8}
use Rattle.kola_base.proofs.Escapes.{named_writes}
use Rattle.kola_base.proofs.strings.push_front.Goals as goal

pub returns-in_ok-extend_from_slice-in-Some-default-Some-clause-is : goal.returns-in_ok-extend_from_slice-in-Some-default-Some-clause-is
returns-in_ok-extend_from_slice-in-Some-default-Some-clause-is c = (
  encode_utf8 c.in-Some-default-Some.named,
  c.in_ok-extend_from_slice-in-Some-default-Some.ensures.items ∙ ap (λ w. c.args.out.now.items ++ w) (c.as_bytes.ensures.value ∙ c.encode_utf8.ensures.value),
  named_writes c.args.rest.now c.in-Some-default-Some.len (encode_utf8 c.in-Some-default-Some.named) (sym (rw c.in-Some-default-Some.field-0-1-is at c.in-Some-default-Some.ensures.is)),
)
