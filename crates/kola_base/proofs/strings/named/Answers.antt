use Rattle.std.proofs.Common.{ap, take, ◌∙◌}
use Rattle.std.specs.List.{list_all}
use Rattle.kola_base.specs.Strings.{is_hex}
use Rattle.kola_base.proofs.Longest.{front_passes}
use Rattle.kola_base.proofs.strings.named.Goals as goal

pub hexadecimal-requires-clause-digits : goal.hexadecimal-requires-clause-digits
hexadecimal-requires-clause-digits c = ap (λ k. list_all is_hex (take k c.args.rest.now)) c.digits_len-digits.ensures.is ∙ front_passes is_hex c.args.rest.now
