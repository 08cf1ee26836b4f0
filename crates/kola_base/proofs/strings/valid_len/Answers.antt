use Rattle.std.proofs.Common.{sym}
use Rattle.std.proofs.lemmas.Str.{utf8_valid_len-IsUtf8}
use Rattle.kola_base.proofs.strings.valid_len.Goals as goal

pub returns-in-Ok-clause-is : goal.returns-in-Ok-clause-is
returns-in-Ok-clause-is c = sym (utf8_valid_len-IsUtf8 c.args.content.now c.in-Ok.ensures.cases.1)
