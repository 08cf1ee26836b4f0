use Rattle.kola_spelt.proofs.StringsBack.{string_again}
use Rattle.kola_spelt.proofs.laws.a_quoted_text_writes_it.Goals as goal

pub returns : goal.returns
returns c = string_again c.args.text.now
