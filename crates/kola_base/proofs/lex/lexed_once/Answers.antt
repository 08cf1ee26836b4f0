use Rattle.kola_base.proofs.OneCut.{one_list, one_fault, not_both}
use Rattle.kola_base.proofs.Total.{tokens_or_fault}
use Rattle.kola_base.proofs.lex.lexed_once.Goals as goal

pub returns : goal.returns
returns c = record {
  some = tokens_or_fault c.args.text.now;
  one_list = λ ts us. one_list ts us c.args.text.now;
  one_fault = λ at to why cause. one_fault c.args.text.now at to why cause;
  not_both = λ ts at why. not_both ts c.args.text.now at why;
}
