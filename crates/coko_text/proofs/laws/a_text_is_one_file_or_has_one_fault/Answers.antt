use Rattle.kola_base.proofs.SpelledLaws.{one_spelled, spelled_or_fault, one_text_fault, read_once}
use Rattle.coko_text.specs.Limits.{greatest_nesting}
use Rattle.coko_text.specs.RuleGrammar.{FileText}
use Rattle.coko_text.specs.RuleReaders.{file_at}
use Rattle.coko_text.proofs.RuleLaws.{on_file, file_good}
use Rattle.coko_text.proofs.laws.a_text_is_one_file_or_has_one_fault.Goals as goal

pub returns-clause-some : goal.returns-clause-some
returns-clause-some c = read_once file_at FileText on_file file_good greatest_nesting c.args.text.now

pub returns-clause-one_file : goal.returns-clause-one_file
returns-clause-one_file c x y h k = one_spelled file_at FileText on_file file_good greatest_nesting c.args.text.now x y h k

pub returns-clause-not_both : goal.returns-clause-not_both
returns-clause-not_both c x at why h k = spelled_or_fault file_at FileText on_file file_good greatest_nesting c.args.text.now x at why h k

pub returns-clause-one_fault : goal.returns-clause-one_fault
returns-clause-one_fault c at to why cause h k = one_text_fault file_at FileText on_file file_good greatest_nesting c.args.text.now at to why cause h k
