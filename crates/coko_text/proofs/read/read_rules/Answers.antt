use Rattle.kola_base.proofs.SpelledLaws.{answer_only, answer_at}
use Rattle.coko_text.specs.Limits.{greatest_nesting}
use Rattle.coko_text.specs.RuleGrammar.{FileText}
use Rattle.coko_text.specs.RuleReaders.{file_at}
use Rattle.coko_text.specs.RuleViews.{file_tree}
use Rattle.coko_text.proofs.RuleLaws.{on_file, file_good}
use Rattle.coko_text.proofs.read.read_rules.Goals as goal

pub returns-clause-only : goal.returns-clause-only
returns-clause-only c x h = answer_only file_at FileText on_file file_good greatest_nesting c.args.text.now file_tree c.read_within.result c.read_within.ensures.found c.read_within.ensures.fault x h

pub returns-clause-only_fault : goal.returns-clause-only_fault
returns-clause-only_fault c at w h = answer_at file_at FileText on_file file_good greatest_nesting c.args.text.now file_tree c.read_within.result c.read_within.ensures.found c.read_within.ensures.fault at w h
