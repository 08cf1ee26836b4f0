use Rattle.kola_base.proofs.SpelledLaws.{is_found, stop_fault}
use Rattle.coko_text.specs.RuleGrammar.{FileText}
use Rattle.coko_text.specs.RuleReaders.{file_at}
use Rattle.coko_text.specs.RuleViews.{file_tree}
use Rattle.coko_text.proofs.RuleLaws.{on_file, file_good}
use Rattle.kola_rule.specs.RuleViews.{draft_tree}
use Rattle.std.proofs.Common.{map}
use Rattle.coko_text.proofs.read.read_within.Goals as goal

pub returns-in-Ok-clause-found : goal.returns-in-Ok-clause-found
returns-in-Ok-clause-found c =
    is_found file_at FileText on_file file_good c.args.nesting c.args.text.now c.in_ok-tokens.tokens.items c.from_token.result (map draft_tree c.in-Ok.drafts) c.in_ok-tokens.ensures.found (rw c.deref.ensures.value at c.from_token.ensures) c.in-Ok.ensures

pub returns : goal.returns
returns c = record {
  found = tt;
  fault =
      rw c.fault_at.ensures
      (stop_fault file_at FileText on_file file_good c.args.nesting c.args.text.now c.in_ok-tokens.tokens.items c.from_token.result c.in_ok-tokens.ensures.found (rw c.deref.ensures.value at c.from_token.ensures) c.in-Err.stop c.in-Err.ensures);
}
