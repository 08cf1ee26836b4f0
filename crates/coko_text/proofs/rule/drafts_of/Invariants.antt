use Rattle.std.proofs.Common.{◌≡◌, length, map}
use Rattle.kola_base.specs.declared.term_word.TermWord.TheVariants as w
use Rattle.kola_rule.specs.RuleViews.{draft_tree}
use Rattle.coko_text.specs.LedReaders.{led, items_from, items_at}
use Rattle.coko_text.specs.RuleReaders.{is_word, draft_at}
use Rattle.coko_text.proofs.rule.drafts_of.Given as goal

abbrev pub invariant-loop-drafts : goal.invariant-loop-drafts
invariant-loop-drafts l = items_from (led (is_word w.Rule) (draft_at l.fn.levels)) (map draft_tree l.drafts) l.rest ≡ items_at (led (is_word w.Rule) (draft_at l.fn.levels)) l.fn.tokens

abbrev pub decreases-loop-drafts : goal.decreases-loop-drafts
decreases-loop-drafts l = length l.rest
