use Rattle.std.proofs.Common.{◌∙◌}
use Rattle.kola_base.specs.declared.term_word.TermWord.TheVariants as w
use Rattle.kola_rule.specs.RuleViews.{draft_tree}
use Rattle.coko_text.specs.RuleReaders.{is_word, draft_at}
use Rattle.coko_text.proofs.ItemLists.{item_shorter, items_more}
use Rattle.coko_text.proofs.RuleLaws.{draft_shrinks}
use Rattle.coko_text.proofs.rule.drafts_of.Goals as goal

pub loop-drafts-smaller : goal.loop-drafts-smaller
loop-drafts-smaller c = item_shorter (is_word w.Rule) (draft_at c.args.levels) (draft_shrinks c.args.levels) (draft_tree c.in-Some.draft) c.loop-drafts.rest c.in_ok-next.behind (rw c.in-Some.is at c.in_ok-next.ensures)

pub loop-drafts-preserved : goal.loop-drafts-preserved
loop-drafts-preserved c =
    items_more (is_word w.Rule) (draft_at c.args.levels) (draft_shrinks c.args.levels) draft_tree c.loop-drafts.drafts c.push.new.self c.in-Some.draft c.loop-drafts.rest c.in_ok-next.behind c.in_ok-push-in-Some.ensures.ok (rw c.in-Some.is at c.in_ok-next.ensures)
    ∙ c.loop-drafts.invariant
