use Rattle.std.proofs.Common.{◌∙◌}
use Rattle.kola_base.specs.Alphabets.{sign}
use Rattle.kola_base.specs.declared.sign.Sign.TheVariants.{Comma}
use Rattle.kola_term.specs.ContextView.{meta_entry}
use Rattle.coko_text.specs.RuleReaders.{var_at}
use Rattle.coko_text.proofs.ItemLists.{item_shorter, items_more}
use Rattle.coko_text.proofs.RuleLaws.{var_shrinks}
use Rattle.coko_text.proofs.vars.other_vars_of.Goals as goal

pub loop-vars-smaller : goal.loop-vars-smaller
loop-vars-smaller c = item_shorter (sign Comma) (var_at c.args.levels) (var_shrinks c.args.levels) (meta_entry c.in-Some.var) c.loop-vars.rest c.in_ok-next.behind (rw c.in-Some.is at c.in_ok-next.ensures)

pub loop-vars-preserved : goal.loop-vars-preserved
loop-vars-preserved c =
    items_more (sign Comma) (var_at c.args.levels) (var_shrinks c.args.levels) meta_entry c.loop-vars.vars c.push.new.self c.in-Some.var c.loop-vars.rest c.in_ok-next.behind c.in_ok-push-in-Some.ensures.ok (rw c.in-Some.is at c.in_ok-next.ensures)
    ∙ c.loop-vars.invariant
