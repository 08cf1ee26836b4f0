use Rattle.std.proofs.Common.{◌∙◌}
use Rattle.kola_base.specs.Alphabets.{sign}
use Rattle.kola_base.specs.declared.sign.Sign.TheVariants.{Comma}
use Rattle.coko_text.specs.RuleReaders.{inj_at}
use Rattle.coko_text.proofs.ItemLists.{item_shorter, more_items}
use Rattle.coko_text.proofs.RuleLaws.{inj_shrinks}
use Rattle.coko_text.proofs.when.other_injs_of.Goals as goal

pub loop-names-smaller : goal.loop-names-smaller
loop-names-smaller c = item_shorter (sign Comma) (inj_at) (inj_shrinks) c.in-Some.name c.loop-names.rest c.in_ok-next.behind (rw c.in-Some.is at c.in_ok-next.ensures)

pub loop-names-preserved : goal.loop-names-preserved
loop-names-preserved c =
    more_items (sign Comma) (inj_at) (inj_shrinks) c.loop-names.names c.push.new.self c.in-Some.name c.loop-names.rest c.in_ok-next.behind c.in_ok-push-in-Some.ensures.ok (rw c.in-Some.is at c.in_ok-next.ensures)
    ∙ c.loop-names.invariant
