use Rattle.std.proofs.Common.{◌≡◌, length, map}
use Rattle.kola_base.specs.Alphabets.{sign}
use Rattle.kola_base.specs.declared.sign.Sign.TheVariants.{Comma}
use Rattle.coko_text.specs.LedReaders.{led, items_from, items_at}
use Rattle.coko_text.specs.RuleReaders.{inj_at}
use Rattle.coko_text.proofs.when.other_injs_of.Given as goal

abbrev pub invariant-loop-names : goal.invariant-loop-names
invariant-loop-names l = items_from (led (sign Comma) (inj_at)) (l.names) l.rest ≡ items_at (led (sign Comma) (inj_at)) l.fn.tokens

abbrev pub decreases-loop-names : goal.decreases-loop-names
decreases-loop-names l = length l.rest
