use Rattle.std.proofs.Common.{◌≡◌, length}
use Rattle.kola_base.specs.Alphabets.{sign}
use Rattle.kola_base.specs.declared.sign.Sign.TheVariants.{Dot}
use Rattle.coko_text.specs.LedReaders.{led, items_from, items_at}
use Rattle.coko_text.specs.RuleReaders.{child_at}
use Rattle.coko_text.proofs.paths.children_of.Given as goal

abbrev pub invariant-loop-path : goal.invariant-loop-path
invariant-loop-path l = items_from (led (sign Dot) (child_at)) (l.path) l.rest ≡ items_at (led (sign Dot) (child_at)) l.fn.tokens

abbrev pub decreases-loop-path : goal.decreases-loop-path
decreases-loop-path l = length l.rest
