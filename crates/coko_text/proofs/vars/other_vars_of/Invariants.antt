use Rattle.std.proofs.Common.{◌≡◌, length, map}
use Rattle.kola_base.specs.Alphabets.{sign}
use Rattle.kola_base.specs.declared.sign.Sign.TheVariants.{Comma}
use Rattle.kola_term.specs.ContextView.{context_of}
use Rattle.coko_text.specs.LedReaders.{led, items_from, items_at}
use Rattle.coko_text.specs.RuleReaders.{var_at}
use Rattle.coko_text.proofs.vars.other_vars_of.Given as goal

abbrev pub invariant-loop-vars : goal.invariant-loop-vars
invariant-loop-vars l = items_from (led (sign Comma) (var_at l.fn.levels)) (context_of l.vars) l.rest ≡ items_at (led (sign Comma) (var_at l.fn.levels)) l.fn.tokens

abbrev pub decreases-loop-vars : goal.decreases-loop-vars
decreases-loop-vars l = length l.rest
