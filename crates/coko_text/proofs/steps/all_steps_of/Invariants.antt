use Rattle.std.proofs.Common.{◌≡◌, length, map}
use Rattle.kola_base.specs.Alphabets.{sign}
use Rattle.kola_base.specs.declared.sign.Sign.TheVariants.{Equal}
use Rattle.kola_term.specs.ContextView.{context_of}
use Rattle.kola_rule.specs.RuleViews.{step_tree}
use Rattle.coko_text.specs.LedReaders.{led, items_from, items_at}
use Rattle.coko_text.specs.RuleReaders.{step_at}
use Rattle.coko_text.proofs.steps.all_steps_of.Given as goal

abbrev pub invariant-loop-steps : goal.invariant-loop-steps
invariant-loop-steps l = items_from (led (sign Equal) (step_at (context_of l.vars) l.fn.levels)) (map step_tree l.steps) l.rest ≡ items_at (led (sign Equal) (step_at (context_of l.vars) l.fn.levels)) l.fn.tokens

abbrev pub decreases-loop-steps : goal.decreases-loop-steps
decreases-loop-steps l = length l.rest
