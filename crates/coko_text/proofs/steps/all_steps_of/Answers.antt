use Rattle.std.proofs.Common.{map, sym, ◌∙◌}
use Rattle.std.proofs.lemmas.Result.{err_from_is_err_and}
use Rattle.kola_base.specs.Alphabets.{sign}
use Rattle.kola_base.specs.declared.sign.Sign.TheVariants.{Equal}
use Rattle.kola_term.specs.ContextView.{context_of}
use Rattle.kola_rule.specs.RuleViews.{step_tree}
use Rattle.coko_text.specs.RuleReaders.{step_at}
use Rattle.coko_text.proofs.ItemLists.{item_shorter, items_end, items_fail, items_more}
use Rattle.coko_text.proofs.RuleLaws.{step_shrinks}
use Rattle.coko_text.proofs.steps.all_steps_of.Goals as goal

pub loop-steps-smaller : goal.loop-steps-smaller
loop-steps-smaller c = item_shorter (sign Equal) (step_at (context_of c.args.vars.now) c.args.levels) (step_shrinks (context_of c.args.vars.now) c.args.levels) (step_tree c.in-Some.step) c.loop-steps.rest c.in_ok-next.behind (rw c.in-Some.is at c.in_ok-next.ensures)

pub loop-steps-preserved : goal.loop-steps-preserved
loop-steps-preserved c =
    items_more (sign Equal) (step_at (context_of c.args.vars.now) c.args.levels) (step_shrinks (context_of c.args.vars.now) c.args.levels) step_tree c.loop-steps.steps c.push.new.self c.in-Some.step c.loop-steps.rest c.in_ok-next.behind c.in_ok-push-in-Some.ensures.ok (rw c.in-Some.is at c.in_ok-next.ensures)
    ∙ c.loop-steps.invariant

pub returns-in-None : goal.returns-in-None
returns-in-None c =
    sym c.loop-steps.invariant
    ∙ items_end (sign Equal) (step_at (context_of c.args.vars.now) c.args.levels) (step_shrinks (context_of c.args.vars.now) c.args.levels) (map step_tree c.loop-steps.steps) c.loop-steps.rest c.in_ok-next.behind (rw c.in-None.is at c.in_ok-next.ensures)

pub returns-in_err-next : goal.returns-in_err-next
returns-in_err-next c =
    let p = err_from_is_err_and c.from_residual.result c.from_residual.ensures.1 in
    rw (p.1, p.2, sym c.loop-steps.invariant) (items_fail (sign Equal) (step_at (context_of c.args.vars.now) c.args.levels) (step_shrinks (context_of c.args.vars.now) c.args.levels) (map step_tree c.loop-steps.steps) c.in_err-next.field-0.0 c.loop-steps.rest c.in_err-next.ensures)
