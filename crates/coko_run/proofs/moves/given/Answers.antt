use Rattle.std.proofs.Common.{sym, subst}
use Rattle.kola_term.specs.Places.{sub_at}
use Rattle.kola_term.specs.TermView.{term_tree}
use Rattle.coko_run.specs.Firing.{world}
use Rattle.coko_run.specs.Forms.{FormAt}
use Rattle.coko_run.proofs.Cases.{clash}
use Rattle.coko_run.proofs.Arms.{given_none, given_some, given_not}
use Rattle.coko_run.proofs.moves.given.Goals as goal

pub returns-then-m-eq0 : goal.returns-then-m-eq0
returns-then-m-eq0 c = λ S A as' e. given_none (world S A) _ (term_tree c.args.pattern.now) as' _ _ _ _ _ e c.if-m-eq0.true

pub returns-then-has_form_at : goal.returns-then-has_form_at
returns-then-has_form_at c = λ S A as' e. given_some (world S A) _ (term_tree c.args.pattern.now) as' _ _ _ _ _ e c.if-m-eq0.false (subst (λ z. FormAt (term_tree c.args.pattern.now) (sub_at (term_tree z) c.args.path)) c.deref.ensures (c.has_form_at.ensures.0 c.if-has_form_at.true))

pub returns : goal.returns
returns c = λ S A as' e. given_not (world S A) _ (term_tree c.args.pattern.now) as' _ _ _ _ _ e c.if-m-eq0.false (λ f. clash _ (c.has_form_at.ensures.1 (subst (λ z. FormAt (term_tree c.args.pattern.now) (sub_at (term_tree z) c.args.path)) (sym c.deref.ensures) f)) c.if-has_form_at.false)
