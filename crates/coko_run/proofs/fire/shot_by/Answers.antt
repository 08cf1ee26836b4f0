use Rattle.std.proofs.Common.{subst, ap, sym, ◌∙◌}
use Rattle.kola_term.specs.TermView.{term_tree}
use Rattle.kola_rule.specs.RuleViews.{rule_tree}
use Rattle.kola_match.specs.Binds.{substitution_of}
use Rattle.kola_match.specs.SubstViews.{found_binds}
use Rattle.coko_run.specs.Firing.{FitsUnit}
use Rattle.coko_run.proofs.Cases.{if_none, if_some, clash}
use Rattle.coko_run.proofs.Fired.{hit_with, side_kind}
use Rattle.coko_run.proofs.fire.shot_by.Goals as goal

pub returns-in_default : goal.returns-in_default
returns-in_default c = λ c' h. if_none _ c.in_default.is c.in_ok-new.ensures.none _ c.requires.by.from (side_kind c.args.schema.now (rule_tree c.args.rule.now) c.args.rev (term_tree c.args.whole.now) c.args.path.now (substitution_of (found_binds c.args.s.now)) (term_tree c.deref.result.now) c.requires.rule (ap term_tree c.deref.ensures ∙ c.in_ok-side.ensures))

pub returns-then-branch : goal.returns-then-branch
returns-then-branch c = (hit_with c.args.schema.now (rule_tree c.args.rule.now) c.args.rev (term_tree c.args.whole.now) c.args.path.now (substitution_of (found_binds c.args.s.now)) (term_tree c.deref.result.now) (term_tree c.in-Some.new.value) c.requires.by c.requires.shown (ap term_tree c.deref.ensures ∙ c.in_ok-side.ensures) (if_some _ _ _ c.in-Some.is c.in_ok-new.ensures.some), subst (FitsUnit c.args.schema.now) (ap term_tree c.deref-2.ensures) (c.in_ok-fits_unit.ensures.0 c.if-branch.true))

pub returns : goal.returns
returns c = (term_tree c.in-Some.new.value, hit_with c.args.schema.now (rule_tree c.args.rule.now) c.args.rev (term_tree c.args.whole.now) c.args.path.now (substitution_of (found_binds c.args.s.now)) (term_tree c.deref.result.now) (term_tree c.in-Some.new.value) c.requires.by c.requires.shown (ap term_tree c.deref.ensures ∙ c.in_ok-side.ensures) (if_some _ _ _ c.in-Some.is c.in_ok-new.ensures.some), λ f. clash _ (c.in_ok-fits_unit.ensures.1 (subst (FitsUnit c.args.schema.now) (sym (ap term_tree c.deref-2.ensures)) f)) c.if-branch.false)
