use Rattle.std.proofs.Common.{map, sym, ap, subst, ◌∙◌}
use Rattle.kola_term.specs.TermView.{term_tree}
use Rattle.kola_term.specs.Parts.{sub_tree}
use Rattle.kola_term.specs.Places.{sub_at}
use Rattle.kola_rule.specs.RuleViews.{rule_tree}
use Rattle.kola_match.specs.RuleOk.{RuleOk}
use Rattle.coko_run.specs.Forms.{HasForm}
use Rattle.coko_run.specs.Firing.{Hit, HitBy}
use Rattle.coko_run.proofs.Armed.{each_at}
use Rattle.coko_run.proofs.Cases.{clash}
use Rattle.coko_run.proofs.Fired.{shooting_as, got, by_rule, of_rule, no_form}
use Rattle.coko_run.proofs.fire.fire.Goals as goal

pub returns-then-not-has_form : goal.returns-then-not-has_form
returns-then-not-has_form c = no_form c.args.schema.now (map rule_tree c.args.rules.now) c.args.n c.args.rev (term_tree c.args.whole.now) c.args.path.now (rule_tree c.in-Some.rule.now) (sub_tree c.in-Some-at.part)
    (got c.args.rules.now c.args.n c.in-Some.rule.now c.in-Some.ensures)
    (sym (c.in-Some-at.ensures ∙ (ap (λ z. sub_at z c.as_slice.result.now) c.as_part.ensures ∙ ap (sub_at (term_tree c.args.whole.now)) c.as_slice.ensures)))
    (λ h. clash _ (c.has_form.ensures.1 (subst (λ z. HasForm z (sub_tree c.in-Some-at.part)) (sym (c.as_part-2.ensures ∙ c.pattern_of.ensures)) h)) c.if-not-has_form.true)

pub shot_at-requires-clause-rule : goal.shot_at-requires-clause-rule
shot_at-requires-clause-rule c = each_at (RuleOk c.args.schema.now) (map rule_tree c.args.rules.now) c.args.n (rule_tree c.in-Some.rule.now) c.requires.rules (got c.args.rules.now c.args.n c.in-Some.rule.now c.in-Some.ensures)

pub shot_at-requires-clause-covers : goal.shot_at-requires-clause-covers
shot_at-requires-clause-covers c = c.requires.fires (rule_tree c.in-Some.rule.now) (got c.args.rules.now c.args.n c.in-Some.rule.now c.in-Some.ensures)

pub returns : goal.returns
returns c =
    let S = c.args.schema.now in
    let A = map rule_tree c.args.rules.now in
    let w = term_tree c.args.whole.now in
    let r = rule_tree c.in-Some.rule.now in
    let e = got c.args.rules.now c.args.n c.in-Some.rule.now c.in-Some.ensures in
    shooting_as S (HitBy S r c.args.rev w c.args.path.now) (Hit S A c.args.n c.args.rev w c.args.path.now) (of_rule S A c.args.n c.args.rev w c.args.path.now r e) (by_rule S A c.args.n c.args.rev w c.args.path.now r e) c.shot_at.result c.shot_at.ensures
