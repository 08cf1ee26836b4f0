use Rattle.std.proofs.Common.{map, subst}
use Rattle.kola_term.specs.TermView.{term_tree}
use Rattle.kola_rule.specs.RuleViews.{rule_tree}
use Rattle.coko_run.specs.Firing.{world, Hit}
use Rattle.coko_run.specs.Fires.{IsShooting}
use Rattle.coko_run.proofs.Cases.{missed_unkept}
use Rattle.coko_run.proofs.Arms.{fire_none, fire_some, fire_size, fire_miss}
use Rattle.coko_run.proofs.moves.attempt.Goals as goal

pub returns-then-m-eq0 : goal.returns-then-m-eq0
returns-then-m-eq0 c = fire_none (world c.args.schema.now (map rule_tree c.args.rules.now)) c.args.n c.args.rev _ c.args.path _ _ _ c.if-m-eq0.true

pub returns-in-Miss : goal.returns-in-Miss
returns-in-Miss c =
    let S = c.args.schema.now in
    let A = map rule_tree c.args.rules.now in
    let shot = subst (λ z. IsShooting S (Hit S A c.args.n c.args.rev (term_tree c.args.m.now.whole.value) c.args.path) z) c.in-Miss.is
    (subst (λ z. IsShooting S (Hit S A c.args.n c.args.rev (term_tree z) c.args.path) c.in_ok-fire.field-0) c.deref.ensures c.in_ok-fire.ensures) in
    fire_miss (world S A) c.args.n c.args.rev _ c.args.path _ _ _ c.if-m-eq0.false shot (missed_unkept _ _ _ c.args.n c.args.rev)

pub returns-in-Size : goal.returns-in-Size
returns-in-Size c =
    let S = c.args.schema.now in
    let A = map rule_tree c.args.rules.now in
    let shot = subst (λ z. IsShooting S (Hit S A c.args.n c.args.rev (term_tree c.args.m.now.whole.value) c.args.path) z) c.in-Size.is
    (subst (λ z. IsShooting S (Hit S A c.args.n c.args.rev (term_tree z) c.args.path) c.in_ok-fire.field-0) c.deref.ensures c.in_ok-fire.ensures) in
    fire_size (world S A) c.args.n c.args.rev _ shot.0 c.args.path _ _ _ c.if-m-eq0.false shot.1 shot.2

pub returns-in_ok-note-in-Hit : goal.returns-in_ok-note-in-Hit
returns-in_ok-note-in-Hit c =
    let S = c.args.schema.now in
    let A = map rule_tree c.args.rules.now in
    let shot = subst (λ z. IsShooting S (Hit S A c.args.n c.args.rev (term_tree c.args.m.now.whole.value) c.args.path) z) c.in-Hit.is
    (subst (λ z. IsShooting S (Hit S A c.args.n c.args.rev (term_tree z) c.args.path) c.in_ok-fire.field-0) c.deref.ensures c.in_ok-fire.ensures) in
    fire_some (world S A) c.args.n c.args.rev _ (term_tree c.in-Hit.new.value) c.args.path _ _ _ _ c.if-m-eq0.false shot.0 shot.1 c.in_ok-note-in-Hit.ensures
