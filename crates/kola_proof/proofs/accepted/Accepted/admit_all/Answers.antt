use Rattle.std.proofs.Common.{◌≡◌, List, [], ◌∷◌, Err, length, map, refl, sym, ap, ◌∙◌, subst, rules, arith}
use Rattle.std.proofs.lemmas.Result.{err_from_is_err_and}
use Rattle.kola_rule.specs.RuleViews.{rule_tree, draft_tree}
use Rattle.kola_proof.specs.Accepting.{IsVerdict}
use Rattle.kola_proof.specs.Drafts.{Valid}
use Rattle.kola_proof.proofs.FileLaws.{all_left, same_left, one_less, refused_file, all_valid}
use Rattle.kola_proof.proofs.accepted.Accepted.admit_all.Goals as goal

nothing_left : {X : Type 0} (l : List X) → length l ≡ 0 → l ≡ []
nothing_left [] h = refl
nothing_left (x ∷ xs) h = absurd (omega arith)

pub loop-draft-init : goal.loop-draft-init
loop-draft-init c = (tt, tt, refl, same_left _ _ _ _ _ _ _ refl (search rules) (all_left _ _ _), search rules)

pub loop-draft-preserved : goal.loop-draft-preserved
loop-draft-preserved c =
    let v = c.in_ok-admit.ensures.verdict.0 in (
      tt,
      tt,
      c.in_ok-admit.ensures.schema ∙ c.loop-draft.invariant.2,
      one_less _ _ _ c.loop-draft.self.rules c.in-Some.draft _ (same_left _ _ _ _ _ _ _ refl c.in-Some.ensures.steps.0 c.loop-draft.invariant.3) _ c.in_ok-admit.ensures.grown
          (subst (λ z. Valid z (map rule_tree c.loop-draft.self.rules) (draft_tree c.in-Some.draft)) c.loop-draft.invariant.2 v),
      let was = c.loop-draft.invariant.4 in
          let gone = c.in-Some.ensures.steps.1 in
          let short = ap length c.in-Some.ensures.steps.0 in
          omega arith,
    )

pub returns-in_err-admit-clause-verdict : goal.returns-in_err-admit-clause-verdict
returns-in_err-admit-clause-verdict c =
    let p = err_from_is_err_and c.from_residual.result c.from_residual.ensures.1 in
    let f = c.in_err-admit.field-0.0 in
    rw (p.1, p.2) (refused_file _ _ _ c.loop-draft.self.rules c.in-Some.draft _ (same_left _ _ _ _ _ _ _ refl c.in-Some.ensures.steps.0 c.loop-draft.invariant.3) f c.in_err-admit.ensures.handed_back
    (subst (λ z. IsVerdict {A = Unit} z (map rule_tree c.loop-draft.self.rules) (draft_tree c.in-Some.draft) (Err f)) c.loop-draft.invariant.2 c.in_err-admit.ensures.verdict))

pub returns-clause-verdict : goal.returns-clause-verdict
returns-clause-verdict c = all_valid _ _ _ c.loop-draft.self.rules _ (nothing_left _ (sym c.loop-draft.invariant.4 ∙ c.in-None.ensures.steps.0)) c.loop-draft.invariant.3
