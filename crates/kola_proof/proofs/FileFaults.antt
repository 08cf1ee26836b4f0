-- The drafts of a file are valid or one of them is the first that has a fault.
use Rattle.std.proofs.Common.{◌≡◌, ℕ, refl, List, [], ◌∷◌, ◌++◌}
use Rattle.kola_values.specs.Databases.{Classes}
use Rattle.kola_rule.specs.Rules.{RuleTree, DraftTree}
use Rattle.kola_proof.specs.Drafts.{AreValid, no_draft, valid_draft, FirstBadDraft, bad_draft, later_draft}
use Rattle.kola_proof.specs.declared.fault.StepWhy.{StepWhy}
use Rattle.kola_proof.proofs.Faults.{draft_some, draft_not_both, draft_one}

module _ (S : Classes) where
  pub file_not_both : {rules : List RuleTree} {ds : List DraftTree} {m : List ℕ} {n : ℕ} {w : StepWhy} → AreValid S rules ds → FirstBadDraft S rules ds m n w → ⊥
  file_not_both no_draft b = elim b [ ]
  file_not_both (valid_draft {rules = rules} {d = d} v vs) (bad_draft b) = draft_not_both S rules d v b
  file_not_both (valid_draft v vs) (later_draft u b) = file_not_both vs b

  pub file_one : {rules : List RuleTree} {ds : List DraftTree} {m k : List ℕ} {n j : ℕ} {w v : StepWhy} → FirstBadDraft S rules ds m n w → FirstBadDraft S rules ds k j v → (m ≡ k) × (n ≡ j) × (w ≡ v)
  file_one (bad_draft {rules = rules} {d = d} b) (bad_draft c) = let e = draft_one S rules d b c in (refl, e.0, e.1)
  file_one (bad_draft {rules = rules} {d = d} b) (later_draft v c) = absurd (draft_not_both S rules d v b)
  file_one (later_draft {rules = rules} {d = d} v b) (bad_draft c) = absurd (draft_not_both S rules d v c)
  file_one (later_draft v b) (later_draft u c) = file_one b c

  pub file_some : (rules : List RuleTree) (ds : List DraftTree) → (AreValid S rules ds → ⊥) → ((m : List ℕ) (n : ℕ) (w : StepWhy) → FirstBadDraft S rules ds m n w → ⊥) → ⊥
  file_some rules [] refuse bad = refuse no_draft
  file_some rules (d ∷ ds) refuse bad = draft_some S rules d (λ v. file_some (rules ++ d.rule ∷ []) ds (λ vs. refuse (valid_draft v vs)) (λ m n w b. bad m n w (later_draft v b))) (λ n w b. bad d.rule.name n w (bad_draft b))
