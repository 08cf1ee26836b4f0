-- A draft is valid or has one first fault.
use Rattle.std.proofs.Common.{◌≡◌, ℕ, suc, Option, Some, None, refl, sym, ◌∙◌, subst, List, [], ◌∷◌}
use Rattle.kola_values.specs.Databases.{Classes}
use Rattle.kola_term.specs.Terms.{TermTree}
use Rattle.kola_term.proofs.Inversions.{some_same}
use Rattle.kola_rule.specs.Rules.{RuleTree, StepTree, DraftTree}
use Rattle.kola_match.specs.Substitutions.{Substitution}
use Rattle.kola_proof.specs.Steps.{rule_named, ByInstance, AllShown, StepOk, StepBad, unknown_law, no_such_path, step_ill_typed, no_instance, condition_not_shown}
use Rattle.kola_proof.specs.Drafts.{StepsOk, end, more, StepsBad, now, later, last, Valid, FirstBad, name_taken, rule_ill_typed, first_is_not_left, in_the_steps}
use Rattle.kola_proof.specs.declared.fault.StepWhy.{StepWhy}

none_and_some : (o : Option RuleTree) (l : RuleTree) → o ≡ None → o ≡ Some l → ⊥
none_and_some o l e f = let q : None ≡ Some l = sym e ∙ f in cc

module _ (S : Classes) (rules : List RuleTree) (o : RuleTree) where
  -- ---- one step

  module _ (b : TermTree) (k : StepTree) where
    one_law : (l m : RuleTree) → rule_named rules k.law ≡ Some l → rule_named rules k.law ≡ Some m → l ≡ m
    one_law l m e f = some_same l m (sym e ∙ f)

    by_one : (l m : RuleTree) (s : Substitution) → rule_named rules k.law ≡ Some l → rule_named rules k.law ≡ Some m → ByInstance S o.vars o.input l k.rev k.path b k.term s → ByInstance S o.vars o.input m k.rev k.path b k.term s
    by_one l m s e f p = subst (λ z. ByInstance S o.vars o.input z k.rev k.path b k.term s) (one_law l m e f) p

    shown_one : (l m : RuleTree) (s : Substitution) → rule_named rules k.law ≡ Some l → rule_named rules k.law ≡ Some m → AllShown S o.vars o.when l s → AllShown S o.vars o.when m s
    shown_one l m s e f p = subst (λ z. AllShown S o.vars o.when z s) (one_law l m e f) p

    pub step_not_both : {w : StepWhy} → StepOk S rules o b k → StepBad S rules o b k w → ⊥
    step_not_both p (unknown_law e) = none_and_some _ p.law e p.named
    step_not_both p (no_such_path l e h) = h p.part
    step_not_both p (step_ill_typed l e i h) = h p.fits
    step_not_both p (no_instance l e i f h) = h p.s (by_one p.law l p.s p.named e p.by)
    step_not_both p (condition_not_shown l s e i f y h) = h p.s (by_one p.law l p.s p.named e p.by) (shown_one p.law l p.s p.named e p.shown)

    step_one : {w v : StepWhy} → StepBad S rules o b k w → StepBad S rules o b k v → w ≡ v
    step_one (unknown_law e1) (unknown_law e2) = refl
    step_one (unknown_law e1) (no_such_path l2 e2 h2) = absurd (none_and_some _ l2 e1 e2)
    step_one (unknown_law e1) (step_ill_typed l2 e2 i2 h2) = absurd (none_and_some _ l2 e1 e2)
    step_one (unknown_law e1) (no_instance l2 e2 i2 f2 h2) = absurd (none_and_some _ l2 e1 e2)
    step_one (unknown_law e1) (condition_not_shown l2 s2 e2 i2 f2 y2 h2) = absurd (none_and_some _ l2 e1 e2)
    step_one (no_such_path l1 e1 h1) (unknown_law e2) = absurd (none_and_some _ l1 e2 e1)
    step_one (no_such_path l1 e1 h1) (no_such_path l2 e2 h2) = refl
    step_one (no_such_path l1 e1 h1) (step_ill_typed l2 e2 i2 h2) = absurd (h1 i2)
    step_one (no_such_path l1 e1 h1) (no_instance l2 e2 i2 f2 h2) = absurd (h1 i2)
    step_one (no_such_path l1 e1 h1) (condition_not_shown l2 s2 e2 i2 f2 y2 h2) = absurd (h1 i2)
    step_one (step_ill_typed l1 e1 i1 h1) (unknown_law e2) = absurd (none_and_some _ l1 e2 e1)
    step_one (step_ill_typed l1 e1 i1 h1) (no_such_path l2 e2 h2) = absurd (h2 i1)
    step_one (step_ill_typed l1 e1 i1 h1) (step_ill_typed l2 e2 i2 h2) = refl
    step_one (step_ill_typed l1 e1 i1 h1) (no_instance l2 e2 i2 f2 h2) = absurd (h1 f2)
    step_one (step_ill_typed l1 e1 i1 h1) (condition_not_shown l2 s2 e2 i2 f2 y2 h2) = absurd (h1 f2)
    step_one (no_instance l1 e1 i1 f1 h1) (unknown_law e2) = absurd (none_and_some _ l1 e2 e1)
    step_one (no_instance l1 e1 i1 f1 h1) (no_such_path l2 e2 h2) = absurd (h2 i1)
    step_one (no_instance l1 e1 i1 f1 h1) (step_ill_typed l2 e2 i2 h2) = absurd (h2 f1)
    step_one (no_instance l1 e1 i1 f1 h1) (no_instance l2 e2 i2 f2 h2) = refl
    step_one (no_instance l1 e1 i1 f1 h1) (condition_not_shown l2 s2 e2 i2 f2 y2 h2) = absurd (h1 s2 (by_one l2 l1 s2 e2 e1 y2))
    step_one (condition_not_shown l1 s1 e1 i1 f1 y1 h1) (unknown_law e2) = absurd (none_and_some _ l1 e2 e1)
    step_one (condition_not_shown l1 s1 e1 i1 f1 y1 h1) (no_such_path l2 e2 h2) = absurd (h2 i1)
    step_one (condition_not_shown l1 s1 e1 i1 f1 y1 h1) (step_ill_typed l2 e2 i2 h2) = absurd (h2 f1)
    step_one (condition_not_shown l1 s1 e1 i1 f1 y1 h1) (no_instance l2 e2 i2 f2 h2) = absurd (h2 s1 (by_one l1 l2 s1 e1 e2 y1))
    step_one (condition_not_shown l1 s1 e1 i1 f1 y1 h1) (condition_not_shown l2 s2 e2 i2 f2 y2 h2) = refl

    pub step_some : (StepOk S rules o b k → ⊥) → ((w : StepWhy) → StepBad S rules o b k w → ⊥) → ⊥
    step_some refuse bad = at (rule_named rules k.law) refl
      where
        at : (l : Option RuleTree) → rule_named rules k.law ≡ l → ⊥
        at None e = bad _ (unknown_law e)
        at (Some l) e = bad _ (no_such_path l e (λ part. bad _ (step_ill_typed l e part (λ fits. bad _ (no_instance l e part fits (λ s by. bad _ (condition_not_shown l s e part fits by (λ t byt shown.
            refuse (record { law = l; named = e; part = part; fits = fits; s = t; by = byt; shown = shown })))))))))

  -- ---- all steps

  pub steps_not_both : {b : TermTree} {n m : ℕ} {ks : List StepTree} {w : StepWhy} → StepsOk S rules o b ks → StepsBad S rules o b n ks m w → ⊥
  steps_not_both (end e) (last h) = h e
  steps_not_both (more {b = b} {k = k} p q) (now r) = step_not_both b k p r
  steps_not_both (more p q) (later r s) = steps_not_both q s

  pub steps_one : {b : TermTree} {n m j : ℕ} {ks : List StepTree} {w v : StepWhy} → StepsBad S rules o b n ks m w → StepsBad S rules o b n ks j v → (m ≡ j) × (w ≡ v)
  steps_one (now {b = b} {k = k} p) (now q) = (refl, step_one b k p q)
  steps_one (now {b = b} {k = k} p) (later q r) = absurd (step_not_both b k q p)
  steps_one (later {b = b} {k = k} q r) (now p) = absurd (step_not_both b k q p)
  steps_one (later p r) (later q s) = steps_one r s
  steps_one (last h) (last i) = (refl, refl)

  pub steps_some : (ks : List StepTree) (b : TermTree) (n : ℕ) → (StepsOk S rules o b ks → ⊥) → ((m : ℕ) (w : StepWhy) → StepsBad S rules o b n ks m w → ⊥) → ⊥
  steps_some [] b n refuse bad = bad n _ (last (λ e. refuse (end e)))
  steps_some (k ∷ ks) b n refuse bad = step_some b k (λ p. steps_some ks k.term (suc n) (λ q. refuse (more p q)) (λ m w r. bad m w (later p r))) (λ w r. bad (suc n) w (now r))

-- ---- the draft

module _ (S : Classes) (rules : List RuleTree) (d : DraftTree) where
  pub draft_not_both : {n : ℕ} {w : StepWhy} → Valid S rules d → FirstBad S rules d n w → ⊥
  draft_not_both v (name_taken r e) = none_and_some _ r v.free e
  draft_not_both v (rule_ill_typed e h) = h v.well_typed
  draft_not_both v (first_is_not_left e i h) = h v.first
  draft_not_both v (in_the_steps e i f h) = steps_not_both S rules d.rule v.steps h

  pub draft_one : {n m : ℕ} {w v : StepWhy} → FirstBad S rules d n w → FirstBad S rules d m v → (n ≡ m) × (w ≡ v)
  draft_one (name_taken r e) (name_taken s f) = (refl, refl)
  draft_one (name_taken r e) (rule_ill_typed f h) = absurd (none_and_some _ r f e)
  draft_one (name_taken r e) (first_is_not_left f i h) = absurd (none_and_some _ r f e)
  draft_one (name_taken r e) (in_the_steps f i j h) = absurd (none_and_some _ r f e)
  draft_one (rule_ill_typed f h) (name_taken r e) = absurd (none_and_some _ r f e)
  draft_one (rule_ill_typed f h) (rule_ill_typed g k) = (refl, refl)
  draft_one (rule_ill_typed f h) (first_is_not_left g i k) = absurd (h i)
  draft_one (rule_ill_typed f h) (in_the_steps g i j k) = absurd (h i)
  draft_one (first_is_not_left f i h) (name_taken r e) = absurd (none_and_some _ r f e)
  draft_one (first_is_not_left f i h) (rule_ill_typed g k) = absurd (k i)
  draft_one (first_is_not_left f i h) (first_is_not_left g j k) = (refl, refl)
  draft_one (first_is_not_left f i h) (in_the_steps g j l k) = absurd (h l)
  draft_one (in_the_steps f i j h) (name_taken r e) = absurd (none_and_some _ r f e)
  draft_one (in_the_steps f i j h) (rule_ill_typed g k) = absurd (k i)
  draft_one (in_the_steps f i j h) (first_is_not_left g l k) = absurd (k j)
  draft_one (in_the_steps f i j h) (in_the_steps g l p k) = steps_one S rules d.rule h k

  pub draft_some : (Valid S rules d → ⊥) → ((n : ℕ) (w : StepWhy) → FirstBad S rules d n w → ⊥) → ⊥
  draft_some refuse bad = at (rule_named rules d.rule.name) refl
    where
      at : (r : Option RuleTree) → rule_named rules d.rule.name ≡ r → ⊥
      at (Some r) e = bad 0 _ (name_taken r e)
      at None e = bad 0 _ (rule_ill_typed e (λ ok. bad 0 _ (first_is_not_left e ok (λ f. steps_some S rules d.rule d.steps d.first 0 (λ q. refuse (record { free = e; well_typed = ok; first = f; steps = q })) (λ m w r. bad m w (in_the_steps e ok f r))))))
