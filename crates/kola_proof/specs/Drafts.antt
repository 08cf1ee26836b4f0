-- When a rule with its proof is right, and what is wrong with it first: the number of a step, counted from 1, or 0, and the cause.
use Rattle.std.specs.Prelude.{ℕ, suc, List, [], ◌∷◌, ◌++◌, Some, None, ◌≡◌}
use Rattle.kola_values.specs.Databases.{Classes}
use Rattle.kola_term.specs.Terms.{TermTree}
use Rattle.kola_rule.specs.Rules.{RuleTree, StepTree, DraftTree}
use Rattle.kola_match.specs.RuleOk.{RuleOk}
use Rattle.kola_proof.specs.Steps.{rule_named, StepOk, StepBad}
use Rattle.kola_proof.specs.declared.fault.StepWhy.{StepWhy}
use Rattle.kola_proof.specs.declared.fault.StepWhy.TheVariants as why

-- from b the steps lead to the right side
pub data StepsOk (S : Classes) (rules : List RuleTree) (o : RuleTree) : TermTree → List StepTree → Type 0 where
  end : {b : TermTree} → b ≡ o.right → StepsOk S rules o b []
  more : {b : TermTree} {k : StepTree} {ks : List StepTree} → StepOk S rules o b k → StepsOk S rules o k.term ks → StepsOk S rules o b (k ∷ ks)

-- from b, which the n-th step came to, the steps have the first fault at the m-th
pub data StepsBad (S : Classes) (rules : List RuleTree) (o : RuleTree) : TermTree → ℕ → List StepTree → ℕ → StepWhy → Type 0 where
  now : {b : TermTree} {n : ℕ} {k : StepTree} {ks : List StepTree} {w : StepWhy} → StepBad S rules o b k w → StepsBad S rules o b n (k ∷ ks) (suc n) w
  later : {b : TermTree} {n m : ℕ} {k : StepTree} {ks : List StepTree} {w : StepWhy} → StepOk S rules o b k → StepsBad S rules o k.term (suc n) ks m w → StepsBad S rules o b n (k ∷ ks) m w
  last : {b : TermTree} {n : ℕ} → (b ≡ o.right → ⊥) → StepsBad S rules o b n [] n why.LastIsNotRight

-- no rule has the name, the rule is well typed, and its proof leads from the left side to the right
pub record Valid (S : Classes) (rules : List RuleTree) (d : DraftTree) : Type 0 where
  pub free : rule_named rules d.rule.name ≡ None
  pub well_typed : RuleOk S d.rule
  pub first : d.first ≡ d.rule.left
  pub steps : StepsOk S rules d.rule d.first d.steps

pub data FirstBad (S : Classes) (rules : List RuleTree) (d : DraftTree) : ℕ → StepWhy → Type 0 where
  name_taken : (r : RuleTree) → rule_named rules d.rule.name ≡ Some r → FirstBad S rules d 0 why.NameTaken
  rule_ill_typed : rule_named rules d.rule.name ≡ None → (RuleOk S d.rule → ⊥) → FirstBad S rules d 0 why.RuleIllTyped
  first_is_not_left : rule_named rules d.rule.name ≡ None → RuleOk S d.rule → (d.first ≡ d.rule.left → ⊥) → FirstBad S rules d 0 why.FirstIsNotLeft
  in_the_steps : {n : ℕ} {w : StepWhy} → rule_named rules d.rule.name ≡ None → RuleOk S d.rule → d.first ≡ d.rule.left → StepsBad S rules d.rule d.first 0 d.steps n w → FirstBad S rules d n w

-- ---- the drafts of a file, in their order

-- each is valid by the rules and those of the drafts before it
pub data AreValid (S : Classes) : List RuleTree → List DraftTree → Type 0 where
  no_draft : {rules : List RuleTree} → AreValid S rules []
  valid_draft : {rules : List RuleTree} {d : DraftTree} {ds : List DraftTree} → Valid S rules d → AreValid S (rules ++ d.rule ∷ []) ds → AreValid S rules (d ∷ ds)

-- the first that has a fault by the rules and those of the drafts before it: the name of its rule, with the number of the step and the cause
pub data FirstBadDraft (S : Classes) : List RuleTree → List DraftTree → List ℕ → ℕ → StepWhy → Type 0 where
  bad_draft : {rules : List RuleTree} {d : DraftTree} {ds : List DraftTree} {n : ℕ} {w : StepWhy} → FirstBad S rules d n w → FirstBadDraft S rules (d ∷ ds) d.rule.name n w
  later_draft : {rules : List RuleTree} {d : DraftTree} {ds : List DraftTree} {m : List ℕ} {n : ℕ} {w : StepWhy} → Valid S rules d → FirstBadDraft S (rules ++ d.rule ∷ []) ds m n w → FirstBadDraft S rules (d ∷ ds) m n w
