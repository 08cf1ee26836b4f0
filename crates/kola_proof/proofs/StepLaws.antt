-- What the check of a step says of the steps, and of the draft.
use Rattle.std.proofs.Common.{◌≡◌, ℕ, suc, ◌+◌, Some, None, Result, Ok, Err, sym, ap, ◌∙◌, subst, List, [], ◌∷◌, add-one}
use Rattle.kola_values.specs.Databases.{Classes}
use Rattle.kola_term.specs.Terms.{TermTree}
use Rattle.kola_term.specs.Places.{sub_at}
use Rattle.kola_rule.specs.Rules.{RuleTree, StepTree, DraftTree}
use Rattle.kola_match.specs.RuleOk.{RuleOk, SidesFit}
use Rattle.kola_proof.specs.Steps.{rule_named, IsPlace, StepOk, StepBad, no_such_path, no_instance, condition_not_shown}
use Rattle.kola_proof.specs.Drafts.{StepsOk, end, more, StepsBad, now, later, last, in_the_steps}
use Rattle.kola_proof.specs.Checks.{IsInputAt, IsByLaw, IsStep, AreSteps, numbered, IsCheck}
use Rattle.kola_proof.specs.declared.fault.StepWhy.{StepWhy}
use Rattle.kola_proof.specs.declared.fault.StepWhy.TheVariants as why
use Rattle.kola_proof.specs.declared.fault.CheckFault.{CheckFault}
use Rattle.kola_proof.specs.declared.fault.CheckFault.TheVariants as check
use Rattle.kola_proof.specs.declared.fault.StepFault.{StepFault}
use Rattle.kola_proof.specs.declared.fault.StepFault.TheVariants as fault

-- what is known before the i-th step, from 0, of all: the term before it fits, and what is said of the steps from there is said of all
pub record Underway (S : Classes) (rules : List RuleTree) (o : RuleTree) (first : TermTree) (all : List StepTree) (b : TermTree) (n : ℕ) (rest : List StepTree) : Type 0 where
  pub fits : SidesFit S o.vars o.input o.left b
  pub ok : StepsOk S rules o b rest → StepsOk S rules o first all
  pub bad : (m : ℕ) (w : StepWhy) → StepsBad S rules o b n rest m w → StepsBad S rules o first 0 all m w

module _ (S : Classes) (rules : List RuleTree) (o law : RuleTree) (b : TermTree) (k : StepTree) (named : rule_named rules k.law ≡ Some law) (part : IsPlace (sub_at b k.path)) (fits : SidesFit S o.vars o.input o.left k.term) where
  pub step_is : (result : Result Unit StepFault) → IsByLaw S o law b k result → IsStep S rules o b k result
  step_is (Ok u) h = record { law = law; named = named; part = part; fits = fits; s = h.0; by = h.1; shown = h.2 }
  step_is (Err (fault.Bad why.NoInstance)) h = no_instance law named part fits h
  step_is (Err (fault.Bad why.ConditionNotShown)) h = condition_not_shown law h.0 named part fits h.1 h.2
  step_is (Err (fault.Bad why.NameTaken)) h = absurd h
  step_is (Err (fault.Bad why.RuleIllTyped)) h = absurd h
  step_is (Err (fault.Bad why.FirstIsNotLeft)) h = absurd h
  step_is (Err (fault.Bad why.UnknownLaw)) h = absurd h
  step_is (Err (fault.Bad why.NoSuchPath)) h = absurd h
  step_is (Err (fault.Bad why.StepIllTyped)) h = absurd h
  step_is (Err (fault.Bad why.LastIsNotRight)) h = absurd h
  step_is (Err fault.Memory) h = tt

-- no function and no predicate stands at the path
pub input_fault : (S : Classes) (rules : List RuleTree) (o law : RuleTree) (b : TermTree) (k : StepTree) → rule_named rules k.law ≡ Some law → (f : StepFault) → IsInputAt S o.vars o.input b k.path (Err f) → (r : Result Unit StepFault) → r ≡ Err f → IsStep S rules o b k r
input_fault S rules o law b k e (fault.Bad w) h r i = subst (λ z. IsStep S rules o b k z) (sym i) (subst (λ z. StepBad S rules o b k z) (sym h.0) (no_such_path law e h.1))
input_fault S rules o law b k e fault.Memory h r i = subst (λ z. IsStep S rules o b k z) (sym i) tt

module _ (S : Classes) (rules : List RuleTree) (o : RuleTree) (first : TermTree) (all : List StepTree) where
  pub underway_at_first : SidesFit S o.vars o.input o.left first → Underway S rules o first all first 0 all
  underway_at_first f = record { fits = f; ok = λ h. h; bad = λ m w h. h }

  module _ (b : TermTree) (n : ℕ) (k : StepTree) (rest : List StepTree) (u : Underway S rules o first all b n (k ∷ rest)) where
    pub underway_on : StepOk S rules o b k → Underway S rules o first all k.term (n + 1) rest
    underway_on p = record {
      fits = p.fits;
      ok = λ h. u.ok (more p h);
      bad = λ m w h. u.bad m w (later p (subst (λ (j : ℕ). StepsBad S rules o k.term j rest m w) (add-one n) h));
    }

    pub underway_bad : (w : StepWhy) → StepBad S rules o b k w → StepsBad S rules o first 0 all (n + 1) w
    underway_bad w h = subst (λ (j : ℕ). StepsBad S rules o first 0 all j w) (sym (add-one n)) (u.bad (suc n) w (now h))

  module _ (b : TermTree) (n : ℕ) (u : Underway S rules o first all b n []) where
    pub underway_end : b ≡ o.right → StepsOk S rules o first all
    underway_end e = u.ok (end e)

    pub underway_last : (b ≡ o.right → ⊥) → StepsBad S rules o first 0 all n why.LastIsNotRight
    underway_last h = u.bad n why.LastIsNotRight (last h)

-- the fault of a step, with its number
pub numbered_fault : (S : Classes) (rules : List RuleTree) (o : RuleTree) (first : TermTree) (all : List StepTree) (b : TermTree) (n : ℕ) (k : StepTree) (rest : List StepTree) → Underway S rules o first all b n (k ∷ rest) → (f : StepFault) → (r : Result Unit StepFault) → r ≡ Err f → IsStep S rules o b k r
    → (t : Result Unit CheckFault) (g : CheckFault) → t ≡ Err g → g ≡ numbered f (n + 1) → AreSteps S rules o first all t
numbered_fault S rules o first all b n k rest u (fault.Bad w) r i h t g j e =
    subst (λ (z : Result Unit CheckFault). AreSteps S rules o first all z) (sym (j ∙ ap Err e)) (underway_bad S rules o first all b n k rest u w (subst (λ (z : Result Unit StepFault). IsStep S rules o b k z) i h))
numbered_fault S rules o first all b n k rest u fault.Memory r i h t g j e = subst (λ (z : Result Unit CheckFault). AreSteps S rules o first all z) (sym (j ∙ ap Err e)) tt

-- what the steps say of the draft
pub check_is : (S : Classes) (rules : List RuleTree) (d : DraftTree) → rule_named rules d.rule.name ≡ None → RuleOk S d.rule → d.first ≡ d.rule.left → (r : Result Unit CheckFault) → AreSteps S rules d.rule d.first d.steps r → IsCheck S rules d r
check_is S rules d e ok f (Ok u) h = record { free = e; well_typed = ok; first = f; steps = h }
check_is S rules d e ok f (Err (check.At n w)) h = in_the_steps e ok f h
check_is S rules d e ok f (Err check.Memory) h = tt
