-- Accepted rules with one more.
use Rattle.std.proofs.Common.{◌≡◌, List, [], ◌∷◌, ◌++◌, map, Result, Ok, Err, refl, sym, ap, ◌∙◌, subst}
use Rattle.std.specs.Prelude.{ℕ, IfErr, OnOk, OnErr}
use Rattle.std.proofs.lemmas.List.{map_push}
use Rattle.kola_values.specs.Databases.{Classes}
use Rattle.kola_values.specs.Sets.{Each}
use Rattle.kola_values.proofs.Each.{each_append}
use Rattle.kola_rule.specs.RuleViews.{rule_tree}
use Rattle.kola_rule.specs.declared.rule.Rule.{Rule}
use Rattle.kola_match.specs.Holding.{Holds}
use Rattle.kola_match.specs.RuleOk.{RuleOk}
use Rattle.kola_laws.specs.Laws.{laws}
use Rattle.kola_laws.proofs.EveryLaw.{every_law_holds}
use Rattle.kola_laws.proofs.WellTyped.{every_law_is_well_typed}
use Rattle.kola_rule.specs.Rules.{RuleTree, DraftTree}
use Rattle.kola_rule.specs.declared.rule.Draft.{Draft}
use Rattle.kola_proof.specs.Accepting.{IsAccepted, IsVerdict}
use Rattle.kola_proof.specs.Drafts.{Valid, FirstBad}
use Rattle.kola_proof.specs.declared.fault.StepWhy.{StepWhy}
use Rattle.kola_proof.specs.declared.fault.AdmitFault.{AdmitFault}
use Rattle.kola_proof.specs.declared.fault.AdmitFault.TheVariants as fault

none_more : (rs : List RuleTree) → rs ≡ rs ++ []
none_more [] = refl
none_more (r ∷ rs) = ap (λ z. r ∷ z) (none_more rs)

behind : (rs ss ts : List RuleTree) → (rs ++ ss) ++ ts ≡ rs ++ (ss ++ ts)
behind [] ss ts = refl
behind (r ∷ rs) ss ts = ap (λ z. r ∷ z) (behind rs ss ts)

pub laws_accepted : (S : Classes) (rs : List RuleTree) → rs ≡ laws → IsAccepted S rs
laws_accepted S rs e = record {
  added = [];
  laws_first = e ∙ none_more laws;
  well_typed = subst (λ z. Each (RuleOk S) z) (sym e) (every_law_is_well_typed S);
  hold = subst (λ z. Each (Holds S) z) (sym e) (every_law_holds S);
}

pub one_more_accepted : (S : Classes) (rs : List RuleTree) (r : RuleTree) → IsAccepted S rs → RuleOk S r → Holds S r → IsAccepted S (rs ++ r ∷ [])
one_more_accepted S rs r h ok holds = record {
  added = h.added ++ r ∷ [];
  laws_first = ap (λ z. z ++ r ∷ []) h.laws_first ∙ behind laws h.added (r ∷ []);
  well_typed = each_append (RuleOk S) rs (r ∷ []) h.well_typed (ok, tt);
  hold = each_append (Holds S) rs (r ∷ []) h.hold (holds, tt);
}

-- the rule was added, or the rules are as they were
pub either_accepted : {A E : Type 0} (S : Classes) (old new : List Rule) (r : Rule) (result : Result A E) → OnOk result (new ≡ old ++ r ∷ []) → OnErr result (new ≡ old) → IsAccepted S (map rule_tree old) → RuleOk S (rule_tree r) → Holds S (rule_tree r) → IsAccepted S (map rule_tree new)
either_accepted S old new r (Ok u) a b h ok holds = subst (λ z. IsAccepted S (map rule_tree z)) (sym a) (subst (λ z. IsAccepted S z) (sym (map_push rule_tree old r)) (one_more_accepted S (map rule_tree old) (rule_tree r) h ok holds))
either_accepted S old new r (Err e) a b h ok holds = subst (λ z. IsAccepted S (map rule_tree z)) (sym b) h

-- what is added or handed back for want of memory is a verdict on a valid draft
pub added_verdict : {A : Type 0} (S : Classes) (rs : List RuleTree) (d : DraftTree) (draft : Draft) (result : Result A AdmitFault) → IfErr result (λ e. e ≡ fault.Memory draft) → Valid S rs d → ((n : ℕ) (w : StepWhy) → FirstBad S rs d n w → ⊥) → IsVerdict S rs d result
added_verdict S rs d draft (Ok u) e v b = (v, b)
added_verdict {A} S rs d draft (Err f) e v b = subst (λ g. IsVerdict {A = A} S rs d (Err g)) (sym e) tt

-- what holds anyway holds where it is accepted
pub on_ok : {A E : Type 0} (P : Type 0) (result : Result A E) → P → OnOk result P
on_ok P (Ok a) h = h
on_ok P (Err e) h = tt
