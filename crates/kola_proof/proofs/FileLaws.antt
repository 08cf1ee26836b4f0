-- What is known of the drafts of a file before one of them.
use Rattle.std.proofs.Common.{◌≡◌, ℕ, List, [], ◌∷◌, ◌++◌, map, Err, refl, sym, ap, ◌∙◌, subst}
use Rattle.std.proofs.lemmas.List.{map_push}
use Rattle.kola_values.specs.Databases.{Classes}
use Rattle.kola_rule.specs.RuleViews.{rule_tree, draft_tree}
use Rattle.kola_rule.specs.declared.rule.Rule.{Rule}
use Rattle.kola_rule.specs.declared.rule.Draft.{Draft}
use Rattle.kola_proof.specs.Drafts.{Valid, AreValid, no_draft, valid_draft, FirstBadDraft, bad_draft, later_draft}
use Rattle.kola_proof.specs.Accepting.{IsVerdict, handed_back, rules_of, file_fault, IsFileVerdict}
use Rattle.kola_proof.specs.declared.fault.StepWhy.{StepWhy}
use Rattle.kola_proof.specs.declared.fault.AdmitFault.{AdmitFault}
use Rattle.kola_proof.specs.declared.fault.AdmitFault.TheVariants.{Refused, Memory}
use Rattle.kola_proof.proofs.FileFaults.{file_not_both}

-- the drafts that are left, by the rules that then stand, say what all say by the first rules; the rules of the front were added
pub record Left (S : Classes) (first : List Rule) (all : List Draft) (rules : List Rule) (rest : List Draft) : Type 0 where
  pub ok : AreValid S (map rule_tree rules) (map draft_tree rest) → AreValid S (map rule_tree first) (map draft_tree all)
  pub bad : (m : List ℕ) (n : ℕ) (w : StepWhy) → FirstBadDraft S (map rule_tree rules) (map draft_tree rest) m n w → FirstBadDraft S (map rule_tree first) (map draft_tree all) m n w
  pub front : List Draft
  pub are : all ≡ front ++ rest
  pub added : rules ≡ first ++ rules_of front

none_added : {A : Type 0} (xs : List A) → xs ≡ xs ++ []
none_added [] = refl
none_added (x ∷ xs) = ap (λ z. x ∷ z) (none_added xs)

one_behind : {A : Type 0} (xs : List A) (y : A) (zs : List A) → xs ++ y ∷ zs ≡ (xs ++ y ∷ []) ++ zs
one_behind [] y zs = refl
one_behind (x ∷ xs) y zs = ap (λ z. x ∷ z) (one_behind xs y zs)

both_behind : {A : Type 0} (xs ys zs : List A) → (xs ++ ys) ++ zs ≡ xs ++ (ys ++ zs)
both_behind [] ys zs = refl
both_behind (x ∷ xs) ys zs = ap (λ z. x ∷ z) (both_behind xs ys zs)

module _ (S : Classes) (first : List Rule) (all : List Draft) where
  pub all_left : Left S first all first all
  all_left = record { ok = λ h. h; bad = λ m n w h. h; front = []; are = refl; added = none_added first }

  -- the same of equal lists
  pub same_left : (rules new : List Rule) (rest left : List Draft) → rules ≡ new → rest ≡ left → Left S first all rules rest → Left S first all new left
  same_left rules new rest left e f l = subst (λ z. Left S first all new z) f (subst (λ z. Left S first all z rest) e l)

  module _ (rules : List Rule) (d : Draft) (rest : List Draft) (l : Left S first all rules (d ∷ rest)) where
    -- one more is valid, and its rule was added
    pub one_less : (new : List Rule) → new ≡ rules ++ d.rule ∷ [] → Valid S (map rule_tree rules) (draft_tree d) → Left S first all new rest
    one_less new e v =
        let same : map rule_tree new ≡ map rule_tree rules ++ rule_tree d.rule ∷ [] = ap (map rule_tree) e ∙ map_push rule_tree rules d.rule in
        record {
          ok = λ h. l.ok (valid_draft v (subst (λ z. AreValid S z (map draft_tree rest)) same h));
          bad = λ m n w h. l.bad m n w (later_draft v (subst (λ z. FirstBadDraft S z (map draft_tree rest) m n w) same h));
          front = l.front ++ d ∷ [];
          are = l.are ∙ one_behind l.front d rest;
          added = e ∙ (ap (λ z. z ++ d.rule ∷ []) l.added ∙ (both_behind first (rules_of l.front) (d.rule ∷ []) ∙ ap (λ z. first ++ z) (sym (map_push (λ (d : Draft). d.rule) l.front d))));
        }

    -- its fault is the first of all
    pub refused_file : (f : AdmitFault) → handed_back f ≡ d → IsVerdict {A = Unit} S (map rule_tree rules) (draft_tree d) (Err f) → IsFileVerdict {A = Unit} S (map rule_tree first) (map draft_tree all) (Err (file_fault f))
    refused_file (Refused n w e) h v =
        let b = subst (λ (z : List ℕ). FirstBadDraft S (map rule_tree first) (map draft_tree all) z n w) (sym (ap (λ (x : Draft). x.rule.name) h)) (l.bad d.rule.name n w (bad_draft v.0)) in
        (b, λ vs. file_not_both S vs b)
    refused_file (Memory e) h v = tt

  -- none is left
  pub all_valid : (rules : List Rule) (rest : List Draft) → rest ≡ [] → Left S first all rules rest → AreValid S (map rule_tree first) (map draft_tree all) × ((m : List ℕ) (n : ℕ) (w : StepWhy) → FirstBadDraft S (map rule_tree first) (map draft_tree all) m n w → ⊥)
  all_valid rules rest e l =
      let v = l.ok (subst (λ (z : List Draft). AreValid S (map rule_tree rules) (map draft_tree z)) (sym e) no_draft) in
      (v, λ m n w b. file_not_both S v b)
