-- A text of rules writes one list of drafts or has one first fault; drafts are valid or have one first fault.
use Rattle.std.proofs.Common.{◌≡◌, ◌⊎◌, ℕ, List, [], ◌∷◌, length, map, arith}
use Rattle.kola_base.specs.declared.text_fault.TextWhy.{TextWhy}
use Rattle.kola_base.proofs.SpelledLaws.{one_spelled, spelled_or_fault, one_text_fault, read_once}
use Rattle.kola_values.specs.Databases.{Classes}
use Rattle.kola_rule.specs.Rules.{DraftTree}
use Rattle.kola_rule.specs.RuleViews.{draft_tree}
use Rattle.kola_rule.specs.declared.rule.Draft.{Draft}
use Rattle.kola_laws.specs.Laws.{laws}
use Rattle.coko_text.specs.Limits.{greatest_nesting}
use Rattle.coko_text.specs.RuleGrammar.{FileText}
use Rattle.coko_text.specs.RuleReaders.{file_at}
use Rattle.coko_text.proofs.RuleLaws.{on_file, file_good}
use Rattle.kola_proof.specs.Drafts.{AreValid, no_draft, FirstBadDraft}
use Rattle.kola_proof.specs.declared.fault.StepWhy.{StepWhy}
use Rattle.kola_proof.proofs.FileFaults.{file_some, file_not_both, file_one}
use Rattle.kola_top.specs.Stages.{WritesRules, IsRulesFault}

pub file_once : (text : List ℕ) → ((ds : List DraftTree) × WritesRules text ds) ⊎ ((at : ℕ) × (why : TextWhy) × IsRulesFault text at why)
file_once text = read_once file_at FileText on_file file_good greatest_nesting text

pub one_file : (text : List ℕ) (x y : List DraftTree) → WritesRules text x → WritesRules text y → x ≡ y
one_file text x y h k = one_spelled file_at FileText on_file file_good greatest_nesting text x y h k

pub file_or_fault : (text : List ℕ) (x : List DraftTree) (at : ℕ) (why : TextWhy) → WritesRules text x → IsRulesFault text at why → ⊥
file_or_fault text x at why h k = spelled_or_fault file_at FileText on_file file_good greatest_nesting text x at why h k

pub one_rules_fault : (text : List ℕ) (at to : ℕ) (why cause : TextWhy) → IsRulesFault text at why → IsRulesFault text to cause → (at ≡ to) × (why ≡ cause)
one_rules_fault text at to why cause h k = one_text_fault file_at FileText on_file file_good greatest_nesting text at to why cause h k

module _ (S : Classes) (ds : List DraftTree) where
  pub valid_or_bad : (m : List ℕ) (n : ℕ) (w : StepWhy) → AreValid S laws ds → FirstBadDraft S laws ds m n w → ⊥
  valid_or_bad m n w v b = file_not_both S v b

  pub one_bad_draft : (m k : List ℕ) (n j : ℕ) (w v : StepWhy) → FirstBadDraft S laws ds m n w → FirstBadDraft S laws ds k j v → (m ≡ k) × (n ≡ j) × (w ≡ v)
  one_bad_draft m k n j w v b c = file_one S b c

  pub some_draft : (AreValid S laws ds → ⊥) → ((m : List ℕ) (n : ℕ) (w : StepWhy) → FirstBadDraft S laws ds m n w → ⊥) → ⊥
  some_draft refuse bad = file_some S laws ds refuse bad

pub none_valid : (S : Classes) (ds : List Draft) → length ds ≡ 0 → AreValid S laws (map draft_tree ds)
none_valid S [] e = no_draft
none_valid S (d ∷ ds) e = absurd (omega (arith, e))
