-- What accepted rules keep, and what the answers to a draft say.
use Rattle.std.specs.Prelude.{◌≡◌, ℕ, List, ◌++◌, map, Result, Ok, Err}
use Rattle.kola_values.specs.Databases.{Classes}
use Rattle.kola_values.specs.Sets.{Each}
use Rattle.kola_rule.specs.Rules.{RuleTree, DraftTree}
use Rattle.kola_rule.specs.declared.rule.Rule.{Rule}
use Rattle.kola_rule.specs.declared.rule.Draft.{Draft}
use Rattle.kola_match.specs.Holding.{Holds}
use Rattle.kola_match.specs.RuleOk.{RuleOk}
use Rattle.kola_laws.specs.Laws.{laws}
use Rattle.kola_proof.specs.Drafts.{Valid, FirstBad, AreValid, FirstBadDraft}
use Rattle.kola_proof.specs.declared.fault.StepWhy.{StepWhy}
use Rattle.kola_proof.specs.declared.fault.AdmitFault.{AdmitFault}
use Rattle.kola_proof.specs.declared.fault.AdmitFault.TheVariants.{Refused, Memory}
use Rattle.kola_proof.specs.declared.fault.FileFault.{FileFault}
use Rattle.kola_proof.specs.declared.fault.FileFault.TheVariants as file

-- a schema, and rules under it
pub record Accepted : Type 0 where
  pub schema : Classes
  pub rules : List Rule

-- the laws come first, and every rule is well typed and holds
pub record IsAccepted (S : Classes) (rs : List RuleTree) : Type 0 where
  pub added : List RuleTree
  pub laws_first : rs ≡ laws ++ added
  pub well_typed : Each (RuleOk S) rs
  pub hold : Each (Holds S) rs

-- accepted, the draft is valid and has no fault; refused, it has the fault first, and is not valid; want of memory says nothing
abbrev pub IsVerdict : {A : Type 0} → Classes → List RuleTree → DraftTree → Result A AdmitFault → Type 0
IsVerdict S rs d (Ok u) = Valid S rs d × ((n : ℕ) (w : StepWhy) → FirstBad S rs d n w → ⊥)
IsVerdict S rs d (Err (Refused n w e)) = FirstBad S rs d n w × (Valid S rs d → ⊥)
IsVerdict S rs d (Err (Memory e)) = Unit {0}

-- the draft that a fault hands back
abbrev pub handed_back : AdmitFault → Draft
handed_back (Refused n w e) = e
handed_back (Memory e) = e

-- ---- the drafts of a file

-- the fault of a draft, as one of its file
abbrev pub file_fault : AdmitFault → FileFault
file_fault (Refused n w e) = file.Refused e.rule.name n w
file_fault (Memory e) = file.Memory

-- the rules of drafts
abbrev pub rules_of : List Draft → List Rule
rules_of ds = map (λ (d : Draft). d.rule) ds

-- accepted, all are valid and none has a fault; refused, the draft of that name has the fault first, and not all are valid; want of memory says nothing
abbrev pub IsFileVerdict : {A : Type 0} → Classes → List RuleTree → List DraftTree → Result A FileFault → Type 0
IsFileVerdict S rs ds (Ok u) = AreValid S rs ds × ((m : List ℕ) (n : ℕ) (w : StepWhy) → FirstBadDraft S rs ds m n w → ⊥)
IsFileVerdict S rs ds (Err (file.Refused m n w)) = FirstBadDraft S rs ds m n w × (AreValid S rs ds → ⊥)
IsFileVerdict S rs ds (Err file.Memory) = Unit {0}

-- the rules of drafts from the front were added at the end, in their order
pub record HasGrown (old new : List Rule) (ds : List Draft) : Type 0 where
  pub front : List Draft
  pub rest : List Draft
  pub are : ds ≡ front ++ rest
  pub added : new ≡ old ++ rules_of front
