-- When it is decided whether the rules of a job are accepted.
use Rattle.std.specs.Prelude.{◌≡◌, ◌⊎◌, ℕ, List, []}
use Rattle.kola_laws.specs.Laws.{laws}
use Rattle.kola_proof.specs.Drafts.{AreValid, FirstBadDraft}
use Rattle.kola_proof.specs.declared.fault.StepWhy.{StepWhy}
use Rattle.kola_top.specs.declared.words.Action.{Action}
use Rattle.kola_top.specs.Stages.{HasRulesText}

-- the drafts that the job writes, if it comes so far, are valid, or one of them is the first that has a fault
abbrev pub RulesAreDecided : List (List ℕ) → List ℕ → Type 0
RulesAreDecided words job = (a : Action) (r : HasRulesText words job a) → AreValid r.before.classes laws r.drafts ⊎ ((name : List ℕ) × (step : ℕ) × (why : StepWhy) × FirstBadDraft r.before.classes laws r.drafts name step why)

-- the job writes no draft
abbrev pub HasNoRules : List (List ℕ) → List ℕ → Type 0
HasNoRules words job = (a : Action) (r : HasRulesText words job a) → r.drafts ≡ []
