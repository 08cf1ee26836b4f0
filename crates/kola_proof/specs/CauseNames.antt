-- The names of the causes for which a draft is refused, as they are printed.
use Rattle.std.specs.Prelude.{ℕ, List, codes}
use Rattle.kola_proof.specs.declared.fault.StepWhy.{StepWhy}
use Rattle.kola_proof.specs.declared.fault.StepWhy.TheVariants as why

abbrev pub step_name : StepWhy → List ℕ
step_name why.NameTaken = codes "NameTaken"
step_name why.RuleIllTyped = codes "RuleIllTyped"
step_name why.FirstIsNotLeft = codes "FirstIsNotLeft"
step_name why.UnknownLaw = codes "UnknownLaw"
step_name why.NoSuchPath = codes "NoSuchPath"
step_name why.StepIllTyped = codes "StepIllTyped"
step_name why.NoInstance = codes "NoInstance"
step_name why.ConditionNotShown = codes "ConditionNotShown"
step_name why.LastIsNotRight = codes "LastIsNotRight"
