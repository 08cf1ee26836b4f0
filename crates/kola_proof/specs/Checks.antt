-- What the parts of the check of a draft say.
use Rattle.std.specs.Prelude.{◌≡◌, ℕ, List, Some, Result, Ok, Err}
use Rattle.kola_values.specs.Types.{TypeTree}
use Rattle.kola_values.specs.Databases.{Classes}
use Rattle.kola_values.specs.Views.{type_tree}
use Rattle.kola_values.specs.declared.ty.Ty.{Ty}
use Rattle.kola_term.specs.Terms.{TermTree}
use Rattle.kola_term.specs.Typing.{Context}
use Rattle.kola_term.specs.Places.{sub_at, place}
use Rattle.kola_rule.specs.Rules.{RuleTree, StepTree, DraftTree}
use Rattle.kola_match.specs.Substitutions.{Substitution}
use Rattle.kola_proof.specs.Steps.{IsPlace, ByInstance, AllShown, StepOk, StepBad}
use Rattle.kola_proof.specs.Drafts.{StepsOk, StepsBad, Valid, FirstBad}
use Rattle.kola_proof.specs.declared.fault.StepWhy.{StepWhy}
use Rattle.kola_proof.specs.declared.fault.StepWhy.TheVariants as why
use Rattle.kola_proof.specs.declared.fault.StepFault.{StepFault}
use Rattle.kola_proof.specs.declared.fault.StepFault.TheVariants as fault
use Rattle.kola_proof.specs.declared.fault.CheckFault.{CheckFault}
use Rattle.kola_proof.specs.declared.fault.CheckFault.TheVariants as check

-- the input type at the path of a term, or that no function or predicate stands there
abbrev pub IsInputAt : Classes → Context → TypeTree → TermTree → List ℕ → Result Ty StepFault → Type 0
IsInputAt S x T b q (Ok w) = (place S x b T q ≡ Some (type_tree w)) × IsPlace (sub_at b q)
IsInputAt S x T b q (Err (fault.Bad y)) = (y ≡ why.NoSuchPath) × (IsPlace (sub_at b q) → ⊥)
IsInputAt S x T b q (Err fault.Memory) = Unit {0}

-- the rule has an instance whose conditions are shown, or which of the two is missing
abbrev pub IsByLaw : {A : Type 0} → Classes → RuleTree → RuleTree → TermTree → StepTree → Result A StepFault → Type 0
IsByLaw S o law b k (Ok u) = (s : Substitution) × ByInstance S o.vars o.input law k.rev k.path b k.term s × AllShown S o.vars o.when law s
IsByLaw S o law b k (Err (fault.Bad why.NoInstance)) = (s : Substitution) → ByInstance S o.vars o.input law k.rev k.path b k.term s → ⊥
IsByLaw S o law b k (Err (fault.Bad why.ConditionNotShown)) =
    (s : Substitution) × ByInstance S o.vars o.input law k.rev k.path b k.term s × ((t : Substitution) → ByInstance S o.vars o.input law k.rev k.path b k.term t → AllShown S o.vars o.when law t → ⊥)
IsByLaw S o law b k (Err (fault.Bad _)) = ⊥
IsByLaw S o law b k (Err fault.Memory) = Unit {0}

abbrev pub IsStep : {A : Type 0} → Classes → List RuleTree → RuleTree → TermTree → StepTree → Result A StepFault → Type 0
IsStep S rules o b k (Ok u) = StepOk S rules o b k
IsStep S rules o b k (Err (fault.Bad w)) = StepBad S rules o b k w
IsStep S rules o b k (Err fault.Memory) = Unit {0}

-- the fault of a step, with its number
abbrev pub numbered : StepFault → ℕ → CheckFault
numbered (fault.Bad w) n = check.At n w
numbered fault.Memory n = check.Memory

abbrev pub AreSteps : {A : Type 0} → Classes → List RuleTree → RuleTree → TermTree → List StepTree → Result A CheckFault → Type 0
AreSteps S rules o b ks (Ok u) = StepsOk S rules o b ks
AreSteps S rules o b ks (Err (check.At n w)) = StepsBad S rules o b 0 ks n w
AreSteps S rules o b ks (Err check.Memory) = Unit {0}

abbrev pub IsCheck : {A : Type 0} → Classes → List RuleTree → DraftTree → Result A CheckFault → Type 0
IsCheck S rules d (Ok u) = Valid S rules d
IsCheck S rules d (Err (check.At n w)) = FirstBad S rules d n w
IsCheck S rules d (Err check.Memory) = Unit {0}
