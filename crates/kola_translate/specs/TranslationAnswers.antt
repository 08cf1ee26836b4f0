-- What the program's answers on translations say.
use Rattle.std.specs.Prelude.{◌≡◌, ◌≤◌, [], Result, Ok, Err}
use Rattle.kola_values.specs.Types.{TypeTree, TUnit}
use Rattle.kola_values.specs.Databases.{Classes}
use Rattle.kola_term.specs.Terms.{FunTree, TermF}
use Rattle.kola_term.specs.Counts.{fun_nodes, fun_depth}
use Rattle.kola_term.specs.Limits.{node_limit, depth_limit}
use Rattle.kola_term.specs.Faults.{Fits}
use Rattle.kola_term.specs.TypingAnswers.{IsFine}
use Rattle.kola_term.specs.TermView.{fun_tree}
use Rattle.kola_term.specs.declared.term.Fun.{Fun}
use Rattle.oql_tree.specs.QueryTrees.{QueryTree}
use Rattle.kola_translate.specs.Translation.{translation}
use Rattle.kola_translate.specs.declared.fault.TranslateFault.{TranslateFault}
use Rattle.kola_translate.specs.declared.fault.TranslateFault.TheVariants.{TooLarge, Memory}

-- a function of no variables within the limits, at the unit
abbrev pub FitsAtUnit : Classes → FunTree → Type 0
FitsAtUnit S f = (u : TypeTree) × Fits S [] (TermF f) TUnit u

-- the translation, where it fits at the unit, and that it does not; want of memory says nothing
abbrev pub IsTranslated : Classes → QueryTree → Result Fun TranslateFault → Type 0
IsTranslated S e (Ok f) = (fun_tree f ≡ translation S e) × FitsAtUnit S (translation S e)
IsTranslated S e (Err TooLarge) = FitsAtUnit S (translation S e) → ⊥
IsTranslated S e (Err Memory) = Unit {0}

-- ---- the same of the parts of the way

-- within the limits on nodes and depth
abbrev pub IsCountable : FunTree → Type 0
IsCountable f = (fun_nodes f ≤ node_limit) × (fun_depth f ≤ depth_limit)

abbrev pub IsCounted : {A : Type 0} → (A → Fun) → Classes → QueryTree → Result A TranslateFault → Type 0
IsCounted fun S e (Ok f) = (fun_tree (fun f) ≡ translation S e) × IsCountable (translation S e)
IsCounted fun S e (Err TooLarge) = IsCountable (translation S e) → ⊥
IsCounted fun S e (Err Memory) = Unit {0}

abbrev pub IsJudged : {A : Type 0} → Classes → FunTree → Result A TranslateFault → Type 0
IsJudged S f (Ok u) = IsFine S [] (TermF f) TUnit
IsJudged S f (Err TooLarge) = IsFine S [] (TermF f) TUnit → ⊥
IsJudged S f (Err Memory) = Unit {0}
