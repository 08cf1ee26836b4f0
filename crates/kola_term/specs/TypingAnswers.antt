-- What the program's answers on the types of terms say.
use Rattle.std.specs.Prelude.{◌≡◌, ℕ, ◌+◌, ◌<◌, List, Option, Some, None, Result, Ok, Err}
use Rattle.kola_values.specs.Types.{TypeTree, TBool}
use Rattle.kola_values.specs.Databases.{Classes}
use Rattle.kola_values.specs.Views.{type_tree}
use Rattle.kola_values.specs.declared.ty.Ty.{Ty}
use Rattle.kola_term.specs.Terms.{TermTree}
use Rattle.kola_term.specs.Typing.{Context}
use Rattle.kola_term.specs.Faults as fault
use Rattle.kola_term.specs.Faults.{Fine, FaultAt}
use Rattle.kola_term.specs.Judging.{Checked}
use Rattle.kola_term.specs.declared.typing.TypeWhy.{TypeWhy}
use Rattle.kola_term.specs.declared.typing.TypeWhy.TheVariants as why
use Rattle.kola_term.specs.declared.typing.TypeFault.{TypeFault}
use Rattle.kola_term.specs.declared.typing.TypeFault.TheVariants.{At, Memory}

abbrev pub why_tree : TypeWhy → fault.TypeWhy
why_tree why.NotThisInput = fault.NotThisInput
why_tree why.OutputsDiffer = fault.OutputsDiffer
why_tree why.NoAttribute = fault.NoAttribute
why_tree why.NoExtent = fault.NoExtent
why_tree why.WrongVariable = fault.WrongVariable
why_tree why.TypeTooLarge = fault.TypeTooLarge

abbrev pub IsFine : Classes → Context → TermTree → TypeTree → Type 0
IsFine S x t T = (u : TypeTree) × Fine S x t T u

abbrev pub IsFaulty : Classes → Context → TermTree → TypeTree → Type 0
IsFaulty S x t T = (q : List ℕ) × (why : fault.TypeWhy) × FaultAt S x t T q why

-- the first fault of a term, which is then not fine; want of memory says nothing
abbrev pub FaultOf : Classes → Context → TermTree → TypeTree → TypeFault → Type 0
FaultOf S x t T (At path why) = FaultAt S x t T path (why_tree why) × (IsFine S x t T → ⊥)
FaultOf S x t T Memory = Unit {0}

-- the output type of a fine function, which then has no fault; or its first fault
abbrev pub TypeOf : Classes → Context → TermTree → TypeTree → Result Ty TypeFault → Type 0
TypeOf S x t T (Ok u) = Fine S x t T (type_tree u) × (IsFaulty S x t T → ⊥)
TypeOf S x t T (Err f) = FaultOf S x t T f

-- a predicate is fine, and then has no fault; or its first fault
abbrev pub CheckOf : {A : Type 0} → Classes → Context → TermTree → TypeTree → Result A TypeFault → Type 0
CheckOf S x t T (Ok u) = IsFine S x t T × (IsFaulty S x t T → ⊥)
CheckOf S x t T (Err f) = FaultOf S x t T f

-- ---- the same of the program's way

abbrev pub IsFault : TypeFault → Checked → Type 0
IsFault (At path why) r = r ≡ Err (path, why_tree why)
IsFault Memory r = Unit {0}

abbrev pub IsTyping : Result Ty TypeFault → Checked → Type 0
IsTyping (Ok u) r = r ≡ Ok (type_tree u)
IsTyping (Err f) r = IsFault f r

abbrev pub IsCheck : {A : Type 0} → Result A TypeFault → Checked → Type 0
IsCheck (Ok u) r = r ≡ Ok TBool
IsCheck (Err f) r = IsFault f r

-- what is left of a limit after n; none where n is more
abbrev pub LeftOf : Option ℕ → ℕ → ℕ → Type 0
LeftOf (Some k) limit n = k + n ≡ limit
LeftOf None limit n = limit < n
