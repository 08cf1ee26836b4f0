-- What the answers to a question about a place in a term say.
use Rattle.std.specs.Prelude.{Option, Some, None, Result, Ok, Err}
use Rattle.kola_term.specs.Terms.{TermTree, TermC}
use Rattle.kola_term.specs.Agreement.{SameKind}
use Rattle.kola_term.specs.declared.place.PlaceFault.{PlaceFault}
use Rattle.kola_term.specs.declared.place.PlaceFault.TheVariants as fault

-- there is a part, and r has another kind
abbrev pub OtherKind : Option TermTree → TermTree → Type 0
OtherKind (Some l) r = SameKind l r → ⊥
OtherKind None r = ⊥

-- there is a part, and it is a constant
abbrev pub IsConstant : Option TermTree → Type 0
IsConstant (Some (TermC c)) = Unit {0}
IsConstant _ = ⊥

-- P holds, unless memory was wanted
abbrev pub UnlessMemory : {A : Type 0} → Result A PlaceFault → Type 0 → Type 0
UnlessMemory (Ok a) P = P
UnlessMemory (Err fault.NoSuchPath) P = P
UnlessMemory (Err fault.WrongKind) P = P
UnlessMemory (Err fault.Memory) P = Unit {0}
