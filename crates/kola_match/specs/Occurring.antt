-- Where the variables of a rule stand.
use Rattle.std.specs.Prelude.{◌≡◌, ℕ, List, Some}
use Rattle.kola_term.specs.Terms.{FMeta, PMeta, CMeta, TermTree, TermF, TermP, TermC}
use Rattle.kola_term.specs.Typing.{MetaTree, MFun, MPred, MConst}
use Rattle.kola_term.specs.Places.{sub_at}

-- the variable as a term, of the kind that it is declared with
abbrev pub variable : List ℕ → MetaTree → TermTree
variable n (MFun t u) = TermF (FMeta n)
variable n (MPred t) = TermP (PMeta n)
variable n (MConst t) = TermC (CMeta n)

-- the variable stands somewhere in the term
abbrev pub Occurs : TermTree → List ℕ × MetaTree → Type 0
Occurs t v = (q : List ℕ) × (sub_at t q ≡ Some (variable v.0 v.1))
