-- The demands on a variable by its kind, and the input type at a place as the program asks for it.
use Rattle.std.specs.Prelude.{◌≡◌, ℕ, List, Option, Some, None}
use Rattle.kola_values.specs.Types.{TypeTree}
use Rattle.kola_values.specs.Databases.{Classes}
use Rattle.kola_values.specs.Views.{type_tree}
use Rattle.kola_values.specs.declared.ty.Ty.{Ty}
use Rattle.kola_term.specs.Terms.{FunTree, ConstTree, TermTree, TermF, TermP, TermC}
use Rattle.kola_term.specs.Typing.{Context, MetaTree, MFun, MPred, MConst, out, const_type}
use Rattle.kola_term.specs.Places.{sub_at, place}
use Rattle.kola_match.specs.Substitutions.{Substitution, sub_type}

-- what a variable's declared types demand of its term, at a place with the input type w
abbrev pub Demands : Classes → Context → MetaTree → Option TermTree → Option TypeTree → Substitution → Type 0
Demands S x (MFun a c) (Some (TermF f)) (Some w) s = (sub_type s.types a ≡ w) × (out S x f w ≡ Some (sub_type s.types c))
Demands S x (MPred a) (Some (TermP p)) (Some w) s = sub_type s.types a ≡ w
Demands S x (MConst a) (Some (TermC c)) w s = const_type S x c ≡ Some (sub_type s.types a)
Demands S x _ _ _ s = ⊥

abbrev pub FunDemand : Classes → Context → TypeTree → TypeTree → FunTree → TypeTree → Substitution → Type 0
FunDemand S x a c f w s = (sub_type s.types a ≡ w) × (out S x f w ≡ Some (sub_type s.types c))

abbrev pub ConstDemand : Classes → Context → TypeTree → ConstTree → Substitution → Type 0
ConstDemand S x a c s = const_type S x c ≡ Some (sub_type s.types a)

-- neither a function nor a predicate
abbrev pub NoNode : Option TermTree → Type 0
NoNode None = Unit {0}
NoNode (Some (TermC c)) = Unit {0}
NoNode _ = ⊥

-- the input type at the path, or none where neither a function nor a predicate stands there
abbrev pub InputOf : Classes → Context → TermTree → TypeTree → List ℕ → Option Ty → Type 0
InputOf S x t T q (Some w) = place S x t T q ≡ Some (type_tree w)
InputOf S x t T q None = NoNode (sub_at t q)
