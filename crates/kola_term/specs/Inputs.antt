-- The input type of a child by tests of its number, and what the answer to a question for an input type says.
use Rattle.std.specs.Prelude.{◌≡◌, ℕ, ◌==◌, if◌then◌else◌, List, Option, Some, None, option_and_then, Result, Ok, Err}
use Rattle.kola_values.specs.Types.{TypeTree, TPair}
use Rattle.kola_values.specs.Views.{type_tree}
use Rattle.kola_values.specs.Databases.{Classes}
use Rattle.kola_values.specs.declared.ty.Ty.{Ty}
use Rattle.kola_term.specs.Terms.{FunTree, FComp, FTimes, FC, FIterate, FIter, FJoin, FNest, FUnnest, PredTree, PAt, PInv, PCP, PEx, PFa, TermTree, TermF, TermP, TermC}
use Rattle.kola_term.specs.Typing.{Context, out, const_type, first_type, second_type, member_type, iter_type, join_type, pair_of}
use Rattle.kola_term.specs.Places.{sub_at, place}
use Rattle.kola_term.specs.PlaceAnswers.{IsConstant}
use Rattle.kola_term.specs.declared.place.PlaceFault.{PlaceFault}
use Rattle.kola_term.specs.declared.place.PlaceFault.TheVariants as fault

-- the type of a constant, before the input type
abbrev pub beside : Option TypeTree → TypeTree → Option TypeTree
beside (Some u) t = Some (TPair u t)
beside None t = None

abbrev pub fun_input : Classes → Context → FunTree → ℕ → TypeTree → Option TypeTree
fun_input S x (FComp f g) n t = if n == 1 then out S x g t else Some t
fun_input S x (FTimes f g) n t = if n == 1 then first_type t else second_type t
fun_input S x (FC f c) n t = if n == 1 then beside (const_type S x c) t else Some t
fun_input S x (FIterate p f) n t = member_type t
fun_input S x (FIter p f) n t = iter_type t
fun_input S x (FJoin p f) n t = join_type t
fun_input S x (FNest f g) n t = option_and_then first_type (join_type t)
fun_input S x (FUnnest f g) n t = member_type t
fun_input S x _ n t = Some t

abbrev pub pred_input : Classes → Context → PredTree → ℕ → TypeTree → Option TypeTree
pred_input S x (PAt p f) n t = if n == 1 then out S x f t else Some t
pred_input S x (PInv p) n t = pair_of (second_type t) (first_type t)
pred_input S x (PCP p c) n t = if n == 1 then beside (const_type S x c) t else Some t
pred_input S x (PEx p) n t = iter_type t
pred_input S x (PFa p) n t = iter_type t
pred_input S x _ n t = Some t

-- the input type of the child with the number n; of no child any type
abbrev pub child_input : Classes → Context → TermTree → ℕ → TypeTree → Option TypeTree
child_input S x (TermF f) n t = fun_input S x f n t
child_input S x (TermP p) n t = pred_input S x p n t
child_input S x (TermC c) n t = Some t

-- the input type itself, where the part is no constant
abbrev pub at_node : TermTree → TypeTree → Result TypeTree PlaceFault
at_node (TermC c) u = Err fault.WrongKind
at_node _ u = Ok u

-- at the path is a function or a predicate, with the input type w
pub record InputAt (S : Classes) (x : Context) (t : TermTree) (u : TypeTree) (q : List ℕ) (w : TypeTree) : Type 0 where
  pub part : TermTree
  pub is : sub_at t q ≡ Some part
  pub kind : IsConstant (Some part) → ⊥
  pub input : place S x t u q ≡ Some w

abbrev pub IsInput : Classes → Context → TermTree → TypeTree → List ℕ → Result Ty PlaceFault → Type 0
IsInput S x t u q (Ok w) = InputAt S x t u q (type_tree w)
IsInput S x t u q (Err fault.NoSuchPath) = sub_at t q ≡ None
IsInput S x t u q (Err fault.WrongKind) = IsConstant (sub_at t q)
IsInput S x t u q (Err fault.Memory) = Unit {0}
