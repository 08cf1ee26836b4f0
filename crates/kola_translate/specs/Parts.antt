-- What the parts of the program's way to a translation answer each other.
use Rattle.std.specs.Prelude.{ℕ, Bool, true, false, Result, Ok, Err, ◌≡◌, Option, Some, None}
use Rattle.kola_term.specs.Terms.{FunTree, FUnion, FIsect, FMinus, PredTree, PEq, PLt, PLe, PMember, PEx, PFa}
use Rattle.kola_term.specs.TermView.{fun_tree, pred_tree}
use Rattle.kola_translate.specs.Translation.{Translated, Function, Test, Truth}
use Rattle.kola_translate.specs.Building.{Building, and_built, or_built}
use Rattle.kola_translate.specs.declared.made.MadeFun.{MadeFun}
use Rattle.kola_translate.specs.declared.made.MadePred.{MadePred}
use Rattle.kola_translate.specs.declared.made.Part.{Part}
use Rattle.kola_translate.specs.declared.made.Part.TheVariants as part
use Rattle.kola_translate.specs.declared.made.SetOp.{SetOp}
use Rattle.kola_translate.specs.declared.made.SetOp.TheVariants as op
use Rattle.kola_translate.specs.declared.made.Comparison.{Comparison}
use Rattle.kola_translate.specs.declared.made.Comparison.TheVariants as comparison
use Rattle.kola_translate.specs.declared.fault.TranslateFault.{TranslateFault}
use Rattle.kola_translate.specs.declared.fault.TranslateFault.TheVariants.{TooLarge, Memory}

-- what is answered, as it is seen, with the nodes made so far, is what the building gives; want of memory says nothing
abbrev pub Builds : {A B : Type 0} → (A → B) → Result A TranslateFault → ℕ → Building B → Type 0
Builds view (Ok a) n r = r ≡ Some (view a, n)
Builds view (Err TooLarge) n r = r ≡ None
Builds view (Err Memory) n r = Unit {0}

abbrev pub fun_view : MadeFun → FunTree × ℕ
fun_view f = (fun_tree f.fun.value, f.depth)

abbrev pub pred_view : MadePred → PredTree × ℕ
pred_view p = (pred_tree p.pred.value, p.depth)

abbrev pub part_view : Part → Translated × ℕ
part_view (part.Function f) = (Function (fun_tree f.fun.value), f.depth)
part_view (part.Test p) = (Test (pred_tree p.pred.value), p.depth)
part_view (part.Truth b) = (Truth b, 0)

abbrev pub option_view : Option MadeFun → Option (FunTree × ℕ)
option_view (Some f) = Some (fun_view f)
option_view None = None

-- ---- the leaves that the kinds stand for

abbrev pub op_tree : SetOp → FunTree
op_tree op.Union = FUnion
op_tree op.Intersect = FIsect
op_tree op.Except = FMinus

abbrev pub comparison_tree : Comparison → PredTree
comparison_tree comparison.Eq = PEq
comparison_tree comparison.Lt = PLt
comparison_tree comparison.Le = PLe
comparison_tree comparison.Member = PMember

abbrev pub quantifier_tree : Bool → PredTree → PredTree
quantifier_tree true p = PFa p
quantifier_tree false p = PEx p

-- `or` where it is true, and `and` else
abbrev pub connective_built : Bool → PredTree × ℕ → PredTree × ℕ → ℕ → Building (PredTree × ℕ)
connective_built true p q n = or_built p q n
connective_built false p q n = and_built p q n
