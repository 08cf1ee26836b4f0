-- The plain tree of what the program's contexts say of variables.
use Rattle.std.specs.Prelude.{ℕ, List, map}
use Rattle.std.specs.Borrow.{Bor}
use Rattle.kola_values.specs.Views.{type_tree}
use Rattle.kola_term.specs.Typing.{MetaTree, MFun, MPred, MConst, Context}
use Rattle.kola_term.specs.declared.meta.MetaTy.{MetaTy}
use Rattle.kola_term.specs.declared.meta.MetaTy.TheVariants as meta

abbrev pub meta_tree : MetaTy → MetaTree
meta_tree (meta.Fun t u) = MFun (type_tree t) (type_tree u)
meta_tree (meta.Pred t) = MPred (type_tree t)
meta_tree (meta.Const t) = MConst (type_tree t)

-- the same behind a reference
abbrev pub meta_at : Bor MetaTy → MetaTree
meta_at m = meta_tree m.now

abbrev pub meta_entry : List ℕ × MetaTy → List ℕ × MetaTree
meta_entry e = (e.0, meta_tree e.1)

abbrev pub context_of : List (List ℕ × MetaTy) → Context
context_of ms = map meta_entry ms
