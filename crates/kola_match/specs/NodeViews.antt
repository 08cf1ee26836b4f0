-- What stands behind references to names and parts.
use Rattle.std.specs.Prelude.{ℕ, List}
use Rattle.std.specs.Borrow.{Bor}
use Rattle.kola_core.specs.declared.name.Name.{Name}
use Rattle.kola_term.specs.Terms.{FunTree, PredTree, ConstTree, TermTree}
use Rattle.kola_term.specs.TermView.{const_tree, fun_tree, pred_tree}
use Rattle.kola_term.specs.Parts.{sub_tree}
use Rattle.kola_term.specs.declared.constant.Const.{Const}
use Rattle.kola_term.specs.declared.part.SubTerm.{SubTerm}
use Rattle.kola_term.specs.declared.term.Fun.{Fun}
use Rattle.kola_term.specs.declared.term.Pred.{Pred}

abbrev pub name_at : Bor Name → List ℕ
name_at n = n.now

-- a variable's name with its term
abbrev pub part_entry : List ℕ × SubTerm → List ℕ × TermTree
part_entry e = (e.0, sub_tree e.1)

abbrev pub fun_at : Bor Fun → FunTree
fun_at f = fun_tree f.now

abbrev pub pred_at : Bor Pred → PredTree
pred_at p = pred_tree p.now

abbrev pub const_at : Bor Const → ConstTree
const_at c = const_tree c.now
