-- The plain trees of the parts of a term and of a node's children, and the entry of a list by tests of its number.
use Rattle.std.specs.Prelude.{ℕ, suc, ◌==◌, if◌then◌else◌, List, [], ◌∷◌, Option, Some, None}
use Rattle.kola_term.specs.Terms.{TermTree, TermF, TermP, TermC}
use Rattle.kola_term.specs.TermView.{const_tree, fun_tree, pred_tree}
use Rattle.kola_term.specs.declared.part.SubTerm.{SubTerm}
use Rattle.kola_term.specs.declared.part.SubTerm.TheVariants as s
use Rattle.kola_term.specs.declared.part.Children.{Children}
use Rattle.kola_term.specs.declared.part.Children.TheVariants as k

abbrev pub sub_tree : SubTerm → TermTree
sub_tree (s.F f) = TermF (fun_tree f.now)
sub_tree (s.P p) = TermP (pred_tree p.now)
sub_tree (s.C c) = TermC (const_tree c.now)

abbrev pub child_trees : Children → List TermTree
child_trees k.Leaf = []
child_trees (k.One a) = sub_tree a ∷ []
child_trees (k.Two a b) = sub_tree a ∷ sub_tree b ∷ []
child_trees (k.Three a b c) = sub_tree a ∷ sub_tree b ∷ sub_tree c ∷ []

-- the entry whose number is n, where the first entry's is k
abbrev pub entry_from : {A : Type 0} → ℕ → ℕ → List A → Option A
entry_from k n [] = None
entry_from k n (a ∷ as') = if n == k then Some a else entry_from (suc k) n as'
