-- The children of two nodes side by side, and terms that are found by a name and a kind.
use Rattle.std.specs.Prelude.{Bool, true, false, cond, ◌&&◌, ℕ, List, [], ◌∷◌, Option, Some, None}
use Rattle.std.specs.Option.{option_map}
use Rattle.std.specs.Str.{bytes_eq}
use Rattle.kola_term.specs.Terms.{FMeta, PMeta, CMeta, TermTree, TermF, TermP, TermC}
use Rattle.kola_term.specs.Places.{children}
use Rattle.kola_term.specs.Parts.{sub_tree}
use Rattle.kola_match.specs.Nodes.{same_node}
use Rattle.kola_match.specs.Binds.{Found}
use Rattle.kola_match.specs.Pairs.{Sides}
use Rattle.kola_match.specs.declared.pairs.Pairs.{Pairs}
use Rattle.kola_match.specs.declared.pairs.Pairs.TheVariants as p

-- both lists, where they are as long
abbrev pub zipped : List TermTree → List TermTree → Option Sides
zipped [] [] = Some []
zipped (a ∷ as') (b ∷ bs) = option_map (λ ps. (a, b) ∷ ps) (zipped as' bs)
zipped _ _ = None

-- the children side by side, where the nodes are the same
abbrev pub alike : TermTree → TermTree → Option Sides
alike x y = cond (same_node x y) (zipped (children x) (children y)) None

abbrev pub pair_trees : Pairs → Sides
pair_trees p.Leaf = []
pair_trees (p.One a b) = (sub_tree a, sub_tree b) ∷ []
pair_trees (p.Two a b c d) = (sub_tree a, sub_tree b) ∷ (sub_tree c, sub_tree d) ∷ []
pair_trees (p.Three a b c d e f) = (sub_tree a, sub_tree b) ∷ (sub_tree c, sub_tree d) ∷ (sub_tree e, sub_tree f) ∷ []

abbrev pub same_kind : TermTree → TermTree → Bool
same_kind (TermF f) (TermF g) = true
same_kind (TermP p) (TermP q) = true
same_kind (TermC c) (TermC d) = true
same_kind _ _ = false

-- the variable's name
abbrev pub variable_name : TermTree → Option (List ℕ)
variable_name (TermF (FMeta n)) = Some n
variable_name (TermP (PMeta n)) = Some n
variable_name (TermC (CMeta n)) = Some n
variable_name _ = None

-- the first term of the name and of the kind of t
abbrev pub first_like : TermTree → List ℕ → Found TermTree → Option TermTree
first_like t n [] = None
first_like t n (e ∷ es) = cond (bytes_eq n e.0 && same_kind t e.1) (Some e.1) (first_like t n es)

-- the variable of the name, of the kind of t
abbrev pub variable_like : TermTree → List ℕ → TermTree
variable_like (TermF f) n = TermF (FMeta n)
variable_like (TermP p) n = TermP (PMeta n)
variable_like (TermC c) n = TermC (CMeta n)
