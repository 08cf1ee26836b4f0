-- The nodes and the depth of a term by those of its children.
use Rattle.std.proofs.Common.{◌≡◌, ℕ, ◌+◌, max, List, [], ◌∷◌, refl, sym, ◌∙◌, ap, arith}
use Rattle.std.specs.Prelude.{sum_by}
use Rattle.kola_term.specs.Terms.{FComp, FPair, FTimes, FK, FC, FIf, FIterate, FIter, FJoin, FNest, FUnnest, PAt, PAnd, POr, PNot, PInv, PCP, PEx, PFa, TermTree, TermF, TermP}
use Rattle.kola_term.specs.Counts.{nodes, depth}
use Rattle.kola_term.specs.Places.{children}

pub nodes_by_children : (t : TermTree) → nodes t ≡ 1 + sum_by nodes (children t)
nodes_by_children (TermF (FComp f g)) = omega arith
nodes_by_children (TermF (FPair f g)) = omega arith
nodes_by_children (TermF (FTimes f g)) = omega arith
nodes_by_children (TermF (FK c)) = refl
nodes_by_children (TermF (FC f c)) = omega arith
nodes_by_children (TermF (FIf p f g)) = omega arith
nodes_by_children (TermF (FIterate p f)) = omega arith
nodes_by_children (TermF (FIter p f)) = omega arith
nodes_by_children (TermF (FJoin p f)) = omega arith
nodes_by_children (TermF (FNest f g)) = omega arith
nodes_by_children (TermF (FUnnest f g)) = omega arith
nodes_by_children (TermP (PAt p f)) = omega arith
nodes_by_children (TermP (PAnd p q)) = omega arith
nodes_by_children (TermP (POr p q)) = omega arith
nodes_by_children (TermP (PNot p)) = omega arith
nodes_by_children (TermP (PInv p)) = omega arith
nodes_by_children (TermP (PCP p c)) = omega arith
nodes_by_children (TermP (PEx p)) = omega arith
nodes_by_children (TermP (PFa p)) = omega arith
nodes_by_children _ = refl

abbrev deepest : List TermTree → ℕ
deepest [] = 0
deepest (c ∷ cs) = max (depth c) (deepest cs)

pub depth_by_children : (t : TermTree) → depth t ≡ 1 + deepest (children t)
depth_by_children (TermF (FComp f g)) = omega arith
depth_by_children (TermF (FPair f g)) = omega arith
depth_by_children (TermF (FTimes f g)) = omega arith
depth_by_children (TermF (FK c)) = refl
depth_by_children (TermF (FC f c)) = omega arith
depth_by_children (TermF (FIf p f g)) = omega arith
depth_by_children (TermF (FIterate p f)) = omega arith
depth_by_children (TermF (FIter p f)) = omega arith
depth_by_children (TermF (FJoin p f)) = omega arith
depth_by_children (TermF (FNest f g)) = omega arith
depth_by_children (TermF (FUnnest f g)) = omega arith
depth_by_children (TermP (PAt p f)) = omega arith
depth_by_children (TermP (PAnd p q)) = omega arith
depth_by_children (TermP (POr p q)) = omega arith
depth_by_children (TermP (PNot p)) = omega arith
depth_by_children (TermP (PInv p)) = omega arith
depth_by_children (TermP (PCP p c)) = omega arith
depth_by_children (TermP (PEx p)) = omega arith
depth_by_children (TermP (PFa p)) = omega arith
depth_by_children _ = refl

-- of a node whose children are these
pub leaf_nodes : (t : TermTree) → [] ≡ children t → nodes t ≡ 1
leaf_nodes t e = nodes_by_children t ∙ ap (λ cs. 1 + sum_by nodes cs) (sym e)

pub one_nodes : (t a : TermTree) → a ∷ [] ≡ children t → nodes t ≡ 1 + nodes a
one_nodes t a e = let h : nodes t ≡ 1 + (0 + nodes a) = nodes_by_children t ∙ ap (λ cs. 1 + sum_by nodes cs) (sym e) in omega (arith, h)

pub two_nodes : (t a b : TermTree) → a ∷ b ∷ [] ≡ children t → nodes t ≡ 1 + nodes a + nodes b
two_nodes t a b e = let h : nodes t ≡ 1 + (0 + nodes a + nodes b) = nodes_by_children t ∙ ap (λ cs. 1 + sum_by nodes cs) (sym e) in omega (arith, h)

pub three_nodes : (t a b c : TermTree) → a ∷ b ∷ c ∷ [] ≡ children t → nodes t ≡ 1 + nodes a + nodes b + nodes c
three_nodes t a b c e = let h : nodes t ≡ 1 + (0 + nodes a + nodes b + nodes c) = nodes_by_children t ∙ ap (λ cs. 1 + sum_by nodes cs) (sym e) in omega (arith, h)

pub leaf_depth : (t : TermTree) → [] ≡ children t → depth t ≡ 1
leaf_depth t e = depth_by_children t ∙ ap (λ cs. 1 + deepest cs) (sym e)

pub one_depth : (t a : TermTree) → a ∷ [] ≡ children t → depth t ≡ 1 + depth a
one_depth t a e = let h : depth t ≡ 1 + max (depth a) 0 = depth_by_children t ∙ ap (λ cs. 1 + deepest cs) (sym e) in omega (arith, h)

pub two_depth : (t a b : TermTree) → a ∷ b ∷ [] ≡ children t → depth t ≡ 1 + max (depth a) (depth b)
two_depth t a b e = let h : depth t ≡ 1 + max (depth a) (max (depth b) 0) = depth_by_children t ∙ ap (λ cs. 1 + deepest cs) (sym e) in omega (arith, h)

pub three_depth : (t a b c : TermTree) → a ∷ b ∷ c ∷ [] ≡ children t → depth t ≡ 1 + max (depth a) (max (depth b) (depth c))
three_depth t a b c e =
    let h : depth t ≡ 1 + max (depth a) (max (depth b) (max (depth c) 0)) = depth_by_children t ∙ ap (λ cs. 1 + deepest cs) (sym e) in
    omega (arith, h)

pub ruleset by_children = (leaf_nodes, one_nodes, two_nodes, three_nodes, leaf_depth, one_depth, two_depth, three_depth)
