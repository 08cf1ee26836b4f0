-- Nodes and depth, computed.
use Rattle.std.proofs.Common.{◌≡◌, pos, true, refl}
use Rattle.kola_term.specs.Terms.{CInt, CBool, FId, FSnd, FC, FIf, PNot, PEq, PKP, PCP, TermF, TermP, TermC}
use Rattle.kola_term.specs.Counts.{nodes, depth}
use Rattle.kola_term.proofs.Examples.{below, persons, same_persons}

-- (iter((lt @ <snd, K(3)>), snd) o <id, K({1, 2, 3})>)
below_nodes : nodes (TermF (below 3)) ≡ 13
below_nodes = refl

below_depth : depth (TermF (below 3)) ≡ 6
below_depth = refl

persons_nodes : nodes (TermF persons) ≡ 2
persons_nodes = refl

persons_depth : depth (TermF persons) ≡ 2
persons_depth = refl

same_persons_nodes : nodes (TermF same_persons) ≡ 27
same_persons_nodes = refl

-- KP(true) has no children
truth_nodes : nodes (TermP (PNot (PKP true))) ≡ 2
truth_nodes = refl

-- CP(eq, 1)
partial_nodes : nodes (TermP (PCP PEq (CInt (pos 1)))) ≡ 3
partial_nodes = refl

partial_depth : depth (TermP (PCP PEq (CInt (pos 1)))) ≡ 2
partial_depth = refl

-- if(KP(true), C(snd, 1), id)
choice_nodes : nodes (TermF (FIf (PKP true) (FC FSnd (CInt (pos 1))) FId)) ≡ 6
choice_nodes = refl

choice_depth : depth (TermF (FIf (PKP true) (FC FSnd (CInt (pos 1))) FId)) ≡ 3
choice_depth = refl

constant_nodes : nodes (TermC (CBool true)) ≡ 1
constant_nodes = refl
