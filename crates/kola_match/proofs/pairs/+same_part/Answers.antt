use Rattle.std.proofs.Common.{Some, sym, ap, ◌∙◌, arith}
use Rattle.kola_term.specs.Parts.{sub_tree}
use Rattle.kola_match.specs.Alike.{pair_trees}
use Rattle.kola_match.proofs.PairLaws.{one_nodes, two_nodes, three_nodes, no_pairs, leaf_same, one_same, two_same, three_same}
use Rattle.kola_match.proofs.pairs.+same_part.Goals as goal

pub same_part-requires : goal.same_part-requires
same_part-requires t c = (omega (arith, one_nodes (sub_tree c.args.a) (sub_tree c.args.b) (sub_tree c.in-Some-One.a) (sub_tree c.in-Some-One.b) (ap (λ z. Some (pair_trees z)) (sym c.in-Some-One.field-0-is) ∙ c.in-Some-One.ensures), c.decreases), tt)

pub same_part-requires-in-Some-Two : goal.same_part-requires-in-Some-Two
same_part-requires-in-Some-Two t c = (omega (arith, two_nodes (sub_tree c.args.a) (sub_tree c.args.b) (sub_tree c.in-Some-Two.a) (sub_tree c.in-Some-Two.b) (sub_tree c.in-Some-Two.c) (sub_tree c.in-Some-Two.d) (ap (λ z. Some (pair_trees z)) (sym c.in-Some-Two.field-0-is) ∙ c.in-Some-Two.ensures), c.decreases), tt)

pub same_part-requires-then-same_part : goal.same_part-requires-then-same_part
same_part-requires-then-same_part t c = (omega (arith, two_nodes (sub_tree c.args.a) (sub_tree c.args.b) (sub_tree c.in-Some-Two.a) (sub_tree c.in-Some-Two.b) (sub_tree c.in-Some-Two.c) (sub_tree c.in-Some-Two.d) (ap (λ z. Some (pair_trees z)) (sym c.in-Some-Two.field-0-is) ∙ c.in-Some-Two.ensures), c.decreases), tt)

pub same_part-requires-in-Some-Three : goal.same_part-requires-in-Some-Three
same_part-requires-in-Some-Three t c = (omega (arith, three_nodes (sub_tree c.args.a) (sub_tree c.args.b) (sub_tree c.in-Some-Three.a) (sub_tree c.in-Some-Three.b) (sub_tree c.in-Some-Three.c) (sub_tree c.in-Some-Three.d) (sub_tree c.in-Some-Three.e) (sub_tree c.in-Some-Three.f) (ap (λ z. Some (pair_trees z)) (sym c.in-Some-Three.field-0-is) ∙ c.in-Some-Three.ensures), c.decreases), tt)

pub same_part-requires-in-Some-Three-2 : goal.same_part-requires-in-Some-Three-2
same_part-requires-in-Some-Three-2 t c = (omega (arith, three_nodes (sub_tree c.args.a) (sub_tree c.args.b) (sub_tree c.in-Some-Three.a) (sub_tree c.in-Some-Three.b) (sub_tree c.in-Some-Three.c) (sub_tree c.in-Some-Three.d) (sub_tree c.in-Some-Three.e) (sub_tree c.in-Some-Three.f) (ap (λ z. Some (pair_trees z)) (sym c.in-Some-Three.field-0-is) ∙ c.in-Some-Three.ensures), c.decreases), tt)

pub same_part-requires-then-same_part-2 : goal.same_part-requires-then-same_part-2
same_part-requires-then-same_part-2 t c = (omega (arith, three_nodes (sub_tree c.args.a) (sub_tree c.args.b) (sub_tree c.in-Some-Three.a) (sub_tree c.in-Some-Three.b) (sub_tree c.in-Some-Three.c) (sub_tree c.in-Some-Three.d) (sub_tree c.in-Some-Three.e) (sub_tree c.in-Some-Three.f) (ap (λ z. Some (pair_trees z)) (sym c.in-Some-Three.field-0-is) ∙ c.in-Some-Three.ensures), c.decreases), tt)

pub returns-in-None : goal.returns-in-None
returns-in-None t c = no_pairs (sub_tree c.args.a) (sub_tree c.args.b) c.in-None.ensures

pub returns-in-Some-Leaf : goal.returns-in-Some-Leaf
returns-in-Some-Leaf t c = leaf_same (sub_tree c.args.a) (sub_tree c.args.b) (ap (λ z. Some (pair_trees z)) (sym c.in-Some-Leaf.field-0-is) ∙ c.in-Some-Leaf.ensures)

pub returns-in-Some-One : goal.returns-in-Some-One
returns-in-Some-One t c = one_same (sub_tree c.args.a) (sub_tree c.args.b) (sub_tree c.in-Some-One.a) (sub_tree c.in-Some-One.b) c.same_part.result (ap (λ z. Some (pair_trees z)) (sym c.in-Some-One.field-0-is) ∙ c.in-Some-One.ensures) c.same_part.ensures

pub returns-then-same_part : goal.returns-then-same_part
returns-then-same_part t c = two_same (sub_tree c.args.a) (sub_tree c.args.b) (sub_tree c.in-Some-Two.a) (sub_tree c.in-Some-Two.b) (sub_tree c.in-Some-Two.c) (sub_tree c.in-Some-Two.d) c.same_part-then-same_part.result (ap (λ z. Some (pair_trees z)) (sym c.in-Some-Two.field-0-is) ∙ c.in-Some-Two.ensures) (c.same_part-in-Some-Two.ensures.0 c.if-same_part.true) c.same_part-then-same_part.ensures

pub returns-then-same_part-2 : goal.returns-then-same_part-2
returns-then-same_part-2 t c = three_same (sub_tree c.args.a) (sub_tree c.args.b) (sub_tree c.in-Some-Three.a) (sub_tree c.in-Some-Three.b) (sub_tree c.in-Some-Three.c) (sub_tree c.in-Some-Three.d) (sub_tree c.in-Some-Three.e) (sub_tree c.in-Some-Three.f) c.same_part-then-same_part-2.result (ap (λ z. Some (pair_trees z)) (sym c.in-Some-Three.field-0-is) ∙ c.in-Some-Three.ensures) (c.same_part-in-Some-Three.ensures.0 c.if-not-same_part.false) (c.same_part-in-Some-Three-2.ensures.0 c.if-same_part-2.true) c.same_part-then-same_part-2.ensures
