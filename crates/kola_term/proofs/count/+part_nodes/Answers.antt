use Rattle.std.proofs.Common.{arith}
use Rattle.kola_term.specs.Parts.{sub_tree}
use Rattle.kola_term.proofs.ByChildren.{one_nodes, two_nodes, three_nodes}
use Rattle.kola_term.proofs.count.+part_nodes.Goals as goal

pub part_nodes-requires-in-Two-2 : goal.part_nodes-requires-in-Two-2
part_nodes-requires-in-Two-2 t c = (omega (arith, two_nodes (sub_tree c.args.part) (sub_tree c.in-Two.a) (sub_tree c.in-Two.b) c.in-Two.ensures, c.decreases), tt)

pub part_nodes-requires-in-Three-2 : goal.part_nodes-requires-in-Three-2
part_nodes-requires-in-Three-2 t c =
    (omega (arith, three_nodes (sub_tree c.args.part) (sub_tree c.in-Three.a) (sub_tree c.in-Three.b) (sub_tree c.in-Three.c) c.in-Three.ensures, c.decreases), tt)

pub part_nodes-requires-in-Three-3 : goal.part_nodes-requires-in-Three-3
part_nodes-requires-in-Three-3 t c =
    (omega (arith, three_nodes (sub_tree c.args.part) (sub_tree c.in-Three.a) (sub_tree c.in-Three.b) (sub_tree c.in-Three.c) c.in-Three.ensures, c.decreases), tt)

pub returns-in-One : goal.returns-in-One
returns-in-One t c = omega (arith, one_nodes (sub_tree c.args.part) (sub_tree c.in-One.a) c.in-One.ensures, c.part_nodes.ensures, c.saturating_add.ensures)

pub returns-in-Two : goal.returns-in-Two
returns-in-Two t c =
    omega (
      arith,
      two_nodes (sub_tree c.args.part) (sub_tree c.in-Two.a) (sub_tree c.in-Two.b) c.in-Two.ensures,
      c.part_nodes-in-Two.ensures,
      c.part_nodes-in-Two-2.ensures,
      c.saturating_add-in-Two.ensures,
      c.saturating_add-in-Two-2.ensures,
    )

pub returns-in-Three : goal.returns-in-Three
returns-in-Three t c =
    omega (
      arith,
      three_nodes (sub_tree c.args.part) (sub_tree c.in-Three.a) (sub_tree c.in-Three.b) (sub_tree c.in-Three.c) c.in-Three.ensures,
      c.part_nodes-in-Three.ensures,
      c.part_nodes-in-Three-2.ensures,
      c.part_nodes-in-Three-3.ensures,
      c.saturating_add-in-Three.ensures,
      c.saturating_add-in-Three-2.ensures,
      c.saturating_add-in-Three-3.ensures,
    )
