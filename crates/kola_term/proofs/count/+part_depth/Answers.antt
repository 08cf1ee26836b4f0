use Rattle.std.proofs.Common.{arith}
use Rattle.kola_term.specs.Parts.{sub_tree}
use Rattle.kola_term.proofs.ByChildren.{two_nodes, three_nodes, one_depth, two_depth, three_depth}
use Rattle.kola_term.proofs.count.+part_depth.Goals as goal

pub part_depth-requires-in-Two-2 : goal.part_depth-requires-in-Two-2
part_depth-requires-in-Two-2 t c = (omega (arith, two_nodes (sub_tree c.args.part) (sub_tree c.in-Two.a) (sub_tree c.in-Two.b) c.in-Two.ensures, c.decreases), tt)

pub part_depth-requires-in-Three-3 : goal.part_depth-requires-in-Three-3
part_depth-requires-in-Three-3 t c =
    (omega (arith, three_nodes (sub_tree c.args.part) (sub_tree c.in-Three.a) (sub_tree c.in-Three.b) (sub_tree c.in-Three.c) c.in-Three.ensures, c.decreases), tt)

pub returns-in-One : goal.returns-in-One
returns-in-One t c = omega (arith, one_depth (sub_tree c.args.part) (sub_tree c.in-One.a) c.in-One.ensures, c.part_depth.ensures, c.saturating_add.ensures)

pub returns-in-Two : goal.returns-in-Two
returns-in-Two t c =
    omega (
      arith,
      two_depth (sub_tree c.args.part) (sub_tree c.in-Two.a) (sub_tree c.in-Two.b) c.in-Two.ensures,
      c.part_depth-in-Two.ensures,
      c.part_depth-in-Two-2.ensures,
      c.max.ensures,
      c.saturating_add-in-Two.ensures,
    )

pub returns-in-Three : goal.returns-in-Three
returns-in-Three t c =
    omega (
      arith,
      three_depth (sub_tree c.args.part) (sub_tree c.in-Three.a) (sub_tree c.in-Three.b) (sub_tree c.in-Three.c) c.in-Three.ensures,
      c.part_depth-in-Three.ensures,
      c.part_depth-in-Three-2.ensures,
      c.part_depth-in-Three-3.ensures,
      c.max-in-Three.ensures,
      c.max-in-Three-2.ensures,
      c.saturating_add-in-Three.ensures,
    )
