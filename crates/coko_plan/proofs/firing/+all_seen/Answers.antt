use Rattle.std.proofs.Common.{arith, ◌&&◌, ap₂, ◌∙◌}
use Rattle.kola_term.specs.Parts.{sub_tree}
use Rattle.kola_term.proofs.ByChildren.{two_nodes, three_nodes}
use Rattle.coko_plan.specs.Working.Seen.{has_seen}
use Rattle.coko_plan.proofs.Seeing.{all_one, all_two, all_three}
use Rattle.coko_plan.proofs.firing.+all_seen.Goals as goal

pub all_seen-second-requires : goal.all_seen-second-requires
all_seen-second-requires t c = (omega (arith, two_nodes (sub_tree c.args.part) (sub_tree c.in-Two.a) (sub_tree c.in-Two.b) c.in-Two.ensures, c.decreases), tt)

pub all_seen-third-requires : goal.all_seen-third-requires
all_seen-third-requires t c =
    (omega (arith, three_nodes (sub_tree c.args.part) (sub_tree c.in-Three.a) (sub_tree c.in-Three.b) (sub_tree c.in-Three.c) c.in-Three.ensures, c.decreases), tt)

pub returns-in-One : goal.returns-in-One
returns-in-One t c = ap₂ (λ x y. x && y) c.passes-own.ensures c.all_seen.ensures ∙ all_one (has_seen c.args.seen.now) (sub_tree c.args.part) (sub_tree c.in-One.a) c.in-One.ensures

pub returns-in-Two : goal.returns-in-Two
returns-in-Two t c =
    ap₂ (λ x y. x && y) c.passes-own.ensures (ap₂ (λ x y. x && y) c.all_seen-first.ensures c.all_seen-second.ensures)
    ∙ all_two (has_seen c.args.seen.now) (sub_tree c.args.part) (sub_tree c.in-Two.a) (sub_tree c.in-Two.b) c.in-Two.ensures

pub returns-in-Three : goal.returns-in-Three
returns-in-Three t c =
    ap₂ (λ x y. x && y) c.passes-own.ensures (ap₂ (λ x y. x && y) c.all_seen-first-in-Three.ensures (ap₂ (λ x y. x && y) c.all_seen-second-in-Three.ensures c.all_seen-third.ensures))
    ∙ all_three (has_seen c.args.seen.now) (sub_tree c.args.part) (sub_tree c.in-Three.a) (sub_tree c.in-Three.b) (sub_tree c.in-Three.c) c.in-Three.ensures
