use Rattle.std.proofs.lemmas.Result.{on_ok_weaker}
use Rattle.kola_term.specs.Parts.{sub_tree}
use Rattle.coko_plan.specs.Variables.{variables}
use Rattle.coko_plan.specs.Working.Seen.{own}
use Rattle.coko_plan.proofs.Seeing.{sees_more, sees_as, one_has, two_have, three_have}
use Rattle.coko_plan.proofs.firing.+see.Goals as goal

pub returns-in-One : goal.returns-in-One
returns-in-One t c =
    let p = sub_tree c.args.part in
    let a = sub_tree c.in-One.a in
    on_ok_weaker c.see.result (λ h. sees_as c.args.seen.now c.see.new.seen _ (variables p) (one_has p a c.in-One.ensures) (sees_more c.args.seen.now c.see_node.new.seen c.see.new.seen (own p) (variables a) c.in_ok-see_node.ensures h)) c.see.ensures

pub returns-in_ok-see-in-Two : goal.returns-in_ok-see-in-Two
returns-in_ok-see-in-Two t c =
    let p = sub_tree c.args.part in
    let a = sub_tree c.in-Two.a in
    let b = sub_tree c.in-Two.b in
    on_ok_weaker c.see-in-Two-2.result (λ h. sees_as c.args.seen.now c.see-in-Two-2.new.seen _ (variables p) (two_have p a b c.in-Two.ensures) (sees_more c.args.seen.now c.see_node.new.seen c.see-in-Two-2.new.seen (own p) _ c.in_ok-see_node.ensures (sees_more c.see_node.new.seen c.see-in-Two.new.seen c.see-in-Two-2.new.seen (variables a) (variables b) c.in_ok-see-in-Two.ensures h))) c.see-in-Two-2.ensures

pub returns-in_ok-see-in-Three-2 : goal.returns-in_ok-see-in-Three-2
returns-in_ok-see-in-Three-2 t c =
    let p = sub_tree c.args.part in
    let x = sub_tree c.in-Three.a in
    let y = sub_tree c.in-Three.b in
    let z = sub_tree c.in-Three.c in
    let last = c.see-in-Three-3.new.seen in
    on_ok_weaker c.see-in-Three-3.result (λ h. sees_as c.args.seen.now last _ (variables p) (three_have p x y z c.in-Three.ensures) (sees_more c.args.seen.now c.see_node.new.seen last (own p) _ c.in_ok-see_node.ensures (sees_more c.see_node.new.seen c.see-in-Three.new.seen last (variables x) _ c.in_ok-see-in-Three.ensures (sees_more c.see-in-Three.new.seen c.see-in-Three-2.new.seen last (variables y) (variables z) c.in_ok-see-in-Three-2.ensures h)))) c.see-in-Three-3.ensures
