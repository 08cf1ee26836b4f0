use Rattle.std.proofs.Common.{subst}
use Rattle.kola_term.specs.ContextView.{meta_tree}
use Rattle.kola_term.specs.Parts.{sub_tree}
use Rattle.kola_match.specs.Occurring.{variable}
use Rattle.kola_match.specs.Leading.{LeadsBy}
use Rattle.kola_match.proofs.BindLaws.{if_ok}
use Rattle.kola_match.proofs.LeadingLaws.{leaf_leads, one_leads, two_leads, three_leads}
use Rattle.kola_match.proofs.find.+find.Goals as goal

pub find-returns-in-Leaf : goal.find-returns-in-Leaf
find-returns-in-Leaf t c =
    let v = variable c.args.name.now (meta_tree c.args.meta.now) in
    leaf_leads (sub_tree c.args.part) v c.args.path.now.items c.in-Leaf.ensures (λ e. let p = c.if-is_variable.ensures.1 e in absurd (cc))

pub find-returns-in-One : goal.find-returns-in-One
find-returns-in-One t c =
    let v = variable c.args.name.now (meta_tree c.args.meta.now) in
    if_ok _ _ c.find_child.result c.find_child.ensures (λ r f. one_leads (sub_tree c.args.part) v r (sub_tree c.in-One.a) c.args.path.now.items c.find_child.new.path.items c.in-One.ensures (λ e. let p = c.if-is_variable.ensures.1 e in absurd (cc)) f)

pub find-returns-else-branch : goal.find-returns-else-branch
find-returns-else-branch t c =
    let v = variable c.args.name.now (meta_tree c.args.meta.now) in
    let first = subst (λ z. LeadsBy 1 z (sub_tree c.in-Two.a) v c.args.path.now.items c.find_child-in-Two.new.path.items) c.if-branch.false c.in_ok-find_child-in-Two.ensures in
    if_ok _ _ c.find_child-in-Two-2.result c.find_child-in-Two-2.ensures (λ r f. two_leads (sub_tree c.args.part) v r (sub_tree c.in-Two.a) (sub_tree c.in-Two.b) c.args.path.now.items c.find_child-in-Two.new.path.items c.find_child-in-Two-2.new.path.items c.in-Two.ensures (λ e. let p = c.if-is_variable.ensures.1 e in absurd (cc)) first f)

pub find-returns-else-branch-3 : goal.find-returns-else-branch-3
find-returns-else-branch-3 t c =
    let v = variable c.args.name.now (meta_tree c.args.meta.now) in
    let first = subst (λ z. LeadsBy 1 z (sub_tree c.in-Three.a) v c.args.path.now.items c.find_child-in-Three.new.path.items) c.if-branch-2.false c.in_ok-find_child-in-Three.ensures in
    let second = subst (λ z. LeadsBy 2 z (sub_tree c.in-Three.b) v c.find_child-in-Three.new.path.items c.find_child-in-Three-2.new.path.items) c.if-branch-3.false c.in_ok-find_child-in-Three-2.ensures in
    if_ok _ _ c.find_child-in-Three-3.result c.find_child-in-Three-3.ensures
    (λ r f. three_leads (sub_tree c.args.part) v r (sub_tree c.in-Three.a) (sub_tree c.in-Three.b) (sub_tree c.in-Three.c) c.args.path.now.items c.find_child-in-Three.new.path.items c.find_child-in-Three-2.new.path.items c.find_child-in-Three-3.new.path.items c.in-Three.ensures (λ e. let p = c.if-is_variable.ensures.1 e in absurd (cc)) first second f)
