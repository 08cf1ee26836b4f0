use Rattle.std.proofs.Common.{◌≡◌, true, false, sym, ap, ◌∙◌, option_map}
use Rattle.kola_term.specs.Parts.{sub_tree}
use Rattle.kola_proof.proofs.SameOutside.{children_found, other_node, others_differ, no_first, no_second}
use Rattle.kola_proof.proofs.outside.children_at.Goals as goal

pub returns-then-not-same_node : goal.returns-then-not-same_node
returns-then-not-same_node c = other_node (sub_tree c.args.b) (sub_tree c.args.c) c.args.n (sym c.same_node.ensures ∙ c.if-not-same_node.true)

pub returns-then-not-same_others : goal.returns-then-not-same_others
returns-then-not-same_others c = others_differ (sub_tree c.args.b) (sub_tree c.args.c) c.args.n (λ t. let k : true ≡ false = sym (c.same_others.ensures.1 t) ∙ c.if-not-same_others.true in cc)

pub returns-in_default : goal.returns-in_default
returns-in_default c = no_first (sub_tree c.args.b) (sub_tree c.args.c) c.args.n (sym c.child.ensures ∙ ap (option_map sub_tree) c.in_default.is)

pub returns-in_default-child : goal.returns-in_default-child
returns-in_default-child c = no_second (sub_tree c.args.b) (sub_tree c.args.c) c.args.n (sym c.child-2.ensures ∙ ap (option_map sub_tree) c.in_default-child.is)

pub returns : goal.returns
returns c =
    let t = c.same_others.ensures.0 c.if-not-same_others.false in
    children_found (sub_tree c.args.b) (sub_tree c.args.c) c.args.n (sub_tree c.in-Some.ours) (sub_tree c.in-Some-child.theirs) (sym c.same_node.ensures ∙ c.if-not-same_node.false) t.0 t.1 t.2
    (sym c.child.ensures ∙ ap (option_map sub_tree) c.in-Some.is) (sym c.child-2.ensures ∙ ap (option_map sub_tree) c.in-Some-child.is)
