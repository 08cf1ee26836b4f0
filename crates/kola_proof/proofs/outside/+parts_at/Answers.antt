use Rattle.std.proofs.Common.{None, sym, subst, option_map, arith}
use Rattle.kola_term.specs.Parts.{sub_tree}
use Rattle.kola_proof.specs.Outside.{both_trees, AreChildren, AreParts}
use Rattle.kola_proof.proofs.SameOutside.{parts_end, parts_found, no_children}
use Rattle.kola_proof.proofs.outside.+parts_at.Goals as goal

pub returns-in_default : goal.returns-in_default
returns-in_default t c = parts_end (sub_tree c.args.b) (sub_tree c.args.c) c.args.path.now c.in_default.ensures.cases

pub returns-in_default-children_at : goal.returns-in_default-children_at
returns-in_default-children_at t c =
    let h = subst (λ o. AreChildren (sub_tree c.args.b) (sub_tree c.args.c) c.in-Some.n.now (option_map both_trees o)) c.in_default-children_at.is c.children_at.ensures in
    subst (λ q. AreParts (sub_tree c.args.b) (sub_tree c.args.c) q None) (sym c.in-Some.ensures.cases.0) (no_children (sub_tree c.args.b) (sub_tree c.args.c) c.in-Some.n.now c.in-Some.rest.now h)

pub parts_at-requires : goal.parts_at-requires
parts_at-requires t c = (omega (arith, c.in-Some.ensures.cases.1), tt)

pub returns : goal.returns
returns t c =
    let h = subst (λ o. AreChildren (sub_tree c.args.b) (sub_tree c.args.c) c.in-Some.n.now (option_map both_trees o)) c.in-Some-children_at.is c.children_at.ensures in
    subst (λ q. AreParts (sub_tree c.args.b) (sub_tree c.args.c) q (option_map both_trees c.parts_at.result)) (sym c.in-Some.ensures.cases.0)
    (parts_found (sub_tree c.args.b) (sub_tree c.args.c) c.in-Some.n.now c.in-Some.rest.now (sub_tree c.in-Some-children_at.ours) (sub_tree c.in-Some-children_at.theirs) (option_map both_trees c.parts_at.result) h c.parts_at.ensures)
