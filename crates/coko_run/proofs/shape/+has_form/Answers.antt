use Rattle.std.proofs.Common.{[], ◌∷◌}
use Rattle.kola_term.specs.Parts.{sub_tree}
use Rattle.coko_run.specs.Forms.{HasForm}
use Rattle.coko_run.proofs.Shapes.{variable_form, node_form, leaf_form, one_form, two_form, three_form, not_second}
use Rattle.coko_run.proofs.shape.+has_form.Goals as goal

pub returns-then-is_variable : goal.returns-then-is_variable
returns-then-is_variable t c = variable_form (sub_tree c.args.pattern) (sub_tree c.args.part) _ _ c.is_variable.ensures c.if-is_variable.true c.same_kind.ensures

pub returns-in-Leaf-Leaf : goal.returns-in-Leaf-Leaf
returns-in-Leaf-Leaf t c = leaf_form (HasForm (sub_tree c.args.pattern) (sub_tree c.args.part)) (node_form (sub_tree c.args.pattern) (sub_tree c.args.part) ([]) ([]) c.is_variable.result c.same_node.result c.is_variable.ensures c.if-is_variable.false c.same_node.ensures c.if-not-same_node.false c.in-Leaf-Leaf.ensures c.in-Leaf-Leaf.ensures')

pub returns-in-One-One : goal.returns-in-One-One
returns-in-One-One t c = one_form (HasForm (sub_tree c.args.pattern) (sub_tree c.args.part)) (sub_tree c.in-One-One.a) (sub_tree c.in-One-One.b) c.has_form.result (node_form (sub_tree c.args.pattern) (sub_tree c.args.part) (sub_tree c.in-One-One.a ∷ []) (sub_tree c.in-One-One.b ∷ []) c.is_variable.result c.same_node.result c.is_variable.ensures c.if-is_variable.false c.same_node.ensures c.if-not-same_node.false c.in-One-One.ensures c.in-One-One.ensures') c.has_form.ensures

pub returns-then-not-has_form-3 : goal.returns-then-not-has_form-3
returns-then-not-has_form-3 t c = not_second (HasForm (sub_tree c.args.pattern) (sub_tree c.args.part)) (sub_tree c.in-Three-Three.a) (sub_tree c.in-Three-Three.b) (sub_tree c.in-Three-Three.c) (sub_tree c.in-Three-Three.d) _ _ c.has_form-in-Three-Three-2.result (node_form (sub_tree c.args.pattern) (sub_tree c.args.part) (sub_tree c.in-Three-Three.a ∷ sub_tree c.in-Three-Three.c ∷ sub_tree c.in-Three-Three.e ∷ []) (sub_tree c.in-Three-Three.b ∷ sub_tree c.in-Three-Three.d ∷ sub_tree c.in-Three-Three.f ∷ []) c.is_variable.result c.same_node.result c.is_variable.ensures c.if-is_variable.false c.same_node.ensures c.if-not-same_node.false c.in-Three-Three.ensures c.in-Three-Three.ensures') c.has_form-in-Three-Three-2.ensures c.if-not-has_form-3.true

pub returns-else-not-has_form : goal.returns-else-not-has_form
returns-else-not-has_form t c = two_form (HasForm (sub_tree c.args.pattern) (sub_tree c.args.part)) (sub_tree c.in-Two-Two.a) (sub_tree c.in-Two-Two.b) (sub_tree c.in-Two-Two.c) (sub_tree c.in-Two-Two.d) c.has_form-in-Two-Two-2.result (node_form (sub_tree c.args.pattern) (sub_tree c.args.part) (sub_tree c.in-Two-Two.a ∷ sub_tree c.in-Two-Two.c ∷ []) (sub_tree c.in-Two-Two.b ∷ sub_tree c.in-Two-Two.d ∷ []) c.is_variable.result c.same_node.result c.is_variable.ensures c.if-is_variable.false c.same_node.ensures c.if-not-same_node.false c.in-Two-Two.ensures c.in-Two-Two.ensures') (c.has_form-in-Two-Two.ensures.0 c.if-not-has_form.false) c.has_form-in-Two-Two-2.ensures

pub returns-else-not-has_form-3 : goal.returns-else-not-has_form-3
returns-else-not-has_form-3 t c = three_form (HasForm (sub_tree c.args.pattern) (sub_tree c.args.part)) (sub_tree c.in-Three-Three.a) (sub_tree c.in-Three-Three.b) (sub_tree c.in-Three-Three.c) (sub_tree c.in-Three-Three.d) (sub_tree c.in-Three-Three.e) (sub_tree c.in-Three-Three.f) c.has_form-in-Three-Three-3.result (node_form (sub_tree c.args.pattern) (sub_tree c.args.part) (sub_tree c.in-Three-Three.a ∷ sub_tree c.in-Three-Three.c ∷ sub_tree c.in-Three-Three.e ∷ []) (sub_tree c.in-Three-Three.b ∷ sub_tree c.in-Three-Three.d ∷ sub_tree c.in-Three-Three.f ∷ []) c.is_variable.result c.same_node.result c.is_variable.ensures c.if-is_variable.false c.same_node.ensures c.if-not-same_node.false c.in-Three-Three.ensures c.in-Three-Three.ensures') (c.has_form-in-Three-Three.ensures.0 c.if-not-has_form-2.false) (c.has_form-in-Three-Three-2.ensures.0 c.if-not-has_form-3.false) c.has_form-in-Three-Three-3.ensures
