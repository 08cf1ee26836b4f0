use Rattle.std.proofs.Common.{Some, [], ◌∷◌, sym, ap, ◌∙◌, arith}
use Rattle.kola_term.specs.Parts.{sub_tree}
use Rattle.kola_match.specs.Alike.{pair_trees}
use Rattle.kola_match.proofs.PairLaws.{one_nodes, two_nodes, three_nodes, gives, gives_none}
use Rattle.kola_match.proofs.matching.+may_match.Goals as goal

pub may_match-requires : goal.may_match-requires
may_match-requires t c = (omega (arith, one_nodes (sub_tree c.args.pattern) (sub_tree c.args.part) (sub_tree c.in-Some-One.a) (sub_tree c.in-Some-One.b) (ap (λ z. Some (pair_trees z)) (sym c.in-Some-One.field-0-is) ∙ c.in-Some-One.ensures), c.decreases), tt)

pub may_match-requires-in-Some-Two : goal.may_match-requires-in-Some-Two
may_match-requires-in-Some-Two t c = (omega (arith, two_nodes (sub_tree c.args.pattern) (sub_tree c.args.part) (sub_tree c.in-Some-Two.a) (sub_tree c.in-Some-Two.b) (sub_tree c.in-Some-Two.c) (sub_tree c.in-Some-Two.d) (ap (λ z. Some (pair_trees z)) (sym c.in-Some-Two.field-0-is) ∙ c.in-Some-Two.ensures), c.decreases), tt)

pub may_match-requires-then-may_match : goal.may_match-requires-then-may_match
may_match-requires-then-may_match t c = (omega (arith, two_nodes (sub_tree c.args.pattern) (sub_tree c.args.part) (sub_tree c.in-Some-Two.a) (sub_tree c.in-Some-Two.b) (sub_tree c.in-Some-Two.c) (sub_tree c.in-Some-Two.d) (ap (λ z. Some (pair_trees z)) (sym c.in-Some-Two.field-0-is) ∙ c.in-Some-Two.ensures), c.decreases), tt)

pub may_match-requires-in-Some-Three : goal.may_match-requires-in-Some-Three
may_match-requires-in-Some-Three t c = (omega (arith, three_nodes (sub_tree c.args.pattern) (sub_tree c.args.part) (sub_tree c.in-Some-Three.a) (sub_tree c.in-Some-Three.b) (sub_tree c.in-Some-Three.c) (sub_tree c.in-Some-Three.d) (sub_tree c.in-Some-Three.e) (sub_tree c.in-Some-Three.f) (ap (λ z. Some (pair_trees z)) (sym c.in-Some-Three.field-0-is) ∙ c.in-Some-Three.ensures), c.decreases), tt)

pub may_match-requires-in-Some-Three-2 : goal.may_match-requires-in-Some-Three-2
may_match-requires-in-Some-Three-2 t c = (omega (arith, three_nodes (sub_tree c.args.pattern) (sub_tree c.args.part) (sub_tree c.in-Some-Three.a) (sub_tree c.in-Some-Three.b) (sub_tree c.in-Some-Three.c) (sub_tree c.in-Some-Three.d) (sub_tree c.in-Some-Three.e) (sub_tree c.in-Some-Three.f) (ap (λ z. Some (pair_trees z)) (sym c.in-Some-Three.field-0-is) ∙ c.in-Some-Three.ensures), c.decreases), tt)

pub may_match-requires-then-may_match-2 : goal.may_match-requires-then-may_match-2
may_match-requires-then-may_match-2 t c = (omega (arith, three_nodes (sub_tree c.args.pattern) (sub_tree c.args.part) (sub_tree c.in-Some-Three.a) (sub_tree c.in-Some-Three.b) (sub_tree c.in-Some-Three.c) (sub_tree c.in-Some-Three.d) (sub_tree c.in-Some-Three.e) (sub_tree c.in-Some-Three.f) (ap (λ z. Some (pair_trees z)) (sym c.in-Some-Three.field-0-is) ∙ c.in-Some-Three.ensures), c.decreases), tt)

pub returns-in-None : goal.returns-in-None
returns-in-None t c = λ _ s h. gives_none (sub_tree c.args.pattern) (sub_tree c.args.part) c.in_default.ensures c.in-None.ensures s h

pub returns-in-Some-One : goal.returns-in-Some-One
returns-in-Some-One t c = λ q s h. c.may_match.ensures q s ((gives (sub_tree c.args.pattern) (sub_tree c.args.part) ((sub_tree c.in-Some-One.a, sub_tree c.in-Some-One.b) ∷ []) c.in_default.ensures (ap (λ z. Some (pair_trees z)) (sym c.in-Some-One.field-0-is) ∙ c.in-Some-One.ensures) s).1 h).0

pub returns-then-may_match : goal.returns-then-may_match
returns-then-may_match t c = λ q s h. c.may_match-then-may_match.ensures q s ((gives (sub_tree c.args.pattern) (sub_tree c.args.part) ((sub_tree c.in-Some-Two.a, sub_tree c.in-Some-Two.b) ∷ (sub_tree c.in-Some-Two.c, sub_tree c.in-Some-Two.d) ∷ []) c.in_default.ensures (ap (λ z. Some (pair_trees z)) (sym c.in-Some-Two.field-0-is) ∙ c.in-Some-Two.ensures) s).1 h).1.0

pub returns-else-may_match : goal.returns-else-may_match
returns-else-may_match t c = λ q s h. c.may_match-in-Some-Two.ensures q s ((gives (sub_tree c.args.pattern) (sub_tree c.args.part) ((sub_tree c.in-Some-Two.a, sub_tree c.in-Some-Two.b) ∷ (sub_tree c.in-Some-Two.c, sub_tree c.in-Some-Two.d) ∷ []) c.in_default.ensures (ap (λ z. Some (pair_trees z)) (sym c.in-Some-Two.field-0-is) ∙ c.in-Some-Two.ensures) s).1 h).0

pub returns-then-not-may_match : goal.returns-then-not-may_match
returns-then-not-may_match t c = λ _ s h. c.may_match-in-Some-Three.ensures c.if-not-may_match.true s ((gives (sub_tree c.args.pattern) (sub_tree c.args.part) ((sub_tree c.in-Some-Three.a, sub_tree c.in-Some-Three.b) ∷ (sub_tree c.in-Some-Three.c, sub_tree c.in-Some-Three.d) ∷ (sub_tree c.in-Some-Three.e, sub_tree c.in-Some-Three.f) ∷ []) c.in_default.ensures (ap (λ z. Some (pair_trees z)) (sym c.in-Some-Three.field-0-is) ∙ c.in-Some-Three.ensures) s).1 h).0

pub returns-then-may_match-2 : goal.returns-then-may_match-2
returns-then-may_match-2 t c = λ q s h. c.may_match-then-may_match-2.ensures q s ((gives (sub_tree c.args.pattern) (sub_tree c.args.part) ((sub_tree c.in-Some-Three.a, sub_tree c.in-Some-Three.b) ∷ (sub_tree c.in-Some-Three.c, sub_tree c.in-Some-Three.d) ∷ (sub_tree c.in-Some-Three.e, sub_tree c.in-Some-Three.f) ∷ []) c.in_default.ensures (ap (λ z. Some (pair_trees z)) (sym c.in-Some-Three.field-0-is) ∙ c.in-Some-Three.ensures) s).1 h).1.1.0

pub returns-else-may_match-2 : goal.returns-else-may_match-2
returns-else-may_match-2 t c = λ q s h. c.may_match-in-Some-Three-2.ensures q s ((gives (sub_tree c.args.pattern) (sub_tree c.args.part) ((sub_tree c.in-Some-Three.a, sub_tree c.in-Some-Three.b) ∷ (sub_tree c.in-Some-Three.c, sub_tree c.in-Some-Three.d) ∷ (sub_tree c.in-Some-Three.e, sub_tree c.in-Some-Three.f) ∷ []) c.in_default.ensures (ap (λ z. Some (pair_trees z)) (sym c.in-Some-Three.field-0-is) ∙ c.in-Some-Three.ensures) s).1 h).1.0
