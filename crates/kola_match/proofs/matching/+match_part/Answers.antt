use Rattle.std.proofs.Common.{◌≡◌, true, false, Some, [], ◌∷◌, sym, ap, subst, ◌∙◌, arith}
use Rattle.kola_term.specs.Parts.{sub_tree}
use Rattle.kola_match.specs.Substitutions.{inst}
use Rattle.kola_match.specs.Alike.{pair_trees}
use Rattle.kola_match.specs.Finding.{Finds}
use Rattle.kola_match.specs.FoundViews.{binds_of}
use Rattle.kola_match.proofs.PairLaws.{one_nodes, two_nodes, three_nodes, gives, gives_none, variable_is}
use Rattle.kola_match.proofs.BindLaws.{finds_nothing_more, finds_same, finds_then, if_ok}
use Rattle.kola_match.proofs.matching.+match_part.Goals as goal

pub match_part-requires : goal.match_part-requires
match_part-requires t c = (omega (arith, one_nodes (sub_tree c.args.pattern) (sub_tree c.args.part) (sub_tree c.in-Some-One.a) (sub_tree c.in-Some-One.b) (ap (λ z. Some (pair_trees z)) (sym c.in-Some-One.field-0-is) ∙ c.in-Some-One.ensures), c.decreases), tt)

pub match_part-requires-in-Some-Two : goal.match_part-requires-in-Some-Two
match_part-requires-in-Some-Two t c = (omega (arith, two_nodes (sub_tree c.args.pattern) (sub_tree c.args.part) (sub_tree c.in-Some-Two.a) (sub_tree c.in-Some-Two.b) (sub_tree c.in-Some-Two.c) (sub_tree c.in-Some-Two.d) (ap (λ z. Some (pair_trees z)) (sym c.in-Some-Two.field-0-is) ∙ c.in-Some-Two.ensures), c.decreases), tt)

pub match_part-requires-in-Some-Two-2 : goal.match_part-requires-in-Some-Two-2
match_part-requires-in-Some-Two-2 t c = (omega (arith, two_nodes (sub_tree c.args.pattern) (sub_tree c.args.part) (sub_tree c.in-Some-Two.a) (sub_tree c.in-Some-Two.b) (sub_tree c.in-Some-Two.c) (sub_tree c.in-Some-Two.d) (ap (λ z. Some (pair_trees z)) (sym c.in-Some-Two.field-0-is) ∙ c.in-Some-Two.ensures), c.decreases), tt)

pub match_part-requires-in-Some-Three : goal.match_part-requires-in-Some-Three
match_part-requires-in-Some-Three t c = (omega (arith, three_nodes (sub_tree c.args.pattern) (sub_tree c.args.part) (sub_tree c.in-Some-Three.a) (sub_tree c.in-Some-Three.b) (sub_tree c.in-Some-Three.c) (sub_tree c.in-Some-Three.d) (sub_tree c.in-Some-Three.e) (sub_tree c.in-Some-Three.f) (ap (λ z. Some (pair_trees z)) (sym c.in-Some-Three.field-0-is) ∙ c.in-Some-Three.ensures), c.decreases), tt)

pub match_part-requires-in-Some-Three-2 : goal.match_part-requires-in-Some-Three-2
match_part-requires-in-Some-Three-2 t c = (omega (arith, three_nodes (sub_tree c.args.pattern) (sub_tree c.args.part) (sub_tree c.in-Some-Three.a) (sub_tree c.in-Some-Three.b) (sub_tree c.in-Some-Three.c) (sub_tree c.in-Some-Three.d) (sub_tree c.in-Some-Three.e) (sub_tree c.in-Some-Three.f) (ap (λ z. Some (pair_trees z)) (sym c.in-Some-Three.field-0-is) ∙ c.in-Some-Three.ensures), c.decreases), tt)

pub match_part-requires-in-Some-Three-3 : goal.match_part-requires-in-Some-Three-3
match_part-requires-in-Some-Three-3 t c = (omega (arith, three_nodes (sub_tree c.args.pattern) (sub_tree c.args.part) (sub_tree c.in-Some-Three.a) (sub_tree c.in-Some-Three.b) (sub_tree c.in-Some-Three.c) (sub_tree c.in-Some-Three.d) (sub_tree c.in-Some-Three.e) (sub_tree c.in-Some-Three.f) (ap (λ z. Some (pair_trees z)) (sym c.in-Some-Three.field-0-is) ∙ c.in-Some-Three.ensures), c.decreases), tt)

pub returns-in-Some : goal.returns-in-Some
returns-in-Some t c = if_ok _ _ c.take_part.result c.take_part.ensures (λ b f. subst (λ z. Finds b (binds_of c.args.found.now) (binds_of c.take_part.new.self) (λ s. inst s z ≡ sub_tree c.args.part)) (variable_is (sub_tree c.args.pattern) (sub_tree c.args.part) c.in-Some.name.now c.in-Some.ensures c.if-not-same_kind.ensures) f)

pub returns-in-None : goal.returns-in-None
returns-in-None t c = λ s x h. gives_none (sub_tree c.args.pattern) (sub_tree c.args.part) c.in_default.ensures c.in-None.ensures s h

pub returns-in-Some-Leaf : goal.returns-in-Some-Leaf
returns-in-Some-Leaf t c = finds_nothing_more (binds_of c.args.found.now) (λ s. inst s (sub_tree c.args.pattern) ≡ sub_tree c.args.part) (λ s. (gives (sub_tree c.args.pattern) (sub_tree c.args.part) [] c.in_default.ensures (ap (λ z. Some (pair_trees z)) (sym c.in-Some-Leaf.field-0-is) ∙ c.in-Some-Leaf.ensures) s).0 tt)

pub returns-in-Some-One : goal.returns-in-Some-One
returns-in-Some-One t c = if_ok _ _ c.match_part.result c.match_part.ensures (λ b f. finds_same b _ _ _ _ (λ s. (λ e. (gives (sub_tree c.args.pattern) (sub_tree c.args.part) ((sub_tree c.in-Some-One.a, sub_tree c.in-Some-One.b) ∷ []) c.in_default.ensures (ap (λ z. Some (pair_trees z)) (sym c.in-Some-One.field-0-is) ∙ c.in-Some-One.ensures) s).0 (e, tt), λ e. ((gives (sub_tree c.args.pattern) (sub_tree c.args.part) ((sub_tree c.in-Some-One.a, sub_tree c.in-Some-One.b) ∷ []) c.in_default.ensures (ap (λ z. Some (pair_trees z)) (sym c.in-Some-One.field-0-is) ∙ c.in-Some-One.ensures) s).1 e).0)) f)

pub returns-then-not-branch : goal.returns-then-not-branch
returns-then-not-branch t c = λ s x h. (subst (λ z. Finds z (binds_of c.args.found.now) (binds_of c.match_part-in-Some-Two.new.found) (λ s. inst s (sub_tree c.in-Some-Two.a) ≡ sub_tree c.in-Some-Two.b)) c.if-not-branch.true c.in_ok-match_part-in-Some-Two.ensures) s x ((gives (sub_tree c.args.pattern) (sub_tree c.args.part) ((sub_tree c.in-Some-Two.a, sub_tree c.in-Some-Two.b) ∷ (sub_tree c.in-Some-Two.c, sub_tree c.in-Some-Two.d) ∷ []) c.in_default.ensures (ap (λ z. Some (pair_trees z)) (sym c.in-Some-Two.field-0-is) ∙ c.in-Some-Two.ensures) s).1 h).0

pub returns-else-not-branch : goal.returns-else-not-branch
returns-else-not-branch t c =
    if_ok _ _ c.match_part-in-Some-Two-2.result c.match_part-in-Some-Two-2.ensures
    (λ r f. finds_same r (binds_of c.args.found.now) (binds_of c.match_part-in-Some-Two-2.new.found) _ _ (λ s. (λ e. (gives (sub_tree c.args.pattern) (sub_tree c.args.part) ((sub_tree c.in-Some-Two.a, sub_tree c.in-Some-Two.b) ∷ (sub_tree c.in-Some-Two.c, sub_tree c.in-Some-Two.d) ∷ []) c.in_default.ensures (ap (λ z. Some (pair_trees z)) (sym c.in-Some-Two.field-0-is) ∙ c.in-Some-Two.ensures) s).0 (e.0, (e.1, tt)), λ e. let p = (gives (sub_tree c.args.pattern) (sub_tree c.args.part) ((sub_tree c.in-Some-Two.a, sub_tree c.in-Some-Two.b) ∷ (sub_tree c.in-Some-Two.c, sub_tree c.in-Some-Two.d) ∷ []) c.in_default.ensures (ap (λ z. Some (pair_trees z)) (sym c.in-Some-Two.field-0-is) ∙ c.in-Some-Two.ensures) s).1 e in (p.0, p.1.0))) (finds_then r (binds_of c.args.found.now) (binds_of c.match_part-in-Some-Two.new.found) (binds_of c.match_part-in-Some-Two-2.new.found) (λ s. inst s (sub_tree c.in-Some-Two.a) ≡ sub_tree c.in-Some-Two.b) (λ s. inst s (sub_tree c.in-Some-Two.c) ≡ sub_tree c.in-Some-Two.d) (subst (λ z. Finds z (binds_of c.args.found.now) (binds_of c.match_part-in-Some-Two.new.found) (λ s. inst s (sub_tree c.in-Some-Two.a) ≡ sub_tree c.in-Some-Two.b)) c.if-not-branch.false c.in_ok-match_part-in-Some-Two.ensures) f))

pub returns-then-not-branch-2 : goal.returns-then-not-branch-2
returns-then-not-branch-2 t c = λ s x h. (subst (λ z. Finds z (binds_of c.args.found.now) (binds_of c.match_part-in-Some-Three.new.found) (λ s. inst s (sub_tree c.in-Some-Three.a) ≡ sub_tree c.in-Some-Three.b)) c.if-not-branch-2.true c.in_ok-match_part-in-Some-Three.ensures) s x ((gives (sub_tree c.args.pattern) (sub_tree c.args.part) ((sub_tree c.in-Some-Three.a, sub_tree c.in-Some-Three.b) ∷ (sub_tree c.in-Some-Three.c, sub_tree c.in-Some-Three.d) ∷ (sub_tree c.in-Some-Three.e, sub_tree c.in-Some-Three.f) ∷ []) c.in_default.ensures (ap (λ z. Some (pair_trees z)) (sym c.in-Some-Three.field-0-is) ∙ c.in-Some-Three.ensures) s).1 h).0

pub returns-then-not-branch-3 : goal.returns-then-not-branch-3
returns-then-not-branch-3 t c =
    λ s x h. let p = (gives (sub_tree c.args.pattern) (sub_tree c.args.part) ((sub_tree c.in-Some-Three.a, sub_tree c.in-Some-Three.b) ∷ (sub_tree c.in-Some-Three.c, sub_tree c.in-Some-Three.d) ∷ (sub_tree c.in-Some-Three.e, sub_tree c.in-Some-Three.f) ∷ []) c.in_default.ensures (ap (λ z. Some (pair_trees z)) (sym c.in-Some-Three.field-0-is) ∙ c.in-Some-Three.ensures) s).1 h in
    finds_then false (binds_of c.args.found.now) (binds_of c.match_part-in-Some-Three.new.found) (binds_of c.match_part-in-Some-Three-2.new.found) (λ s. inst s (sub_tree c.in-Some-Three.a) ≡ sub_tree c.in-Some-Three.b) (λ s. inst s (sub_tree c.in-Some-Three.c) ≡ sub_tree c.in-Some-Three.d) (subst (λ z. Finds z (binds_of c.args.found.now) (binds_of c.match_part-in-Some-Three.new.found) (λ s. inst s (sub_tree c.in-Some-Three.a) ≡ sub_tree c.in-Some-Three.b)) c.if-not-branch-2.false c.in_ok-match_part-in-Some-Three.ensures) (subst (λ z. Finds z (binds_of c.match_part-in-Some-Three.new.found) (binds_of c.match_part-in-Some-Three-2.new.found) (λ s. inst s (sub_tree c.in-Some-Three.c) ≡ sub_tree c.in-Some-Three.d)) c.if-not-branch-3.true c.in_ok-match_part-in-Some-Three-2.ensures) s x (p.0, p.1.0)

pub returns-else-not-branch-3 : goal.returns-else-not-branch-3
returns-else-not-branch-3 t c =
    let two = finds_then true (binds_of c.args.found.now) (binds_of c.match_part-in-Some-Three.new.found) (binds_of c.match_part-in-Some-Three-2.new.found) (λ s. inst s (sub_tree c.in-Some-Three.a) ≡ sub_tree c.in-Some-Three.b) (λ s. inst s (sub_tree c.in-Some-Three.c) ≡ sub_tree c.in-Some-Three.d) (subst (λ z. Finds z (binds_of c.args.found.now) (binds_of c.match_part-in-Some-Three.new.found) (λ s. inst s (sub_tree c.in-Some-Three.a) ≡ sub_tree c.in-Some-Three.b)) c.if-not-branch-2.false c.in_ok-match_part-in-Some-Three.ensures) (subst (λ z. Finds z (binds_of c.match_part-in-Some-Three.new.found) (binds_of c.match_part-in-Some-Three-2.new.found) (λ s. inst s (sub_tree c.in-Some-Three.c) ≡ sub_tree c.in-Some-Three.d)) c.if-not-branch-3.false c.in_ok-match_part-in-Some-Three-2.ensures) in
    if_ok _ _ c.match_part-in-Some-Three-3.result c.match_part-in-Some-Three-3.ensures
    (λ r f. finds_same r (binds_of c.args.found.now) (binds_of c.match_part-in-Some-Three-3.new.found) _ _ (λ s. (λ e. (gives (sub_tree c.args.pattern) (sub_tree c.args.part) ((sub_tree c.in-Some-Three.a, sub_tree c.in-Some-Three.b) ∷ (sub_tree c.in-Some-Three.c, sub_tree c.in-Some-Three.d) ∷ (sub_tree c.in-Some-Three.e, sub_tree c.in-Some-Three.f) ∷ []) c.in_default.ensures (ap (λ z. Some (pair_trees z)) (sym c.in-Some-Three.field-0-is) ∙ c.in-Some-Three.ensures) s).0 (e.0.0, (e.0.1, (e.1, tt))), λ e. let p = (gives (sub_tree c.args.pattern) (sub_tree c.args.part) ((sub_tree c.in-Some-Three.a, sub_tree c.in-Some-Three.b) ∷ (sub_tree c.in-Some-Three.c, sub_tree c.in-Some-Three.d) ∷ (sub_tree c.in-Some-Three.e, sub_tree c.in-Some-Three.f) ∷ []) c.in_default.ensures (ap (λ z. Some (pair_trees z)) (sym c.in-Some-Three.field-0-is) ∙ c.in-Some-Three.ensures) s).1 e in ((p.0, p.1.0), p.1.1.0)))
    (finds_then r (binds_of c.args.found.now) (binds_of c.match_part-in-Some-Three-2.new.found) (binds_of c.match_part-in-Some-Three-3.new.found) (λ s. inst s (sub_tree c.in-Some-Three.a) ≡ sub_tree c.in-Some-Three.b × inst s (sub_tree c.in-Some-Three.c) ≡ sub_tree c.in-Some-Three.d) (λ s. inst s (sub_tree c.in-Some-Three.e) ≡ sub_tree c.in-Some-Three.f) two f))
