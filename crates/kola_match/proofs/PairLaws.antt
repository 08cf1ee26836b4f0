-- What the children of two nodes side by side say of the nodes.
use Rattle.std.proofs.Common.{◌≡◌, ◌↔◌, ℕ, ◌+◌, Bool, true, false, cond, refl, sym, ap, ap₂, ◌∙◌, subst, List, [], ◌∷◌, map, Option, Some, None, option_map, sum_by, arith}
use Rattle.kola_term.specs.Terms.{FunTree, FMeta, PredTree, PMeta, ConstTree, CMeta, TermTree, TermF, TermP, TermC}
use Rattle.kola_term.specs.Places.{children}
use Rattle.kola_term.specs.Counts.{nodes}
use Rattle.kola_term.proofs.ByChildren.{nodes_by_children}
use Rattle.kola_term.proofs.Inversions.{some_same}
use Rattle.kola_match.specs.Nodes.{same_node, is_variable}
use Rattle.kola_match.specs.Substitutions.{Substitution, inst}
use Rattle.kola_match.specs.Pairs.{Sides, Beside, AllGive}
use Rattle.kola_match.specs.Alike.{zipped, alike, variable_name, variable_like, same_kind}
use Rattle.kola_match.proofs.NodeLaws.{nodes_equal, node_itself, instance_node, instance_children}

-- ---- two lists side by side

module _ (g : TermTree → TermTree) where
  zipped_beside : (as' bs : List TermTree) (ps : Sides) → zipped as' bs ≡ Some ps → (Beside g ps ↔ (map g as' ≡ bs))
  zipped_beside [] [] ps e = subst (λ (qs : Sides). Beside g qs ↔ ◌≡◌ {A = List TermTree} [] []) (some_same [] ps e) (λ _. refl, λ _. tt)
  zipped_beside (a ∷ as') (b ∷ bs) ps e = at (λ qs. zipped_beside as' bs qs) (zipped as' bs) refl e
    where
      at : ((qs : Sides) → zipped as' bs ≡ Some qs → (Beside g qs ↔ (map g as' ≡ bs))) → (o : Option Sides) → zipped as' bs ≡ o → option_map (λ qs. (a, b) ∷ qs) o ≡ Some ps → (Beside g ps ↔ (g a ∷ map g as' ≡ b ∷ bs))
      at r (Some qs) h e = subst (λ z. Beside g z ↔ (g a ∷ map g as' ≡ b ∷ bs)) (some_same ((a, b) ∷ qs) ps e) (λ k. ap₂ (λ x y. x ∷ y) k.0 ((r qs h).0 k.1), λ k. (cc, (r qs h).1 (cc)))
      at r None h e = absurd (cc)
  zipped_beside [] (b ∷ bs) ps e = absurd (cc)
  zipped_beside (a ∷ as') [] ps e = absurd (cc)

  zipped_none : (as' bs : List TermTree) → zipped as' bs ≡ None → map g as' ≡ bs → ⊥
  zipped_none [] [] e h = absurd (cc)
  zipped_none (a ∷ as') (b ∷ bs) e h = at (λ k. zipped_none as' bs k (cc)) (zipped as' bs) refl e
    where
      at : (zipped as' bs ≡ None → ⊥) → (o : Option Sides) → zipped as' bs ≡ o → option_map (λ qs. (a, b) ∷ qs) o ≡ None → ⊥
      at r (Some qs) k e = absurd (cc)
      at r None k e = r k
  zipped_none [] (b ∷ bs) e h = absurd (cc)
  zipped_none (a ∷ as') [] e h = absurd (cc)

abbrev pub AllSame : Sides → Type 0
AllSame ps = Beside (λ t. t) ps

same_each : (ts : List TermTree) → map (λ t. t) ts ≡ ts
same_each [] = refl
same_each (t ∷ ts) = ap (λ us. t ∷ us) (same_each ts)

-- ---- two nodes

pub alike_same : (x y : TermTree) (ps : Sides) → alike x y ≡ Some ps → (AllSame ps ↔ (x ≡ y))
alike_same x y ps e = at (same_node x y) refl e
  where
    at : (c : Bool) → same_node x y ≡ c → cond c (zipped (children x) (children y)) None ≡ Some ps → (AllSame ps ↔ (x ≡ y))
    at true n e = let r = zipped_beside (λ t. t) (children x) (children y) ps e in (λ k. nodes_equal x y n (sym (same_each (children x)) ∙ r.0 k), λ k. r.1 (same_each (children x) ∙ ap children k))
    at false n e = absurd (cc)

pub alike_other : (x y : TermTree) → alike x y ≡ None → x ≡ y → ⊥
alike_other x y e h = at (same_node x y) refl e
  where
    at : (c : Bool) → same_node x y ≡ c → cond c (zipped (children x) (children y)) None ≡ None → ⊥
    at true n e = zipped_none (λ t. t) (children x) (children y) e (same_each (children x) ∙ ap children h)
    at false n e = let p : false ≡ true = sym n ∙ (ap (same_node x) (sym h) ∙ node_itself x) in absurd (cc)

pub alike_gives : (s : Substitution) (x y : TermTree) (ps : Sides) → is_variable x ≡ false → alike x y ≡ Some ps → (AllGive s ps ↔ (inst s x ≡ y))
alike_gives s x y ps v e = at (same_node x y) refl e
  where
    at : (c : Bool) → same_node x y ≡ c → cond c (zipped (children x) (children y)) None ≡ Some ps → (AllGive s ps ↔ (inst s x ≡ y))
    at true n e =
        let r = zipped_beside (inst s) (children x) (children y) ps e in
        (λ k. nodes_equal (inst s x) y (instance_node s x y v ∙ n) (instance_children s x v ∙ r.0 k), λ k. r.1 (sym (instance_children s x v) ∙ ap children k))
    at false n e = absurd (cc)

pub alike_none : (s : Substitution) (x y : TermTree) → is_variable x ≡ false → alike x y ≡ None → inst s x ≡ y → ⊥
alike_none s x y v e h = at (same_node x y) refl e
  where
    at : (c : Bool) → same_node x y ≡ c → cond c (zipped (children x) (children y)) None ≡ None → ⊥
    at true n e = zipped_none (inst s) (children x) (children y) e (sym (instance_children s x v) ∙ ap children h)
    at false n e = let p : false ≡ true = sym n ∙ (sym (instance_node s x y v) ∙ (ap (same_node (inst s x)) (sym h) ∙ node_itself (inst s x))) in absurd (cc)

-- ---- each child has fewer nodes

zipped_firsts : (as' bs : List TermTree) (ps : Sides) → zipped as' bs ≡ Some ps → map (λ p. p.0) ps ≡ as'
zipped_firsts [] [] ps e = ap (map (λ p. p.0)) (sym (some_same [] ps e))
zipped_firsts (a ∷ as') (b ∷ bs) ps e = at (λ qs. zipped_firsts as' bs qs) (zipped as' bs) refl e
  where
    at : ((qs : Sides) → zipped as' bs ≡ Some qs → map (λ p. p.0) qs ≡ as') → (o : Option Sides) → zipped as' bs ≡ o → option_map (λ qs. (a, b) ∷ qs) o ≡ Some ps → map (λ p. p.0) ps ≡ a ∷ as'
    at r (Some qs) h e = subst (λ z. map (λ p. p.0) z ≡ a ∷ as') (some_same ((a, b) ∷ qs) ps e) (ap (λ l. a ∷ l) (r qs h))
    at r None h e = absurd (cc)
zipped_firsts [] (b ∷ bs) ps e = absurd (cc)
zipped_firsts (a ∷ as') [] ps e = absurd (cc)

pub alike_nodes : (x y : TermTree) (ps : Sides) → alike x y ≡ Some ps → nodes x ≡ 1 + sum_by nodes (map (λ p. p.0) ps)
alike_nodes x y ps e = at (same_node x y) e
  where
    at : (c : Bool) → cond c (zipped (children x) (children y)) None ≡ Some ps → nodes x ≡ 1 + sum_by nodes (map (λ p. p.0) ps)
    at true e = nodes_by_children x ∙ ap (λ l. 1 + sum_by nodes l) (sym (zipped_firsts (children x) (children y) ps e))
    at false e = absurd (cc)

pub one_nodes : (x y a b : TermTree) → Some ((a, b) ∷ []) ≡ alike x y → nodes x ≡ 1 + nodes a
one_nodes x y a b e = let p = alike_nodes x y ((a, b) ∷ []) (sym e) in omega (arith, p)

pub two_nodes : (x y a b c d : TermTree) → Some ((a, b) ∷ (c, d) ∷ []) ≡ alike x y → nodes x ≡ 1 + nodes a + nodes c
two_nodes x y a b c d e = let p = alike_nodes x y ((a, b) ∷ (c, d) ∷ []) (sym e) in omega (arith, p)

pub three_nodes : (x y a b c d f g : TermTree) → Some ((a, b) ∷ (c, d) ∷ (f, g) ∷ []) ≡ alike x y → nodes x ≡ 1 + nodes a + nodes c + nodes f
three_nodes x y a b c d f g e = let p = alike_nodes x y ((a, b) ∷ (c, d) ∷ (f, g) ∷ []) (sym e) in omega (arith, p)

-- ---- a test of each pair

pub no_pairs : (x y : TermTree) → None ≡ alike x y → ((false ≡ true) ↔ (x ≡ y))
no_pairs x y e = (λ h. absurd (cc), λ h. absurd (alike_other x y (sym e) h))

pub leaf_same : (x y : TermTree) → Some [] ≡ alike x y → ((true ≡ true) ↔ (x ≡ y))
leaf_same x y e = let r = alike_same x y [] (sym e) in (λ _. r.0 tt, λ _. refl)

pub one_same : (x y a b : TermTree) (r : Bool) → Some ((a, b) ∷ []) ≡ alike x y → ((r ≡ true) ↔ (a ≡ b)) → ((r ≡ true) ↔ (x ≡ y))
one_same x y a b r e h = let k = alike_same x y ((a, b) ∷ []) (sym e) in (λ q. k.0 (h.0 q, tt), λ q. h.1 ((k.1 q).0))

pub two_same : (x y a b c d : TermTree) (r : Bool) → Some ((a, b) ∷ (c, d) ∷ []) ≡ alike x y → a ≡ b → ((r ≡ true) ↔ (c ≡ d)) → ((r ≡ true) ↔ (x ≡ y))
two_same x y a b c d r e g h = let k = alike_same x y ((a, b) ∷ (c, d) ∷ []) (sym e) in (λ q. k.0 (g, (h.0 q, tt)), λ q. h.1 ((k.1 q).1.0))

pub three_same : (x y a b c d f g : TermTree) (r : Bool) → Some ((a, b) ∷ (c, d) ∷ (f, g) ∷ []) ≡ alike x y → a ≡ b → c ≡ d → ((r ≡ true) ↔ (f ≡ g)) → ((r ≡ true) ↔ (x ≡ y))
three_same x y a b c d f g r e p q h = let k = alike_same x y ((a, b) ∷ (c, d) ∷ (f, g) ∷ []) (sym e) in (λ z. k.0 (p, (q, (h.0 z, tt))), λ z. h.1 ((k.1 z).1.1.0))

-- ---- a node that is no variable, and its instance

no_fun : (f : FunTree) → None ≡ variable_name (TermF f) → is_variable (TermF f) ≡ false
no_fun (FMeta n) e = absurd (cc)
no_fun _ e = refl

no_pred : (p : PredTree) → None ≡ variable_name (TermP p) → is_variable (TermP p) ≡ false
no_pred (PMeta n) e = absurd (cc)
no_pred _ e = refl

no_const : (c : ConstTree) → None ≡ variable_name (TermC c) → is_variable (TermC c) ≡ false
no_const (CMeta n) e = absurd (cc)
no_const _ e = refl

no_variable : (x : TermTree) → None ≡ variable_name x → is_variable x ≡ false
no_variable (TermF f) e = no_fun f e
no_variable (TermP p) e = no_pred p e
no_variable (TermC c) e = no_const c e

-- an instance of the node is the other one where the instances of its children are the children beside them
pub gives : (x y : TermTree) (ps : Sides) → None ≡ variable_name x → Some ps ≡ alike x y → (s : Substitution) → (AllGive s ps ↔ (inst s x ≡ y))
gives x y ps v e s = alike_gives s x y ps (no_variable x v) (sym e)

pub gives_none : (x y : TermTree) → None ≡ variable_name x → None ≡ alike x y → (s : Substitution) → inst s x ≡ y → ⊥
gives_none x y v e s h = alike_none s x y (no_variable x v) (sym e) h

-- the variable of the name, of the other's kind
pub variable_is : (x t : TermTree) (n : List ℕ) → Some n ≡ variable_name x → true ≡ same_kind x t → variable_like t n ≡ x
variable_is (TermF (FMeta m)) (TermF f) n e h = ap (λ k. TermF (FMeta k)) (some_same n m e)
variable_is (TermP (PMeta m)) (TermP f) n e h = ap (λ k. TermP (PMeta k)) (some_same n m e)
variable_is (TermC (CMeta m)) (TermC f) n e h = ap (λ k. TermC (CMeta k)) (some_same n m e)
variable_is _ _ n e h = absurd (cc)
