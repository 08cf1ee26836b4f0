-- The members of a list, and the one rising list that has them.
use Rattle.std.proofs.Common.{◌≡◌, ◌↔◌, ℕ, zero, suc, ◌<◌, Bool, true, false, ◌||◌, List, [], ◌∷◌, length, get_or, Contains, true≢false, sym, ◌∙◌, ap, refl, arith}
use mathlib.Core.Bool.{or-true}
use Rattle.kola_values.specs.Values.{ValueTree}
use Rattle.kola_values.specs.Order.{same}
use Rattle.kola_values.specs.Sets.{IsRisingListOf, canon, any, has}
use Rattle.kola_values.proofs.Anys.{equal, same_itself, bool_same, has_head, any_canon, rising, one_list}

-- ---- the test and the members

has_from : (v : ValueTree) (vs : List ValueTree) → has v vs ≡ true → Contains vs v
unfolding any
has_from v [] h = absurd (true≢false (sym h))
has_from v (w ∷ vs) h = at (same v w) refl h (has_from v vs)
  where
    at : (b : Bool) → same v w ≡ b → (b || has v vs) ≡ true → (has v vs ≡ true → Contains vs v) → Contains (w ∷ vs) v
    at true e h more = (0, omega arith, sym (equal v w e))
    at false e h more = let r = more h in (suc r.0, omega arith, r.2)

has_at : (v : ValueTree) (vs : List ValueTree) (k : ℕ) → k < length vs → get_or vs k v ≡ v → has v vs ≡ true
unfolding any
has_at v [] k l e = absurd (omega arith)
has_at v (w ∷ vs) zero l e = ap (λ b. b || has v vs) (ap (same v) e ∙ same_itself v)
has_at v (w ∷ vs) (suc k) l e = ap (λ b. same v w || b) (has_at v vs k (omega arith) e) ∙ or-true (same v w)

pub has_exactly : (v : ValueTree) (vs : List ValueTree) → ((has v vs ≡ true) ↔ Contains vs v)
has_exactly v vs = (has_from v vs, λ c. has_at v vs c.0 c.1 c.2)

-- ---- the rising list

pub contains_canon : (vs : List ValueTree) (v : ValueTree) → (Contains (canon vs) v ↔ Contains vs v)
contains_canon vs v =
    let e = any_canon (same v) vs in (
      λ c. (has_exactly v vs).0 (sym e ∙ (has_exactly v (canon vs)).1 c),
      λ c. (has_exactly v (canon vs)).0 (e ∙ (has_exactly v vs).1 c),
    )

-- a test that a member passes
passed : (q : ValueTree → Bool) (v : ValueTree) (vs : List ValueTree) → has v vs ≡ true → q v ≡ true → any q vs ≡ true
unfolding any
passed q v [] h k = absurd (true≢false (sym h))
passed q v (w ∷ vs) h k = at (same v w) refl h (λ e. passed q v vs e k)
  where
    at : (b : Bool) → same v w ≡ b → (b || has v vs) ≡ true → (has v vs ≡ true → any q vs ≡ true) → (q w || any q vs) ≡ true
    at true e h more = ap (λ b. b || any q vs) (ap q (sym (equal v w e)) ∙ k)
    at false e h more = ap (λ b. q w || b) (more h) ∙ or-true (q w)

-- a test that some member passes is passed by some member of a list that has them all
passed_by_more : (q : ValueTree → Bool) (vs ws : List ValueTree) → ((v : ValueTree) → has v vs ≡ true → has v ws ≡ true) → any q vs ≡ true → any q ws ≡ true
unfolding any
passed_by_more q [] ws more h = absurd (true≢false (sym h))
passed_by_more q (v ∷ vs) ws more h = at (q v) refl h (passed_by_more q vs ws (λ x e. more x (ap (λ b. same x v || b) e ∙ or-true (same x v))))
  where
    at : (b : Bool) → q v ≡ b → (b || any q vs) ≡ true → (any q vs ≡ true → any q ws ≡ true) → any q ws ≡ true
    at true e h rest = passed q v ws (more v (has_head v vs)) e
    at false e h rest = rest h

pub one_rising_list : (vs ws : List ValueTree) → IsRisingListOf vs ws → ws ≡ canon vs
one_rising_list vs ws h =
    one_list ws (canon vs) h.0 (rising vs) (λ q. bool_same (any q ws) (any q (canon vs))
    (λ e. any_canon q vs ∙ passed_by_more q ws vs (λ v k. (has_exactly v vs).1 ((h.1 v).0 ((has_exactly v ws).0 k))) e)
    (λ e. passed_by_more q vs ws (λ v k. (has_exactly v ws).1 ((h.1 v).1 ((has_exactly v vs).0 k))) (sym (any_canon q vs) ∙ e)))
