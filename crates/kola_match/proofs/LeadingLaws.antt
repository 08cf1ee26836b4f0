-- A search for a part of a term by the term's children.
use Rattle.std.proofs.Common.{◌≡◌, ℕ, zero, suc, Bool, true, false, refl, sym, ap, ◌∙◌, subst, List, [], ◌∷◌, ◌++◌, Some, ◌⊎◌, inl, inr}
use Rattle.kola_term.specs.Terms.{TermTree}
use Rattle.kola_term.specs.Places.{children, nth, sub_at}
use Rattle.kola_term.proofs.Inversions.{some_same, then_some}
use Rattle.kola_term.proofs.Introductions.{bind}
use Rattle.kola_match.specs.Leading.{Leads, LeadsBy}

module _ (t v : TermTree) where
  Nowhere : TermTree → Type 0
  Nowhere c = (q : List ℕ) → sub_at c q ≡ Some v → ⊥

  nowhere : (t ≡ v → ⊥) → ((n : ℕ) (c : TermTree) → nth n (children t) ≡ Some c → (q : List ℕ) → sub_at c q ≡ Some v → ⊥) → (q : List ℕ) → sub_at t q ≡ Some v → ⊥
  nowhere h k [] e = h (some_same t v e)
  nowhere h k (n ∷ q) e = let p = then_some (λ c. sub_at c q) (nth n (children t)) v e in k n p.0 p.1 q p.2

  at_child : (n : ℕ) (c : TermTree) (q : List ℕ) → nth n (children t) ≡ Some c → sub_at c q ≡ Some v → sub_at t (n ∷ q) ≡ Some v
  at_child n c q e h = bind (λ c. sub_at c q) (nth n (children t)) c (Some v) e h

  one_of : (n : ℕ) (a c : TermTree) → nth n (a ∷ []) ≡ Some c → a ≡ c
  one_of zero a c e = absurd (cc)
  one_of (suc zero) a c e = some_same a c e
  one_of (suc (suc n)) a c e = absurd (cc)

  two_of : (n : ℕ) (a b c : TermTree) → nth n (a ∷ b ∷ []) ≡ Some c → (a ≡ c) ⊎ (b ≡ c)
  two_of zero a b c e = absurd (cc)
  two_of (suc zero) a b c e = inl (some_same a c e)
  two_of (suc (suc n)) a b c e = inr (one_of (suc n) b c e)

  three_of : (n : ℕ) (a b d c : TermTree) → nth n (a ∷ b ∷ d ∷ []) ≡ Some c → (a ≡ c) ⊎ ((b ≡ c) ⊎ (d ≡ c))
  three_of zero a b d c e = absurd (cc)
  three_of (suc zero) a b d c e = inl (some_same a c e)
  three_of (suc (suc n)) a b d c e = inr (two_of (suc n) b d c e)

  pub leaf_leads : (old : List ℕ) → [] ≡ children t → (t ≡ v → ⊥) → Leads false t v old old
  leaf_leads old e h = (refl, nowhere h (λ n c k q. let p : nth n [] ≡ Some c = subst (λ l. nth n l ≡ Some c) (sym e) k in absurd (cc)))

  pub one_leads : (r : Bool) (a : TermTree) (old new : List ℕ) → a ∷ [] ≡ children t → (t ≡ v → ⊥) → LeadsBy 1 r a v old new → Leads r t v old new
  one_leads true a old new e h l = (1 ∷ l.0, l.1, at_child 1 a l.0 (ap (nth 1) (sym e)) l.2)
  one_leads false a old new e h l = (l.0, nowhere h (λ n c k q. subst (λ z. sub_at z q ≡ Some v → ⊥) (one_of n a c (subst (λ l. nth n l ≡ Some c) (sym e) k)) (l.1 q)))

  pub two_leads : (r : Bool) (a b : TermTree) (old mid new : List ℕ) → a ∷ b ∷ [] ≡ children t → (t ≡ v → ⊥) → LeadsBy 1 false a v old mid → LeadsBy 2 r b v mid new → Leads r t v old new
  two_leads true a b old mid new e h f l = (2 ∷ l.0, l.1 ∙ ap (λ z. z ++ 2 ∷ l.0) f.0, at_child 2 b l.0 (ap (nth 2) (sym e)) l.2)
  two_leads false a b old mid new e h f l = (
    l.0 ∙ f.0,
    nowhere h (λ n c k q. elim (two_of n a b c (subst (λ l. nth n l ≡ Some c) (sym e) k)) [
      | inl i ↦ subst (λ z. sub_at z q ≡ Some v → ⊥) i (f.1 q)
      | inr i ↦ subst (λ z. sub_at z q ≡ Some v → ⊥) i (l.1 q)
    ]),
  )

  pub three_leads : (r : Bool) (a b d : TermTree) (old mid far new : List ℕ) → a ∷ b ∷ d ∷ [] ≡ children t → (t ≡ v → ⊥) → LeadsBy 1 false a v old mid → LeadsBy 2 false b v mid far → LeadsBy 3 r d v far new → Leads r t v old new
  three_leads true a b d old mid far new e h f g l = (3 ∷ l.0, l.1 ∙ ap (λ z. z ++ 3 ∷ l.0) (g.0 ∙ f.0), at_child 3 d l.0 (ap (nth 3) (sym e)) l.2)
  three_leads false a b d old mid far new e h f g l = (
    l.0 ∙ (g.0 ∙ f.0),
    nowhere h (λ n c k q. elim (three_of n a b d c (subst (λ l. nth n l ≡ Some c) (sym e) k)) [
      | inl i ↦ subst (λ z. sub_at z q ≡ Some v → ⊥) i (f.1 q)
      | inr i ↦ elim i [
        | inl j ↦ subst (λ z. sub_at z q ≡ Some v → ⊥) j (g.1 q)
        | inr j ↦ subst (λ z. sub_at z q ≡ Some v → ⊥) j (l.1 q)
      ]
    ]),
  )
