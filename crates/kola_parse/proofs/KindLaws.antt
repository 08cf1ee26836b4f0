-- The laws of readers that go by what a token is, and by levels.
use Rattle.std.proofs.Common.{◌≡◌, ℕ, zero, suc, Bool, true, false, List, [], ◌∷◌, ◌++◌, Option, Some, None, refl, sym, ap, subst, ◌∙◌}
use Rattle.std.proofs.lemmas.List.{append-nil}
use Rattle.kola_parse.specs.Reader.{Answer, Move, eat, done}
use Rattle.kola_parse.specs.Reading.{never, Inhabited, Good}
use Rattle.kola_parse.specs.Texts.{◌·◌, ends, Nothing, Chained, Led}
use Rattle.kola_parse.specs.Moves.{MoveGood}
use Rattle.kola_parse.specs.Kinds.{Lang, leads, when, expect, ahead, behind, deeper, Deeper}
use Rattle.kola_parse.proofs.ReaderLaws.{nil_of}
use Rattle.kola_parse.proofs.GoodReaders.{done_good, next_good, eat_good, good_as}

-- the test passes exactly the tokens that P says, and there is one
pub record Tests {T : Type 0} (passes : T → Bool) (P : T → Type 0) : Type 0 where
  pub to : (t : T) → passes t ≡ true → P t
  pub from : (t : T) → P t → passes t ≡ true
  pub some : T
  pub is : P some

-- what is read only where a test says so
pub when_good : {T A On : Type 0} {p q : List T → Answer T A} {L M : Lang T A} {K : A → T → Bool} (b : Bool) → Good On p q L M K → MoveGood On (when b p) (when b q) (λ x w. (b ≡ true) × L x w) (λ x w. (b ≡ true) × M x w) K
when_good true h = good_as (λ x w n. (refl, n)) (λ x w n. n.1) (λ x w n. (refl, n)) (λ x w n. n.1) h
when_good false h = (λ x w n. absurd (let e = n.0 in cc), λ x w n. absurd (let e = n.0 in cc))

-- ---- one token

module _ {T : Type 0} (passes : T → Bool) (P : T → Type 0) (h : Tests passes P) where
  -- the text is one such token
  abbrev One : Lang T (Unit {0})
  One y w = leads P ends w

  abbrev After : T → Lang T (Unit {0})
  After t y w = P t × ends w

  move_expect : (On : Type 0) (t : T) (b : Bool) → passes t ≡ b → MoveGood On (when b (done tt)) (when b (done tt)) (After t) (After t) never
  move_expect On t true e = good_as to from to from (done_good On tt)
    where
      to : (x : Unit {0}) (w : List T) → Nothing tt x w → After t x w
      to x w n = (h.to t e, n.1)

      from : (x : Unit {0}) (w : List T) → After t x w → Nothing tt x w
      from x w n = (refl, n.1)
  move_expect On t false e = (λ x w n. absurd (let i = h.from t n.0 in cc), λ x w n. absurd (let i = h.from t n.0 in cc))

  pub expect_good : (On : Type 0) → Good On (expect passes) (expect passes) One One never
  expect_good On =
      good_as to from to from
      (eat_good (λ t. when (passes t) (done tt)) (λ t. when (passes t) (done tt)) After After never (λ t. move_expect On t (passes t) refl) some some)
    where
      some : Inhabited (Led After)
      some = record { tree = tt; text = h.some ∷ []; spells = (h.is, tt) }

      to : (x : Unit {0}) (w : List T) → Led After x w → One x w
      to x [] n = n
      to x (t ∷ w) n = n

      from : (x : Unit {0}) (w : List T) → One x w → Led After x w
      from x [] n = n
      from x (t ∷ w) n = n

  -- ---- such a token, and then a text

  module _ {A : Type 0} (L : Lang T A) where
    to_ahead_at : (x : A) (front back : List T) → leads P ends front → L x back → leads P (L x) (front ++ back)
    to_ahead_at x [] back n l = absurd n
    to_ahead_at x (t ∷ []) back n l = (n.0, l)
    to_ahead_at x (t ∷ s ∷ w) back n l = absurd n.1

    to_ahead : (x : A) (w : List T) → Chained One (λ _. L) x w → leads P (L x) w
    to_ahead x w c = subst (leads P (L x)) (sym c.split) (to_ahead_at x c.front c.back c.first c.second)

    from_ahead : (x : A) (w : List T) → leads P (L x) w → Chained One (λ _. L) x w
    from_ahead x [] n = absurd n
    from_ahead x (t ∷ w) n = record { mid = tt; front = t ∷ []; back = w; split = refl; first = (n.0, tt); second = n.1 }

  pub ahead_good : {A On : Type 0} {p q : List T → Answer T A} {L M : Lang T A} {K : A → T → Bool} → Good On p q L M K → Good On (ahead passes p) (ahead passes q) (λ x. leads P (L x)) (λ x. leads P (M x)) K
  ahead_good {A} {On} {p} {q} {L} {M} {K} g = good_as (to_ahead L) (from_ahead L) (to_ahead M) (from_ahead M) (next_good (expect_good On) (λ _. g))

  -- ---- a text, and then such a token

  module _ {A : Type 0} (L : Lang T A) where
    to_behind_at : (x a : A) (front back v : List T) → L a front → leads P ends back → x ≡ a → ends v → (L x · leads P ends) (front ++ (back ++ v))
    to_behind_at x a front back v l s e n =
        record { front = front; back = back ++ v; split = refl; first = subst (λ y. L y front) (sym e) l; second = subst (leads P ends) (sym (ap (λ (z : List T). back ++ z) (nil_of v n) ∙ append-nil back)) s }

    to_behind : (x : A) (w : List T) → Chained L (λ a. Chained One (λ _. Nothing a)) x w → (L x · leads P ends) w
    to_behind x w c =
        let d = c.second in
        subst (L x · leads P ends) (sym (c.split ∙ ap (λ (z : List T). c.front ++ z) d.split)) (to_behind_at x c.mid c.front d.front d.back c.first d.first d.second.0 d.second.1)

    from_behind : (x : A) (w : List T) → (L x · leads P ends) w → Chained L (λ a. Chained One (λ _. Nothing a)) x w
    from_behind x w n = record { mid = x; front = n.front; back = n.back; split = n.split; first = n.first; second = record { mid = tt; front = n.back; back = []; split = sym (append-nil n.back); first = n.second; second = (refl, tt) } }

  pub behind_good : {A On : Type 0} {p q : List T → Answer T A} {L M : Lang T A} → Good On p q L M never → Good On (behind p passes) (behind q passes) (λ x. L x · leads P ends) (λ x. M x · leads P ends) never
  behind_good {A} {On} {p} {q} {L} {M} g = good_as (to_behind L) (from_behind L) (to_behind M) (from_behind M) (next_good g (λ a. next_good (expect_good On) (λ _. done_good On a)))

-- ---- a nonterminal: F k are the texts behind a first token of the kind k, L those that spell x

module _ {T K A : Type 0} (kind : T → K) where
  -- the texts behind the first token are those of the nonterminal
  pub record Heads (F : K → Lang T A) (L : Lang T A) : Type 0 where
    pub to : (k : K) (x : A) (t : T) (w : List T) → kind t ≡ k → F k x w → L x (t ∷ w)
    pub from : (x : A) (t : T) (w : List T) → L x (t ∷ w) → F (kind t) x w
    pub empty : (x : A) → L x [] → ⊥
    pub some : Inhabited L

  to_led : (F : K → Lang T A) (L : Lang T A) → Heads F L → (x : A) (w : List T) → Led (λ t. F (kind t)) x w → L x w
  to_led F L h x [] n = absurd n
  to_led F L h x (t ∷ w) n = h.to (kind t) x t w refl n

  from_led : (F : K → Lang T A) (L : Lang T A) → Heads F L → (x : A) (w : List T) → L x w → Led (λ t. F (kind t)) x w
  from_led F L h x [] n = absurd (h.empty x n)
  from_led F L h x (t ∷ w) n = h.from x t w n

  led_some : (F : K → Lang T A) (L : Lang T A) → Heads F L → Inhabited (Led (λ t. F (kind t)))
  led_some F L h = record { tree = h.some.tree; text = h.some.text; spells = from_led F L h h.some.tree h.some.text h.some.spells }

  pub led_good : (On : Type 0) (f g : K → Move T A) (F G : K → Lang T A) (L M : Lang T A) → Heads F L → Heads G M → ((k : K) → MoveGood On (f k) (g k) (F k) (G k) never)
      → Good On (eat (λ t. f (kind t))) (eat (λ t. g (kind t))) L M never
  led_good On f g F G L M h i each =
      good_as (to_led F L h) (from_led F L h) (to_led G M i) (from_led G M i)
      (eat_good (λ t. f (kind t)) (λ t. g (kind t)) (λ t. F (kind t)) (λ t. G (kind t)) never (λ t. each (kind t)) (led_some F L h) (led_some G M i))

-- ---- levels

-- the readers of two levels, and those below them: Level says what they read
pub data Inside {I : Type 0} (Level : Type 0 → I → I → ℕ → ℕ → Type 0) (On : Type 0) : Option I → Option I → ℕ → ℕ → Type 0 where
  bare : (On → ⊥) → Inside Level On None None zero zero
  first : (j : I) (e : ℕ) → Level ⊥ j j e e → Inside Level On None (Some j) zero (suc e)
  both : (i j : I) (d e : ℕ) → Level On i j d e → Inside Level On (Some i) (Some j) (suc d) (suc e)

pub deeper_good : {T A I : Type 0} {Level : Type 0 → I → I → ℕ → ℕ → Type 0} {On : Type 0} {o o' : Option I} {n m : ℕ} → Inside Level On o o' n m → (F : ℕ → Lang T A) (p : I → List T → Answer T A)
    → ((On : Type 0) (i j : I) (d e : ℕ) → Level On i j d e → Good On (p i) (p j) (F d) (F e) never)
    → MoveGood On (deeper o p) (deeper o' p) (Deeper n F) (Deeper m F) never
deeper_good (bare off) F p h = (λ x w k. k, λ x w k. k, off)
deeper_good (first j e l) F p h = (λ x w k. k, (h ⊥ j j e e l).high)
deeper_good (both i j d e l) F p h = h _ i j d e l
