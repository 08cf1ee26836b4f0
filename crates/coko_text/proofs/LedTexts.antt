-- Readers that one token decides, and lists of what such tokens lead. P says what the tokens are that pass the test.
use Rattle.std.proofs.Common.{◌≡◌, ◌⊎◌, inl, inr, Bool, true, false, List, [], ◌∷◌, ◌++◌, refl, sym, ap, subst, ◌∙◌}
use Rattle.std.proofs.lemmas.List.{append-nil}
use Rattle.kola_base.specs.Placed.{Placed}
use Rattle.kola_parse.specs.Kinds.{Lang, leads, when, behind}
use Rattle.kola_parse.specs.Listed.{Listed}
use Rattle.kola_parse.specs.Moves.{MayGood}
use Rattle.kola_parse.specs.Reader.{Stray, pair}
use Rattle.kola_parse.specs.Reading.{Ends, never, Good}
use Rattle.kola_parse.specs.Texts.{◌·◌, ends, Nothing, Chained, Paired, Led, Maybe, Either}
use Rattle.kola_parse.proofs.GoodReaders.{done_good, then_good, made_good, good_as, to_paired, from_paired}
use Rattle.kola_parse.proofs.KindLaws.{Tests, expect_good, when_good}
use Rattle.kola_parse.proofs.Options.{may_good, other_good}
use Rattle.kola_parse.proofs.ReaderLaws.{nil_of}
use Rattle.coko_text.specs.LedReaders.{Reader, led, led_or, led_or_done, items_at}
use Rattle.coko_text.proofs.ItemLists.{ItemGood, list_goes, list_clear, items_good, listed_as, listed_before, listed_behind}

-- ---- one after the other, where what the second begins with does not go on the first

-- a text of L begins with no token that K says
abbrev pub Clear : {B : Type 0} → (Placed → Bool) → Lang Placed B → Type 0
Clear {B} K F = ((y : B) → F y [] → ⊥) × ((y : B) (t : Placed) (v : List Placed) → F y (t ∷ v) → K t ≡ false)

clear_ends : {B : Type 0} (K : Placed → Bool) (F : Lang Placed B) → Clear K F → (y : B) (v r : List Placed) → F y v → Ends K (v ++ r)
clear_ends K F c y [] r h = absurd (c.0 y h)
clear_ends K F c y (t ∷ v) r h = c.1 y t v h

pub pair_clear : {A B On : Type 0} {p q : Reader A} {k h : A → Reader B} {L M : Lang Placed A} {F G : A → Lang Placed B} {K : A → Placed → Bool} (J : A × B → Placed → Bool)
    → Good On p q L M K → ((a : A) → Good On (k a) (h a) (F a) (G a) (λ b. J (a, b))) → ((a : A) → Clear (K a) (F a)) → ((a : A) → Clear (K a) (G a)) → Good On (pair p k) (pair q h) (Paired L F) (Paired M G) J
pair_clear {A} {B} {On} {p} {q} {k} {h} {L} {M} {F} {G} {K} J one other c d =
    good_as (to_paired L F) (from_paired L F) (to_paired M G) (from_paired M G)
    (then_good one (λ a. made_good (λ (b : B). (a, b)) J (other a))
    (λ a y v r m e. clear_ends (K a) (F a) (c a) m.part v r m.spells) (λ a y v r m e. clear_ends (K a) (G a) (d a) m.part v r m.spells))

module _ (passes : Placed → Bool) (P : Placed → Type 0) (tests : Tests passes P) where
  -- ---- a text, and then such a token, which does not go on it

  module _ {A : Type 0} (L : Lang Placed A) where
    abbrev Last : A → Lang Placed A
    Last a = Chained {B = A} (λ (y : Unit {0}) w. leads P ends w) (λ _. Nothing a)

    to_last : (x : A) (w : List Placed) → Chained L Last x w → (L x · leads P ends) w
    to_last x w c =
        let d = c.second in
        record {
          front = c.front;
          back = c.back;
          split = c.split;
          first = subst (λ y. L y c.front) (sym d.second.0) c.first;
          second = subst (leads P ends) (sym (d.split ∙ ap (λ (z : List Placed). d.front ++ z) (nil_of d.back d.second.1) ∙ append-nil d.front)) d.first;
        }

    from_last : (x : A) (w : List Placed) → (L x · leads P ends) w → Chained L Last x w
    from_last x w n = record { mid = x; front = n.front; back = n.back; split = n.split; first = n.first; second = record { mid = tt; front = n.back; back = []; split = sym (append-nil n.back); first = n.second; second = (refl, tt) } }

  last_ends : {A : Type 0} (K : A → Placed → Bool) → ((a : A) (t : Placed) → P t → K a t ≡ false) → (a y : A) (v r : List Placed) → Chained {B = A} (λ (z : Unit {0}) w. leads P ends w) (λ _. Nothing a) y v → Ends (K a) (v ++ r)
  last_ends K clear a y v r m = subst (λ z. Ends (K a) (z ++ r)) (sym m.split) (by m.front m.first)
    where
      by : (w : List Placed) → leads P ends w → Ends (K a) ((w ++ m.back) ++ r)
      by [] h = absurd h
      by (t ∷ w) h = clear a t h.0

  pub behind_clear : {A On : Type 0} {p q : Reader A} {L M : Lang Placed A} (K : A → Placed → Bool) → ((a : A) (t : Placed) → P t → K a t ≡ false) → Good On p q L M K
      → Good On (behind p passes) (behind q passes) (λ x. L x · leads P ends) (λ x. M x · leads P ends) never
  behind_clear {A} {On} {p} {q} {L} {M} K clear g =
      good_as (to_last L) (from_last L) (to_last M) (from_last M)
      (then_good g (λ a. then_good (expect_good passes P tests On) (λ _. done_good On a) (λ _ y v r m e. ends_any (v ++ r)) (λ _ y v r m e. ends_any (v ++ r)))
      (λ a y v r m e. last_ends K clear a y v r m) (λ a y v r m e. last_ends K clear a y v r m))
    where
      ends_any : (r : List Placed) → Ends (λ t. false) r
      ends_any [] = tt
      ends_any (t ∷ r) = refl

  -- ---- what such a token leads

  module _ {A : Type 0} (L : Lang Placed A) where
    abbrev LedBy : Placed → Lang Placed A
    LedBy t x w = (passes t ≡ true) × L x w

    pub to_led : (x : A) (w : List Placed) → Led LedBy x w → leads P (L x) w
    to_led x [] h = h
    to_led x (t ∷ w) h = (tests.to t h.0, h.1)

    pub from_led : (x : A) (w : List Placed) → leads P (L x) w → Led LedBy x w
    from_led x [] h = h
    from_led x (t ∷ w) h = (tests.from t h.0, h.1)

  -- ---- lists of what such tokens lead

  module _ {A On : Type 0} {p q : Reader A} {L M : Lang Placed A} (I : A → Placed → Bool) (apart : (x : A) (t : Placed) → P t → I x t ≡ false) (g : Good On p q L M I) where
    item_by : (t : Placed) (b : Bool) → passes t ≡ b → ItemGood On I t (when b p) (when b q) (λ x w. (b ≡ true) × L x w) (λ x w. (b ≡ true) × M x w) b
    item_by t true e = (good_as (λ x w n. (refl, n)) (λ x w n. n.1) (λ x w n. (refl, n)) (λ x w n. n.1) g, refl, λ x. apart x t (tests.to t e))
    item_by t false e = (λ x w n. (let e = n.0 in cc), λ x w n. (let e = n.0 in cc), refl)

    pub led_items : Good On (items_at (led passes p)) (items_at (led passes q)) (Listed (λ x. leads P (L x)) ends) (Listed (λ x. leads P (M x)) ends) (list_goes I passes)
    led_items =
        good_as (listed_as (Led (LedBy L)) (λ x. leads P (L x)) ends (to_led L)) (listed_as (λ x. leads P (L x)) (Led (LedBy L)) ends (from_led L))
        (listed_as (Led (LedBy M)) (λ x. leads P (M x)) ends (to_led M)) (listed_as (λ x. leads P (M x)) (Led (LedBy M)) ends (from_led M))
        (items_good (led passes p) (led passes q) (LedBy L) (LedBy M) I passes (λ t. item_by t (passes t) refl))

  -- ---- such a token, or else another text

  module _ {A : Type 0} (L M : Lang Placed A) where
    -- a text that such a token leads, or one of M
    abbrev pub LedOr : Lang Placed A
    LedOr x w = leads P (L x) w ⊎ M x w

    to_or : (x : A) (w : List Placed) → Either (LedBy L) M x w → LedOr x w
    to_or x w (inl h) = inl (to_led L x w h)
    to_or x w (inr h) = inr h

    from_or : (x : A) (w : List Placed) → LedOr x w → Either (LedBy L) M x w
    from_or x w (inl h) = inl (from_led L x w h)
    from_or x w (inr h) = inr h

  passes_not : (t : Placed) (b : Bool) → passes t ≡ b → (P t → ⊥) → {A : Type 0} (p : Reader A) → when b p ≡ Stray
  passes_not t true e n p = absurd (n (tests.to t e))
  passes_not t false e n p = refl

  -- a text of M begins with no such token
  abbrev pub Others : {A : Type 0} → Lang Placed A → Type 0
  Others {A} M = ((x : A) → M x [] → ⊥) × ((x : A) (t : Placed) (w : List Placed) → M x (t ∷ w) → P t → ⊥)

  pub led_or_good : {A On : Type 0} {p q a b : Reader A} {L M N O : Lang Placed A} {K : A → Placed → Bool} → Good On p q L M K → Good On a b N O K → Others N → Others O → Good On (led_or passes p a) (led_or passes q b) (LedOr L N) (LedOr M O) K
  led_or_good {A} {On} {p} {q} {a} {b} {L} {M} {N} {O} {K} g h n o =
      good_as (to_or L N) (from_or L N) (to_or M O) (from_or M O)
      (other_good (led passes p) (led passes q) a b (LedBy L) (LedBy M) N O K (λ t. when_good (passes t) g) h
      (λ x t w m. passes_not t (passes t) refl (n.1 x t w m) p) n.0 (λ x t w m. passes_not t (passes t) refl (o.1 x t w m) q) o.0)

  -- ---- such a token, or nothing

  module _ {A : Type 0} (z : A) (L : Lang Placed A) where
    -- a text that such a token leads, or nothing, which is z
    abbrev pub LedOrNothing : Lang Placed A
    LedOrNothing x w = leads P (L x) w ⊎ Nothing z x w

    to_may : (x : A) (w : List Placed) → Maybe z (LedBy L) x w → LedOrNothing x w
    to_may x [] h = inr (h, tt)
    to_may x (t ∷ w) h = inl (to_led L x (t ∷ w) h)

    from_may : (x : A) (w : List Placed) → LedOrNothing x w → Maybe z (LedBy L) x w
    from_may x w (inl h) = led_in w h
      where
        led_in : (w : List Placed) → leads P (L x) w → Maybe z (LedBy L) x w
        led_in [] h = absurd h
        led_in (t ∷ w) h = from_led L x (t ∷ w) h
    from_may x [] (inr h) = h.0
    from_may x (t ∷ w) (inr h) = absurd h.1

  may_by : {A On : Type 0} {p q : Reader A} {L M : Lang Placed A} (K : A → Placed → Bool) → Good On p q L M K → (b k : Bool) → k ≡ b → MayGood On (when b p) (when b q) (λ x w. (b ≡ true) × L x w) (λ x w. (b ≡ true) × M x w) K k
  may_by K g true k e = (good_as (λ x w n. (refl, n)) (λ x w n. n.1) (λ x w n. (refl, n)) (λ x w n. n.1) g, e)
  may_by K g false k e = (λ x w n. (let e = n.0 in cc), λ x w n. (let e = n.0 in cc), e)

  -- the tokens of the test, and no others, go on the nothing
  pub led_or_done_good : {A On : Type 0} {p q : Reader A} {L M : Lang Placed A} (z : A) (K : A → Placed → Bool) → ((t : Placed) → K z t ≡ passes t) → Good On p q L M K → Good On (led_or_done passes p z) (led_or_done passes q z) (LedOrNothing z L) (LedOrNothing z M) K
  led_or_done_good {A} {On} {p} {q} {L} {M} z K goes g =
      good_as (to_may z L) (from_may z L) (to_may z M) (from_may z M)
      (may_good z (led passes p) (led passes q) (LedBy L) (LedBy M) K (λ t. may_by K g (passes t) (K z t) (goes t)))

-- ---- lists up to a last token

module _ (passes closes : Placed → Bool) (P C : Placed → Type 0) (tests : Tests passes P) (last : Tests closes C) where
  -- the items of L, each behind a token that P says, and a token that C says behind them
  abbrev pub Closed : {A : Type 0} → Lang Placed A → Lang Placed (List A)
  Closed L = Listed (λ x. leads P (L x)) (leads C ends)

  -- such a list begins with no token that K says
  pub closed_clear : {A : Type 0} (K : Placed → Bool) (L : Lang Placed A) → ((t : Placed) → P t → K t ≡ false) → ((t : Placed) → C t → K t ≡ false) → Clear K (Closed L)
  closed_clear {A} K L p c = (empty, first)
    where
      empty : (y : List A) → Closed L y [] → ⊥
      empty [] h = h
      empty (x ∷ xs) h = by h.front h.split h.first
        where
          by : (front : List Placed) → [] ≡ front ++ h.back → leads P (L x) front → ⊥
          by [] e h = h
          by (t ∷ v) e h = cc

      first : (y : List A) (t : Placed) (v : List Placed) → Closed L y (t ∷ v) → K t ≡ false
      first [] t v h = c t h.0
      first (x ∷ xs) t v h = by h.front h.split h.first
        where
          by : (front : List Placed) → t ∷ v ≡ front ++ h.back → leads P (L x) front → K t ≡ false
          by [] e h = absurd h
          by (s ∷ u) e h = let same : s ≡ t = cc in ap K (sym same) ∙ p s h.0

  pub closed_list : {A On : Type 0} {p q : Reader A} {L M : Lang Placed A} (I : A → Placed → Bool) → ((x : A) (t : Placed) → P t → I x t ≡ false) → ((x : A) (t : Placed) → C t → I x t ≡ false) → ((t : Placed) → C t → passes t ≡ false)
      → Good On p q L M I → Good On (behind (items_at (led passes p)) closes) (behind (items_at (led passes q)) closes) (Closed L) (Closed M) never
  closed_list {A} {On} {p} {q} {L} {M} I apart behind_item none g =
      good_as (listed_before (λ x. leads P (L x)) (leads C ends)) (listed_behind (λ x. leads P (L x)) (leads C ends))
      (listed_before (λ x. leads P (M x)) (leads C ends)) (listed_behind (λ x. leads P (M x)) (leads C ends))
      (behind_clear closes C last (list_goes I passes) (λ xs t h. list_clear I passes xs t (λ x. behind_item x t h) (none t h)) (led_items passes P tests I apart g))
