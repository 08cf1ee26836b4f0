-- Chains whose links, and what goes on them, depend on what was read so far.
use Rattle.std.proofs.Common.{◌≡◌, ℕ, zero, suc, Bool, true, false, List, [], ◌∷◌, ◌++◌, Ok, Err, refl, sym, ap, subst, ◌∙◌, length, ◌<◌, ◌≤◌, arith}
use Rattle.kola_parse.specs.Reader.{Answer, ◌>>=◌, then, Move, Stray, Deep, Goes, may_at, no_link, one_link, chain}
use Rattle.kola_parse.proofs.ReaderLaws.{then_reads, may_reads, Shrinks, shrinks, then_wider}
use Rattle.kola_parse.specs.Reading.{Ends, Reads, left, Wider, Good}
use Rattle.kola_parse.specs.Texts.{Chained, ChainText}
use Rattle.kola_parse.specs.Moves.{MayReads, LinkReads, LinkGood}

abbrev pub hard : {T L : Type 0} → Bool → Move T L → Move T L
hard true m = Deep
hard false m = m

hard_none : {T L : Type 0} (A : Type 0) (m : Move T L) (F : L → List T → Type 0) (J : L → T → Bool) (K : A → T → Bool) (j k : Bool) → LinkReads m F J j k → MayReads {A = A} (no_link (hard j m)) (λ x w. ⊥) K k
hard_none A Stray F J K true k h = (λ x w e. e, h.1)
hard_none A Stray F J K false k h = (λ x w e. e, h.1)
hard_none A Deep F J K j k h = absurd h
hard_none A (Goes p) F J K true k h = absurd (let e = h.2 in cc)
hard_none A (Goes p) F J K false k h = (λ x w e. e, h.1)

hard_one : {T A L : Type 0} (m : Move T L) (F : L → List T → Type 0) (J : L → T → Bool) (K : A → T → Bool) (j k : Bool) (more : L → List T → Answer T A) (M : L → A → List T → Type 0)
    → ((l : L) → Reads (more l) (M l) K) → ((l : L) (y : A) (v r : List T) → M l y v → Ends (K y) r → Ends (J l) (v ++ r)) → LinkReads m F J j k → MayReads (one_link more (hard j m)) (Chained F M) K k
hard_one Stray F J K true k more M next clear h = (λ x w c. h.0 c.mid c.front c.first, h.1)
hard_one Stray F J K false k more M next clear h = (λ x w c. h.0 c.mid c.front c.first, h.1)
hard_one Deep F J K j k more M next clear h = absurd h
hard_one (Goes p) F J K true k more M next clear h = absurd (let e = h.2 in cc)
hard_one (Goes p) F J K false k more M next clear h = (then_reads p more F M J K h.0 next clear, h.1)

pub reads_same : {T A : Type 0} (p q : List T → Answer T A) (L : A → List T → Type 0) (K : A → T → Bool) → ((ts : List T) → p ts ≡ q ts) → Reads p L K → Reads q L K
reads_same p q L K same h = record {
  sound = λ ts x r e. h.sound ts x r (same ts ∙ e);
  complete = λ x w r l e. sym (same (w ++ r)) ∙ h.complete x w r l e;
  viable = λ ts f e. h.viable ts f (same ts ∙ e);
  local = λ w t r u y e. sym (same (w ++ t ∷ u)) ∙ h.local w t r u y (same (w ++ t ∷ r) ∙ e);
  some = h.some;
}

-- J says what goes on the last operand of a state, I what goes on an operand.
module _ {T A L : Type 0} (f : A → T → Move T L) (F : A → T → L → List T → Type 0) (grow : A → L → A) (J K : A → T → Bool) (I : L → T → Bool)
    (last : (a : A) (l : L) (t : T) → J (grow a l) t ≡ I l t) (links : (a : A) (t : T) → LinkReads (f a t) (F a t) I (J a t) (K a t)) where
  outer_at : (m : Move T L) (H : L → List T → Type 0) (j k : Bool) → LinkReads m H I j k → k ≡ false → j ≡ false
  outer_at Stray H j k h e = let i = h.1 in cc
  outer_at Deep H j k h e = absurd h
  outer_at (Goes p) H j k h e = h.2

  apart_at : (m : Move T L) (H : L → List T → Type 0) (j k : Bool) → LinkReads m H I j k → (l : L) (w : List T) → H l w → j ≡ false
  apart_at Stray H j k h l w x = absurd (h.0 l w x)
  apart_at Deep H j k h l w x = absurd h
  apart_at (Goes p) H j k h l w x = h.2

  pub chain_clear : (n : ℕ) (a x : A) (v r : List T) → ChainText F grow n a x v → Ends (K x) r → Ends (J a) (v ++ r)
  chain_clear zero a x [] [] h e = tt
  chain_clear zero a x [] (t ∷ r) h e = outer_at (f a t) (F a t) (J a t) (K a t) (links a t) (ap (λ y. K y t) (sym h) ∙ e)
  chain_clear zero a x (t ∷ v) r h e = absurd h
  chain_clear (suc n) a x [] [] h e = tt
  chain_clear (suc n) a x [] (t ∷ r) h e = outer_at (f a t) (F a t) (J a t) (K a t) (links a t) (ap (λ y. K y t) (sym h) ∙ e)
  chain_clear (suc n) a x (t ∷ v) r h e = apart_at (f a t) (F a t) (J a t) (K a t) (links a t) h.mid h.front h.first

  on_operand : (a : A) (l : L) (ts : List T) → Ends (J (grow a l)) ts → Ends (I l) ts
  on_operand a l [] e = tt
  on_operand a l (t ∷ ts) e = sym (last a l t) ∙ e

  on_state : (a : A) (l : L) (ts : List T) → Ends (I l) ts → Ends (J (grow a l)) ts
  on_state a l [] e = tt
  on_state a l (t ∷ ts) e = last a l t ∙ e

  abbrev hard_link : A → T → Move T L
  hard_link a t = hard (J a t) (f a t)

  pub hard_reads : (n : ℕ) (a : A) → Reads (chain hard_link grow n a) (ChainText F grow n a) K
  hard_reads zero a = may_reads a (λ t. no_link (hard_link a t)) (λ t x w. ⊥) K (λ t. hard_none A (f a t) (F a t) I K (J a t) (K a t) (links a t))
  hard_reads (suc n) a =
      may_reads a (λ t. one_link (λ l. chain hard_link grow n (grow a l)) (hard_link a t)) (λ t. Chained (F a t) (λ l. ChainText F grow n (grow a l))) K
      (λ t. hard_one (f a t) (F a t) I K (J a t) (K a t) (λ l. chain hard_link grow n (grow a l)) (λ l. ChainText F grow n (grow a l)) (λ l. hard_reads n (grow a l))
      (λ l y v r c e. on_operand a l (v ++ r) (chain_clear n (grow a l) y v r c e)) (links a t))

  soft_at : (a b : A) (more next : L → List T → Answer T A) (t : T) (ts : List T) (m : Move T L) (H : L → List T → Type 0) (k : Bool) → LinkReads m H I false k → ((l : L) (s : List T) → Ends (I l) s → more l s ≡ next l s)
      → may_at a (one_link more m) t ts ≡ may_at a (one_link next m) t ts
  soft_at a b more next t ts Stray H k h go = refl
  soft_at a b more next t ts Deep H k h go = refl
  soft_at a b more next t ts (Goes p) H k h go = after (p ts) refl
    where
      after : (z : Answer T L) → p ts ≡ z → (z >>= λ x. more x.0 x.1) ≡ (z >>= λ x. next x.0 x.1)
      after (Ok x) e = go x.0 x.1 (h.0.sound ts x.0 x.1 e).ends
      after (Err g) e = refl

  pub soft : (n : ℕ) (a : A) (ts : List T) → Ends (J a) ts → chain hard_link grow n a ts ≡ chain f grow n a ts
  soft zero a [] e = refl
  soft zero a (t ∷ ts) e = ap (λ (j : Bool). may_at a (no_link (hard j (f a t))) t ts) e
  soft (suc n) a [] e = refl
  soft (suc n) a (t ∷ ts) e =
      ap (λ (j : Bool). may_at a (one_link (λ l. chain hard_link grow n (grow a l)) (hard j (f a t))) t ts) e
      ∙ soft_at a a (λ l. chain hard_link grow n (grow a l)) (λ l. chain f grow n (grow a l)) t ts (f a t) (F a t) (K a t) (subst (λ j. LinkReads (f a t) (F a t) I j (K a t)) e (links a t)) (λ l s i. soft n (grow a l) s (on_state a l s i))

  -- An operand, and at most n links after it.
  pub chained_reads : (p : List T → Answer T A) (M : A → List T → Type 0) (n : ℕ) → Reads p M J → Reads (then p (λ a. chain f grow n a)) (Chained M (λ a. ChainText F grow n a)) K
  chained_reads p M n h =
      reads_same (then p (λ a. chain hard_link grow n a)) (then p (λ a. chain f grow n a)) (Chained M (λ a. ChainText F grow n a)) K (λ ts. after ts (p ts) refl)
      (then_reads p (λ a. chain hard_link grow n a) M (λ a. ChainText F grow n a) J K h (λ a. hard_reads n a) (λ a y v r. chain_clear n a y v r))
    where
      after : (ts : List T) (z : Answer T A) → p ts ≡ z → (z >>= λ x. chain hard_link grow n x.0 x.1) ≡ (z >>= λ x. chain f grow n x.0 x.1)
      after ts (Ok x) e = soft n x.0 x.1 (h.sound ts x.0 x.1 e).ends
      after ts (Err g) e = refl

-- ---- with wider limits

link_low : {T L : Type 0} (On : Type 0) (m n : Move T L) (F G : L → List T → Type 0) (J : L → T → Bool) (j k : Bool) → LinkGood On m n F G J j k → LinkReads m F J j k
link_low On Stray Stray F G J j k h = (h.0, h.2)
link_low On (Goes p) (Goes q) F G J j k h = (h.0.low, h.1, h.2)
link_low On _ _ F G J j k h = absurd h

link_high : {T L : Type 0} (On : Type 0) (m n : Move T L) (F G : L → List T → Type 0) (J : L → T → Bool) (j k : Bool) → LinkGood On m n F G J j k → LinkReads n G J j k
link_high On Stray Stray F G J j k h = (h.1, h.2)
link_high On (Goes p) (Goes q) F G J j k h = (h.0.high, h.1, h.2)
link_high On _ _ F G J j k h = absurd h

abbrev pub MoveShrinks : {T L : Type 0} → Move T L → Type 0
MoveShrinks Stray = Unit {0}
MoveShrinks Deep = Unit {0}
MoveShrinks (Goes p) = Shrinks p

pub link_shrinks : {T L : Type 0} (m : Move T L) (F : L → List T → Type 0) (J : L → T → Bool) (j k : Bool) → LinkReads m F J j k → MoveShrinks m
link_shrinks Stray F J j k h = tt
link_shrinks Deep F J j k h = absurd h
link_shrinks (Goes p) F J j k h = shrinks p F J h.0

after_shrinks : {T A L : Type 0} (more : L → List T → Answer T A) (n : ℕ) (z : Answer T L) → ((l : L) → Shrinks (more l)) → length (left z) ≤ n → length (left (z >>= λ x. more x.0 x.1)) ≤ n
after_shrinks more n (Ok x) go le = omega (arith, go x.0 x.1, le)
after_shrinks more n (Err g) go le = le

one_shrinks : {T A L : Type 0} (a : A) (more : L → List T → Answer T A) (t : T) (ts : List T) (m : Move T L) → MoveShrinks m → ((l : L) → Shrinks (more l)) → length (left (may_at a (one_link more m) t ts)) ≤ suc (length ts)
one_shrinks a more t ts Stray h go = omega arith
one_shrinks a more t ts Deep h go = omega arith
one_shrinks a more t ts (Goes p) h go = let n = after_shrinks more (length ts) (p ts) go (h ts) in omega (arith, n)

none_shrinks : {T A L : Type 0} (a : A) (t : T) (ts : List T) (m : Move T L) → length (left (may_at a (no_link m) t ts)) ≤ suc (length ts)
none_shrinks a t ts Stray = omega arith
none_shrinks a t ts Deep = omega arith
none_shrinks a t ts (Goes p) = omega arith

pub chain_shrinks : {T A L : Type 0} (f : A → T → Move T L) (grow : A → L → A) → ((a : A) (t : T) → MoveShrinks (f a t)) → (n : ℕ) (a : A) → Shrinks (chain f grow n a)
chain_shrinks f grow small zero a [] = omega arith
chain_shrinks f grow small zero a (t ∷ ts) = none_shrinks a t ts (f a t)
chain_shrinks f grow small (suc n) a [] = omega arith
chain_shrinks f grow small (suc n) a (t ∷ ts) = one_shrinks a (λ l. chain f grow n (grow a l)) t ts (f a t) (small a t) (λ l. chain_shrinks f grow small n (grow a l))

no_link_wider : {T A L : Type 0} (On : Type 0) (a : A) (m n : Move T L) (F G : L → List T → Type 0) (J : L → T → Bool) (j k : Bool) (more : L → List T → Answer T A) (t : T) (ts : List T)
    → ((l : L) → Shrinks (more l)) → LinkGood On m n F G J j k → Wider (may_at a (no_link m) t ts) (may_at a (one_link more n) t ts)
no_link_wider On a Stray Stray F G J j k more t ts go h = refl
no_link_wider On a (Goes p) (Goes q) F G J j k more t ts go h = let n = after_shrinks more (length ts) (q ts) go (shrinks q G J h.0.high ts) in omega (arith, n)
no_link_wider On a _ _ F G J j k more t ts go h = absurd h

one_link_wider : {T A L : Type 0} (On : Type 0) (a : A) (m n : Move T L) (F G : L → List T → Type 0) (J : L → T → Bool) (j k : Bool) (more next : L → List T → Answer T A) (t : T) (ts : List T)
    → ((l : L) → Shrinks (next l)) → On → ((l : L) (s : List T) → Wider (more l s) (next l s)) → LinkGood On m n F G J j k → Wider (may_at a (one_link more m) t ts) (may_at a (one_link next n) t ts)
one_link_wider On a Stray Stray F G J j k more next t ts go on w h = refl
one_link_wider On a (Goes p) (Goes q) F G J j k more next t ts go on w h = then_wider (p ts) (q ts) more next (h.0.wider on ts) w go
one_link_wider On a _ _ F G J j k more next t ts go on w h = absurd h

module _ {T A L : Type 0} (On : Type 0) (f g : A → T → Move T L) (F G : A → T → L → List T → Type 0) (grow : A → L → A) (J K : A → T → Bool) (I : L → T → Bool)
    (last : (a : A) (l : L) (t : T) → J (grow a l) t ≡ I l t) (links : (a : A) (t : T) → LinkGood On (f a t) (g a t) (F a t) (G a t) I (J a t) (K a t)) where
  pub lows : (a : A) (t : T) → LinkReads (f a t) (F a t) I (J a t) (K a t)
  lows a t = link_low On (f a t) (g a t) (F a t) (G a t) I (J a t) (K a t) (links a t)

  pub highs : (a : A) (t : T) → LinkReads (g a t) (G a t) I (J a t) (K a t)
  highs a t = link_high On (f a t) (g a t) (F a t) (G a t) I (J a t) (K a t) (links a t)

  pub small : (a : A) (t : T) → MoveShrinks (g a t)
  small a t = link_shrinks (g a t) (G a t) I (J a t) (K a t) (highs a t)

  pub chain_wider : On → (n m : ℕ) → n < m → (a : A) (ts : List T) → Wider (chain f grow n a ts) (chain g grow m a ts)
  chain_wider on n zero h a ts = absurd (omega (arith, h))
  chain_wider on zero (suc m) h a [] = refl
  chain_wider on zero (suc m) h a (t ∷ ts) = no_link_wider On a (f a t) (g a t) (F a t) (G a t) I (J a t) (K a t) (λ l. chain g grow m (grow a l)) t ts (λ l. chain_shrinks g grow small m (grow a l)) (links a t)
  chain_wider on (suc n) (suc m) h a [] = refl
  chain_wider on (suc n) (suc m) h a (t ∷ ts) =
      one_link_wider On a (f a t) (g a t) (F a t) (G a t) I (J a t) (K a t) (λ l. chain f grow n (grow a l)) (λ l. chain g grow m (grow a l)) t ts
      (λ l. chain_shrinks g grow small m (grow a l)) on (λ l s. chain_wider on n m (omega (arith, h)) (grow a l) s) (links a t)

  -- An operand and a chain, where the second reader takes a longer one.
  pub chained_good : (p q : List T → Answer T A) (M N : A → List T → Type 0) (n m : ℕ) → (On → n < m) → Good On p q M N J
      → Good On (then p (λ a. chain f grow n a)) (then q (λ a. chain g grow m a)) (Chained M (λ a. ChainText F grow n a)) (Chained N (λ a. ChainText G grow m a)) K
  chained_good p q M N n m h first = record {
    low = chained_reads f F grow J K I last lows p M n first.low;
    high = chained_reads g G grow J K I last highs q N m first.high;
    wider = λ on ts. then_wider (p ts) (q ts) (λ a. chain f grow n a) (λ a. chain g grow m a) (first.wider on ts) (λ a s. chain_wider on n m (h on) a s) (λ a. chain_shrinks g grow small m a);
  }
