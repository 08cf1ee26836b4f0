-- Chains of any number of links that depend on what was read so far.
use Rattle.std.proofs.Common.{◌≡◌, ℕ, zero, suc, ◌+◌, ◌≤◌, Bool, true, false, List, [], ◌∷◌, ◌++◌, length, Ok, Err, refl, subst, ◌∙◌, arith}
use Rattle.kola_parse.specs.declared.why.Why.{Why}
use Rattle.kola_parse.specs.Reader.{fault, Answer, ◌>>=◌, then, Move, Stray, Deep, Goes, may_at, no_link, one_link, chain, many}
use Rattle.kola_parse.proofs.ReaderLaws.{then_reads, Shrinks, then_wider}
use Rattle.kola_parse.proofs.Chains.{hard, reads_same, MoveShrinks, link_shrinks, chain_shrinks, chain_clear, hard_reads, soft, lows, highs, small, chain_wider}
use Rattle.kola_parse.specs.Reading.{Ends, Reads, left, Wider, Good}
use Rattle.kola_parse.specs.Texts.{Chained, ChainText, ManyText}
use Rattle.kola_parse.specs.Moves.{LinkReads, LinkGood}

hard_shrinks : {T L : Type 0} (m : Move T L) (j : Bool) → MoveShrinks m → MoveShrinks (hard j m)
hard_shrinks m true h = tt
hard_shrinks m false h = h

module _ {T A L : Type 0} (f : A → T → Move T L) (grow : A → L → A) (small : (a : A) (t : T) → MoveShrinks (f a t)) where
  -- with as many links as tokens, more change nothing
  enough_at : (n m : ℕ) (a : A) (t : T) (ts : List T) (v : Move T L) → MoveShrinks v
      → ((b : A) (s : List T) → length s ≤ length ts → chain f grow n b s ≡ chain f grow m b s) → may_at a (one_link (λ l. chain f grow n (grow a l)) v) t ts ≡ may_at a (one_link (λ l. chain f grow m (grow a l)) v) t ts
  enough_at n m a t ts Stray h go = refl
  enough_at n m a t ts Deep h go = refl
  enough_at n m a t ts (Goes p) h go = after (p ts) (h ts)
    where
      after : (z : Answer T L) → length (left z) ≤ length ts → (z >>= λ x. chain f grow n (grow a x.0) x.1) ≡ (z >>= λ x. chain f grow m (grow a x.0) x.1)
      after (Ok x) le = go (grow a x.0) x.1 le
      after (Err e) le = refl

  pub enough : (n m : ℕ) (a : A) (ts : List T) → length ts ≤ n → length ts ≤ m → chain f grow n a ts ≡ chain f grow m a ts
  enough zero zero a ts h k = refl
  enough zero (suc m) a [] h k = refl
  enough zero (suc m) a (t ∷ ts) h k = absurd (omega (arith, h))
  enough (suc n) zero a [] h k = refl
  enough (suc n) zero a (t ∷ ts) h k = absurd (omega (arith, k))
  enough (suc n) (suc m) a [] h k = refl
  enough (suc n) (suc m) a (t ∷ ts) h k = enough_at n m a t ts (f a t) (small a t) (λ b s le. enough n m b s (omega (arith, h, le)) (omega (arith, k, le)))

  -- what is read with few links is read with more
  more_at : (n m : ℕ) (a : A) (t : T) (ts : List T) (v : Move T L) (y : A × List T)
      → ((b : A) (s : List T) → chain f grow n b s ≡ Ok y → chain f grow m b s ≡ Ok y) → may_at a (one_link (λ l. chain f grow n (grow a l)) v) t ts ≡ Ok y → may_at a (one_link (λ l. chain f grow m (grow a l)) v) t ts ≡ Ok y
  more_at n m a t ts Stray y go e = e
  more_at n m a t ts Deep y go e = e
  more_at n m a t ts (Goes p) y go e = after (p ts) e
    where
      after : (z : Answer T L) → (z >>= λ x. chain f grow n (grow a x.0) x.1) ≡ Ok y → (z >>= λ x. chain f grow m (grow a x.0) x.1) ≡ Ok y
      after (Ok x) e = go (grow a x.0) x.1 e
      after (Err g) e = absurd cc

  none_at : (a : A) (t : T) (ts : List T) (v : Move T L) (next : L → List T → Answer T A) (y : A × List T) → may_at a (no_link v) t ts ≡ Ok y → may_at a (one_link next v) t ts ≡ Ok y
  none_at a t ts Stray next y e = e
  none_at a t ts Deep next y e = e
  none_at a t ts (Goes p) next y e = absurd cc

  more_links : (n m : ℕ) → n ≤ m → (a : A) (ts : List T) (y : A × List T) → chain f grow n a ts ≡ Ok y → chain f grow m a ts ≡ Ok y
  more_links zero zero h a ts y e = e
  more_links zero (suc m) h a [] y e = e
  more_links zero (suc m) h a (t ∷ ts) y e = none_at a t ts (f a t) (λ l. chain f grow m (grow a l)) y e
  more_links (suc n) zero h a ts y e = absurd (omega (arith, h))
  more_links (suc n) (suc m) h a [] y e = e
  more_links (suc n) (suc m) h a (t ∷ ts) y e = more_at n m a t ts (f a t) y (λ b s. more_links n m (omega (arith, h)) b s y) e

  module _ (F : A → T → L → List T → Type 0) (K : A → T → Bool) (reads : (n : ℕ) (a : A) → Reads (chain f grow n a) (ChainText F grow n a) K) where
    many_complete : (a x : A) (w r : List T) → ManyText F grow a x w → Ends (K x) r → many f grow a (w ++ r) ≡ Ok (x, r)
    many_complete a x w r h e =
        let ts = w ++ r in
        let few = (reads h.0 a).complete x w r h.1 e in
        enough (length ts) (h.0 + length ts) a ts (omega arith) (omega arith) ∙ more_links h.0 (h.0 + length ts) (omega arith) a ts (x, r) few

    many_local : (a : A) (w : List T) (t : T) (r q : List T) (y : Why) → many f grow a (w ++ t ∷ r) ≡ Err (fault y (t ∷ r)) → many f grow a (w ++ t ∷ q) ≡ Err (fault y (t ∷ q))
    many_local a w t r q y e =
        let one = w ++ t ∷ r in
        let two = w ++ t ∷ q in
        let all = length one + length two in
        let here = enough all (length one) a one (omega arith) (omega arith) ∙ e in
        enough (length two) all a two (omega arith) (omega arith) ∙ (reads all a).local w t r q y here

    many_reads : (a : A) → Reads (many f grow a) (ManyText F grow a) K
    many_reads a = record {
      sound = λ ts x r e. let one = (reads (length ts) a).sound ts x r e in record { text = one.text; split = one.split; spells = (length ts, one.spells); ends = one.ends };
      complete = many_complete a;
      viable = λ ts g e. let one = (reads (length ts) a).viable ts g e in record { text = one.text; split = one.split; more = one.more; tree = one.tree; spells = (length ts, one.spells) };
      local = many_local a;
      some = record { tree = a; text = []; spells = (0, refl) };
    }

module _ {T A L : Type 0} (f : A → T → Move T L) (F : A → T → L → List T → Type 0) (grow : A → L → A) (J K : A → T → Bool) (I : L → T → Bool)
    (last : (a : A) (l : L) (t : T) → J (grow a l) t ≡ I l t) (links : (a : A) (t : T) → LinkReads (f a t) (F a t) I (J a t) (K a t)) where
  hard_many : (a : A) → Reads (many (λ a t. hard (J a t) (f a t)) grow a) (ManyText F grow a) K
  hard_many a = many_reads (λ a t. hard (J a t) (f a t)) grow (λ a t. hard_shrinks (f a t) (J a t) (link_shrinks (f a t) (F a t) I (J a t) (K a t) (links a t))) F K (λ n a. hard_reads f F grow J K I last links n a) a

  -- An operand, and any number of links after it.
  pub manied_reads : (p : List T → Answer T A) (M : A → List T → Type 0) → Reads p M J → Reads (then p (λ a. many f grow a)) (Chained M (λ a. ManyText F grow a)) K
  manied_reads p M h =
      reads_same (then p (λ a. many (λ a t. hard (J a t) (f a t)) grow a)) (then p (λ a. many f grow a)) (Chained M (λ a. ManyText F grow a)) K (λ ts. after ts (p ts) refl)
      (then_reads p (λ a. many (λ a t. hard (J a t) (f a t)) grow a) M (λ a. ManyText F grow a) J K h hard_many (λ a y v r m e. chain_clear f F grow J K I last links m.0 a y v r m.1 e))
    where
      after : (ts : List T) (z : Answer T A) → p ts ≡ z → (z >>= λ x. many (λ a t. hard (J a t) (f a t)) grow x.0 x.1) ≡ (z >>= λ x. many f grow x.0 x.1)
      after ts (Ok x) e = soft f F grow J K I last links (length x.1) x.0 x.1 (h.sound ts x.0 x.1 e).ends
      after ts (Err g) e = refl

  pub many_shrinks : (a : A) → Shrinks (many f grow a)
  many_shrinks a ts = chain_shrinks f grow (λ a t. link_shrinks (f a t) (F a t) I (J a t) (K a t) (links a t)) (length ts) a ts

module _ {T A L : Type 0} (On : Type 0) (f g : A → T → Move T L) (F G : A → T → L → List T → Type 0) (grow : A → L → A) (J K : A → T → Bool) (I : L → T → Bool)
    (last : (a : A) (l : L) (t : T) → J (grow a l) t ≡ I l t) (links : (a : A) (t : T) → LinkGood On (f a t) (g a t) (F a t) (G a t) I (J a t) (K a t)) where
  pub many_wider : On → (a : A) (ts : List T) → Wider (many f grow a ts) (many g grow a ts)
  many_wider on a ts =
      subst (Wider (many f grow a ts)) (enough g grow (small On f g F G grow J K I last links) (suc (length ts)) (length ts) a ts (omega arith) (omega arith))
      (chain_wider On f g F G grow J K I last links on (length ts) (suc (length ts)) (omega arith) a ts)

  pub manied_good : (p q : List T → Answer T A) (M N : A → List T → Type 0) → Good On p q M N J
      → Good On (then p (λ a. many f grow a)) (then q (λ a. many g grow a)) (Chained M (λ a. ManyText F grow a)) (Chained N (λ a. ManyText G grow a)) K
  manied_good p q M N first = record {
    low = manied_reads f F grow J K I last (lows On f g F G grow J K I last links) p M first.low;
    high = manied_reads g G grow J K I last (highs On f g F G grow J K I last links) q N first.high;
    wider = λ on ts. then_wider (p ts) (q ts) (λ a. many f grow a) (λ a. many g grow a) (first.wider on ts) (λ a s. many_wider on a s) (λ a. many_shrinks g G grow J K I last (highs On f g F G grow J K I last links) a);
  }
