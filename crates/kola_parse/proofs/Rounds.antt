-- Rounds, each of which says whether there is another one.
use Rattle.std.proofs.Common.{◌≡◌, ℕ, zero, suc, ◌+◌, ◌<◌, ◌≤◌, List, [], ◌∷◌, ◌++◌, length, Ok, Err, refl, ap, subst, ◌∙◌, append_assoc, arith}
use Rattle.std.proofs.lemmas.List.{length-append}
use Rattle.kola_parse.specs.declared.why.Why.{Why}
use Rattle.kola_parse.specs.declared.why.Why.TheVariants.{Unexpected}
use Rattle.kola_parse.specs.Reader.{Fault, fault, Answer, ◌>>=◌, Round, Again, Final, on_round, few_rounds, final, rounds}
use Rattle.kola_parse.proofs.ReaderLaws.{ends_none, then_reads, done_reads, Shrinks, then_wider, no_ok, no_err, ok_is, err_is}
use Rattle.kola_parse.proofs.GoodReaders.{done_good, next_good}
use Rattle.kola_parse.specs.Reading.{Ends, never, Took, Begun, Inhabited, Reads, Wider, Good}
use Rattle.kola_parse.specs.Texts.{OnRound, FewText, RoundsText}

abbrev IsFinal : {A B : Type 0} → Round A B → Type 0
IsFinal (Again a) = ⊥
IsFinal (Final b) = Unit {0}

abbrev past : ℕ → ℕ → ℕ
past zero k = suc k
past (suc n) k = suc (past n k)

glue : {T A B : Type 0} (L : A → Round A B → List T → Type 0) (n k : ℕ) (a c : A) (b : B) (w v : List T) → FewText L n a (Again c) w → FewText L k c (Final b) v → FewText L (past n k) a (Final b) (w ++ v)
glue L zero k a c b w v h g = record { mid = Again c; front = w; back = v; split = refl; first = h; second = g }
glue {T} {A} {B} L (suc n) k a c b w v h g = by (λ d s. glue L n k d c b h.back v s g) h.mid h.first h.second
  where
    split : w ++ v ≡ h.front ++ (h.back ++ v)
    split = ap (λ (x : List T). x ++ v) h.split ∙ append_assoc h.front h.back v

    by : ((d : A) → FewText L n d (Again c) h.back → FewText L (past n k) d (Final b) (h.back ++ v)) → (x : Round A B) → L a x h.front → OnRound (FewText L n) x (Again c) h.back → FewText L (suc (past n k)) a (Final b) (w ++ v)
    by inner (Again d) f s = record { mid = Again d; front = h.front; back = h.back ++ v; split = split; first = f; second = inner d s }
    by inner (Final d) f s = absurd (let e = s.0 in cc)

module _ {T A B : Type 0} (p : A → List T → Answer T (Round A B)) (L : A → Round A B → List T → Type 0) (read : (a : A) → Reads (p a) (L a) never) (full : (a : A) (x : Round A B) → L a x [] → ⊥) (finish : (a : A) → Inhabited (RoundsText L a)) where
  few_reads : (n : ℕ) (a : A) → Reads (few_rounds p n a) (FewText L n a) never
  few_reads zero a = read a
  few_reads (suc n) a = then_reads (p a) (on_round (few_rounds p n)) (L a) (OnRound (FewText L n)) never never (read a) (second (λ c. few_reads n c)) (λ x y v r m e. ends_none (v ++ r))
    where
      second : ((c : A) → Reads (few_rounds p n c) (FewText L n c) never) → (x : Round A B) → Reads (on_round (few_rounds p n) x) (OnRound (FewText L n) x) never
      second go (Again c) = go c
      second go (Final b) = done_reads (Final b)

  takes : (a : A) (ts text : List T) (x : Round A B) (r : List T) → ts ≡ text ++ r → L a x text → length r < length ts
  takes a ts [] x r e h = absurd (full a x h)
  takes a ts (t ∷ text) x r e h = let n = ap length e in omega (arith, n, length-append text r)

  strict : (a : A) (ts : List T) (x : Round A B) (r : List T) → p a ts ≡ Ok (x, r) → length r < length ts
  strict a ts x r e = let one = (read a).sound ts x r e in takes a ts one.text x r one.split one.spells

  settled : (n : ℕ) (a : A) (ts : List T) (x : Round A B) (r : List T) → length ts ≤ n → few_rounds p n a ts ≡ Ok (x, r) → IsFinal x
  settled zero a ts x r le e = absurd (let l = strict a ts x r e in omega (arith, l, le))
  settled (suc n) a ts x r le e = after (λ c s l k. settled n c s x r l k) (p a ts) refl e
    where
      after : ((c : A) (s : List T) → length s ≤ n → few_rounds p n c s ≡ Ok (x, r) → IsFinal x) → (z : Answer T (Round A B)) → p a ts ≡ z → (z >>= λ x. on_round (few_rounds p n) x.0 x.1) ≡ Ok (x, r) → IsFinal x
      after go (Ok (Again c, s)) h k = go c s (let l = strict a ts (Again c) s h in omega (arith, l, le)) k
      after go (Ok (Final b, s)) h k = subst IsFinal (ap (λ (y : Round A B × List T). y.0) (ok_is (Final b, s) (x, r) k)) tt
      after go (Err f) h k = absurd (no_ok (x, r) f k)

  enough : (n m : ℕ) (a : A) (ts : List T) → length ts ≤ n → length ts ≤ m → few_rounds p n a ts ≡ few_rounds p m a ts
  enough zero zero a ts h k = refl
  enough zero (suc m) a ts h k = at_end (p a ts) refl
    where
      at_end : (z : Answer T (Round A B)) → p a ts ≡ z → z ≡ (z >>= λ x. on_round (few_rounds p m) x.0 x.1)
      at_end (Ok x) e = absurd (let l = strict a ts x.0 x.1 e in omega (arith, l, h))
      at_end (Err f) e = refl
  enough (suc n) zero a ts h k = at_end (p a ts) refl
    where
      at_end : (z : Answer T (Round A B)) → p a ts ≡ z → (z >>= λ x. on_round (few_rounds p n) x.0 x.1) ≡ z
      at_end (Ok x) e = absurd (let l = strict a ts x.0 x.1 e in omega (arith, l, k))
      at_end (Err f) e = refl
  enough (suc n) (suc m) a ts h k = after (λ c s l i. enough n m c s l i) (p a ts) refl
    where
      after : ((c : A) (s : List T) → length s ≤ n → length s ≤ m → few_rounds p n c s ≡ few_rounds p m c s) → (z : Answer T (Round A B)) → p a ts ≡ z → (z >>= λ x. on_round (few_rounds p n) x.0 x.1) ≡ (z >>= λ x. on_round (few_rounds p m) x.0 x.1)
      after go (Ok (Again c, s)) e = let l = strict a ts (Again c) s e in go c s (omega (arith, l, h)) (omega (arith, l, k))
      after go (Ok (Final b, s)) e = refl
      after go (Err f) e = refl

  more : (n m : ℕ) → n ≤ m → (a : A) (ts : List T) (b : B) (r : List T) → few_rounds p n a ts ≡ Ok (Final b, r) → few_rounds p m a ts ≡ Ok (Final b, r)
  more zero zero h a ts b r e = e
  more zero (suc m) h a ts b r e = ap (λ (z : Answer T (Round A B)). z >>= λ x. on_round (few_rounds p m) x.0 x.1) e
  more (suc n) zero h a ts b r e = absurd (omega (arith, h))
  more (suc n) (suc m) h a ts b r e = after (λ c s k. more n m (omega (arith, h)) c s b r k) (p a ts) e
    where
      after : ((c : A) (s : List T) → few_rounds p n c s ≡ Ok (Final b, r) → few_rounds p m c s ≡ Ok (Final b, r)) → (z : Answer T (Round A B)) → (z >>= λ x. on_round (few_rounds p n) x.0 x.1) ≡ Ok (Final b, r) → (z >>= λ x. on_round (few_rounds p m) x.0 x.1) ≡ Ok (Final b, r)
      after go (Ok (Again c, s)) k = go c s k
      after go (Ok (Final d, s)) k = k
      after go (Err f) k = absurd (no_ok (Final b, r) f k)

  ended : {z y : Answer T (Round A B)} → z ≡ y → (z >>= λ x. final x.0 x.1) ≡ (y >>= λ x. final x.0 x.1)
  ended e = ap (λ (z : Answer T (Round A B)). z >>= λ x. final x.0 x.1) e

  rounds_sound : (a : A) (ts : List T) (b : B) (r : List T) (z : Answer T (Round A B)) → few_rounds p (length ts) a ts ≡ z → (z >>= λ x. final x.0 x.1) ≡ Ok (b, r) → Took (RoundsText L a) never ts b r
  rounds_sound a ts b r (Ok (Again c, s)) e h = absurd (no_ok (b, r) (fault Unexpected s) h)
  rounds_sound a ts b r (Ok (Final d, s)) e h =
      let one = (few_reads (length ts) a).sound ts (Final d) s e in
      let i = ok_is (d, s) (b, r) h in
      record { text = one.text; split = one.split ∙ ap (λ (y : B × List T). one.text ++ y.1) i; spells = (length ts, subst (λ (y : B × List T). FewText L (length ts) a (Final y.0) one.text) i one.spells); ends = ends_none r }
  rounds_sound a ts b r (Err f) e h = absurd (no_ok (b, r) f h)

  begun_by : (a : A) (ts r : List T) (n : ℕ) (text rest : List T) (x : Round A B) → ts ≡ text ++ r → FewText L n a x (text ++ rest) → Begun (RoundsText L a) ts r
  begun_by a ts r n text rest (Final b) e h = record { text = text; split = e; more = rest; tree = b; spells = (n, h) }
  begun_by a ts r n text rest (Again c) e h =
      let end = finish c in
      record { text = text; split = e; more = rest ++ end.text; tree = end.tree; spells = (past n end.spells.0, subst (FewText L (past n end.spells.0) a (Final end.tree)) (append_assoc text rest end.text) (glue L n end.spells.0 a c end.tree (text ++ rest) end.text h end.spells.1)) }

  rounds_viable : (a : A) (ts : List T) (f : Fault T) (z : Answer T (Round A B)) → few_rounds p (length ts) a ts ≡ z → (z >>= λ x. final x.0 x.1) ≡ Err f → Begun (RoundsText L a) ts f.rest
  rounds_viable a ts f (Ok (Again c, s)) e h = absurd (settled (length ts) a ts (Again c) s (omega arith) e)
  rounds_viable a ts f (Ok (Final b, s)) e h = absurd (no_err (b, s) f h)
  rounds_viable a ts f (Err g) e h =
      let one = (few_reads (length ts) a).viable ts g e in
      begun_by a ts f.rest (length ts) one.text one.more one.tree (one.split ∙ ap (λ (k : Fault T). one.text ++ k.rest) (err_is g f h)) one.spells

  rounds_local : (a : A) (w : List T) (t : T) (r q : List T) (y : Why) (z : Answer T (Round A B)) → few_rounds p (length (w ++ t ∷ r)) a (w ++ t ∷ r) ≡ z → (z >>= λ x. final x.0 x.1) ≡ Err (fault y (t ∷ r)) → rounds p a (w ++ t ∷ q) ≡ Err (fault y (t ∷ q))
  rounds_local a w t r q y (Ok (Again c, s)) e h = absurd (settled (length (w ++ t ∷ r)) a (w ++ t ∷ r) (Again c) s (omega arith) e)
  rounds_local a w t r q y (Ok (Final b, s)) e h = absurd (no_err (b, s) (fault y (t ∷ r)) h)
  rounds_local a w t r q y (Err g) e h =
      let one = w ++ t ∷ r in
      let two = w ++ t ∷ q in
      let all = length one + length two in
      let here = enough all (length one) a one (omega arith) (omega arith) ∙ e ∙ ap (λ (k : Fault T). Err k) (err_is g (fault y (t ∷ r)) h) in
      ended (enough (length two) all a two (omega arith) (omega arith) ∙ (few_reads all a).local w t r q y here)

  pub rounds_reads : (a : A) → Reads (rounds p a) (RoundsText L a) never
  rounds_reads a = record {
    sound = λ ts b r e. rounds_sound a ts b r (few_rounds p (length ts) a ts) refl e;
    complete = complete;
    viable = λ ts f e. rounds_viable a ts f (few_rounds p (length ts) a ts) refl e;
    local = λ w t r q y e. rounds_local a w t r q y (few_rounds p (length (w ++ t ∷ r)) a (w ++ t ∷ r)) refl e;
    some = finish a;
  }
    where
      complete : (b : B) (w r : List T) → RoundsText L a b w → Ends (never b) r → rounds p a (w ++ r) ≡ Ok (b, r)
      complete b w r h e =
          let ts = w ++ r in
          let few = (few_reads h.0 a).complete (Final b) w r h.1 (ends_none r) in
          ended (enough (length ts) (h.0 + length ts) a ts (omega arith) (omega arith) ∙ more h.0 (h.0 + length ts) (omega arith) a ts b r few)

  -- for a loop: what a round that was read makes of all
  pub rounds_goes : (a c : A) (ts r : List T) → p a ts ≡ Ok (Again c, r) → rounds p a ts ≡ rounds p c r
  rounds_goes a c ts r e =
      let l = strict a ts (Again c) r e in
      ended (enough (length ts) (suc (length ts)) a ts (omega arith) (omega arith) ∙ ap (λ (z : Answer T (Round A B)). z >>= λ x. on_round (few_rounds p (length ts)) x.0 x.1) e ∙ enough (length ts) (length r) c r (omega (arith, l)) (omega arith))

  pub rounds_ends : (a : A) (b : B) (ts r : List T) → p a ts ≡ Ok (Final b, r) → rounds p a ts ≡ Ok (b, r)
  rounds_ends a b ts r e = ended (enough (length ts) (suc (length ts)) a ts (omega arith) (omega arith) ∙ ap (λ (z : Answer T (Round A B)). z >>= λ x. on_round (few_rounds p (length ts)) x.0 x.1) e)

  pub rounds_fails : (a : A) (f : Fault T) (ts : List T) → p a ts ≡ Err f → rounds p a ts ≡ Err f
  rounds_fails a f ts e = ended (enough (length ts) (suc (length ts)) a ts (omega arith) (omega arith) ∙ ap (λ (z : Answer T (Round A B)). z >>= λ x. on_round (few_rounds p (length ts)) x.0 x.1) e)

-- ---- with wider limits

few_wider : {T A B : Type 0} {On : Type 0} (p q : A → List T → Answer T (Round A B)) (L M : A → Round A B → List T → Type 0) → ((a : A) → Good On (p a) (q a) (L a) (M a) never) → (n : ℕ) (a : A) → Good On (few_rounds p n a) (few_rounds q n a) (FewText L n a) (FewText M n a) never
few_wider p q L M each zero a = each a
few_wider {T} {A} {B} {On} p q L M each (suc n) a = next_good (each a) (second (λ c. few_wider p q L M each n c))
  where
    second : ((c : A) → Good On (few_rounds p n c) (few_rounds q n c) (FewText L n c) (FewText M n c) never) → (x : Round A B) → Good On (on_round (few_rounds p n) x) (on_round (few_rounds q n) x) (OnRound (FewText L n) x) (OnRound (FewText M n) x) never
    second go (Again c) = go c
    second go (Final b) = done_good On (Final b)

final_same : {T A B : Type 0} (x : Round A B) (r : List T) → Wider (final x r) (final x r)
final_same (Again a) r = refl
final_same (Final b) r = refl

final_shrinks : {T A B : Type 0} (x : Round A B) → Shrinks {T = T} (final x)
final_shrinks (Again a) ts = omega arith
final_shrinks (Final b) ts = omega arith

pub rounds_good : {T A B : Type 0} {On : Type 0} (p q : A → List T → Answer T (Round A B)) (L M : A → Round A B → List T → Type 0) → ((a : A) → Good On (p a) (q a) (L a) (M a) never)
    → ((a : A) (x : Round A B) → L a x [] → ⊥) → ((a : A) → Inhabited (RoundsText L a)) → ((a : A) (x : Round A B) → M a x [] → ⊥) → ((a : A) → Inhabited (RoundsText M a)) → (a : A) → Good On (rounds p a) (rounds q a) (RoundsText L a) (RoundsText M a) never
rounds_good p q L M each full finish full' finish' a = record {
  low = rounds_reads p L (λ a. (each a).low) full finish a;
  high = rounds_reads q M (λ a. (each a).high) full' finish' a;
  wider = λ on ts. then_wider (few_rounds p (length ts) a ts) (few_rounds q (length ts) a ts) final final ((few_wider p q L M each (length ts) a).wider on ts) final_same final_shrinks;
}
