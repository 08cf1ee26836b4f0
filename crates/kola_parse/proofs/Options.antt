-- A token or none, a token or another text, and nothing before a token that may follow.
use Rattle.std.proofs.Common.{◌≡◌, Bool, true, false, List, [], ◌∷◌, ◌++◌, Ok, Err, refl, sym, ap, subst, ◌∙◌, arith, ◌⊎◌, inl, inr}
use Rattle.kola_parse.specs.declared.why.Why.{Why}
use Rattle.kola_parse.specs.declared.why.Why.TheVariants.{Unexpected, TooDeep}
use Rattle.kola_parse.specs.Reader.{Fault, fault, Answer, Move, Stray, Deep, Goes, may_at, may, other_at, other, stop_at, stop}
use Rattle.kola_parse.proofs.ReaderLaws.{begun_here, rest_is, err_is, ok_is, no_ok, no_err, behind, at_rest, longer, past, may_reads, shrinks}
use Rattle.kola_parse.proofs.GoodReaders.{move_low, move_high}
use Rattle.kola_parse.specs.Reading.{Ends, Took, Begun, Reads, Wider, Good}
use Rattle.kola_parse.specs.Texts.{Nothing, Maybe, Either}
use Rattle.kola_parse.specs.Moves.{MoveReads, MayReads, MoveGood, MayGood, Apart, Needs}

may_low : {T A : Type 0} (On : Type 0) (m n : Move T A) (F G : A → List T → Type 0) (K : A → T → Bool) (k : Bool) → MayGood On m n F G K k → MayReads m F K k
may_low On Stray Stray F G K k h = (h.0, h.2)
may_low On Stray Deep F G K k h = absurd h
may_low On Stray (Goes q) F G K k h = absurd h
may_low On Deep Stray F G K k h = absurd h
may_low On Deep Deep F G K k h = (h.0, h.2)
may_low On Deep (Goes q) F G K k h = (h.0, h.2)
may_low On (Goes p) Stray F G K k h = absurd h
may_low On (Goes p) Deep F G K k h = absurd h
may_low On (Goes p) (Goes q) F G K k h = (h.0.low, h.1)

may_high : {T A : Type 0} (On : Type 0) (m n : Move T A) (F G : A → List T → Type 0) (K : A → T → Bool) (k : Bool) → MayGood On m n F G K k → MayReads n G K k
may_high On Stray Stray F G K k h = (h.1, h.2)
may_high On Stray Deep F G K k h = absurd h
may_high On Stray (Goes q) F G K k h = absurd h
may_high On Deep Stray F G K k h = absurd h
may_high On Deep Deep F G K k h = (h.1, h.2)
may_high On Deep (Goes q) F G K k h = (h.1, h.2)
may_high On (Goes p) Stray F G K k h = absurd h
may_high On (Goes p) Deep F G K k h = absurd h
may_high On (Goes p) (Goes q) F G K k h = (h.0.high, h.1)

may_wider : {T A : Type 0} (On : Type 0) (a : A) (m n : Move T A) (F G : A → List T → Type 0) (K : A → T → Bool) (k : Bool) (t : T) (ts : List T) → MayGood On m n F G K k → On → Wider (may_at a m t ts) (may_at a n t ts)
may_wider On a Stray Stray F G K k t ts h on = refl
may_wider On a Stray Deep F G K k t ts h on = absurd h
may_wider On a Stray (Goes q) F G K k t ts h on = absurd h
may_wider On a Deep Stray F G K k t ts h on = absurd h
may_wider On a Deep Deep F G K k t ts h on = absurd (h.3 on)
may_wider On a Deep (Goes q) F G K k t ts h on = let n = shrinks q G K h.1 ts in omega (arith, n)
may_wider On a (Goes p) Stray F G K k t ts h on = absurd h
may_wider On a (Goes p) Deep F G K k t ts h on = absurd h
may_wider On a (Goes p) (Goes q) F G K k t ts h on = h.0.wider on ts

pub may_good : {T A On : Type 0} (a : A) (f g : T → Move T A) (F G : T → A → List T → Type 0) (K : A → T → Bool) → ((t : T) → MayGood On (f t) (g t) (F t) (G t) K (K a t)) → Good On (may a f) (may a g) (Maybe a F) (Maybe a G) K
may_good {T} {A} {On} a f g F G K each = record {
  low = may_reads a f F K (λ t. may_low On (f t) (g t) (F t) (G t) K (K a t) (each t));
  high = may_reads a g G K (λ t. may_high On (f t) (g t) (F t) (G t) K (K a t) (each t));
  wider = wider;
}
  where
    wider : On → (ts : List T) → Wider (may a f ts) (may a g ts)
    wider on [] = refl
    wider on (t ∷ ts) = may_wider On a (f t) (g t) (F t) (G t) K (K a t) t ts (each t) on

-- ---- a token, or else another text

other_sound : {T A : Type 0} (m : Move T A) (q : List T → Answer T A) (F : T → A → List T → Type 0) (M : A → List T → Type 0) (K : A → T → Bool) (t : T) (ts : List T) (x : A) (r : List T) → MoveReads m (F t) K → Reads q M K → other_at m q t ts ≡ Ok (x, r) → Took (Either F M) K (t ∷ ts) x r
other_sound Stray q F M K t ts x r m h e = let one = h.sound (t ∷ ts) x r e in record { text = one.text; split = one.split; spells = inr one.spells; ends = one.ends }
other_sound Deep q F M K t ts x r m h e = absurd cc
other_sound (Goes p) q F M K t ts x r m h e = let one = m.sound ts x r e in record { text = t ∷ one.text; split = behind t one.split; spells = inl one.spells; ends = one.ends }

other_led : {T A : Type 0} (m : Move T A) (q : List T → Answer T A) (F : A → List T → Type 0) (K : A → T → Bool) (t : T) (x : A) (w r : List T) → MoveReads m F K → F x w → Ends (K x) r → other_at m q t (w ++ r) ≡ Ok (x, r)
other_led Stray q F K t x w r m h e = absurd (m x w h)
other_led Deep q F K t x w r m h e = absurd (m x w h)
other_led (Goes p) q F K t x w r m h e = m.complete x w r h e

other_viable : {T A : Type 0} (m : Move T A) (q : List T → Answer T A) (F : T → A → List T → Type 0) (M : A → List T → Type 0) (K : A → T → Bool) (t : T) (ts : List T) (g : Fault T) → MoveReads m (F t) K → Reads q M K → other_at m q t ts ≡ Err g → Begun (Either F M) (t ∷ ts) g.rest
other_viable Stray q F M K t ts g m h e = let one = h.viable (t ∷ ts) g e in record { text = one.text; split = one.split; more = one.more; tree = one.tree; spells = inr one.spells }
other_viable {T} Deep q F M K t ts g m h e = begun_here (Either F M) (t ∷ ts) g TooDeep (record { tree = h.some.tree; text = h.some.text; spells = inr h.some.spells }) (let i : fault TooDeep (t ∷ ts) ≡ g = cc in i)
other_viable (Goes p) q F M K t ts g m h e = let one = m.viable ts g e in record { text = t ∷ one.text; split = behind t one.split; more = one.more; tree = one.tree; spells = inl one.spells }

other_first : {T A : Type 0} (m : Move T A) (q : List T → Answer T A) (F M : A → List T → Type 0) (K : A → T → Bool) (t : T) (r s : List T) (y : Why) → MoveReads m F K → Reads q M K → other_at m q t r ≡ Err (fault y (t ∷ r)) → other_at m q t s ≡ Err (fault y (t ∷ s))
other_first Stray q F M K t r s y m h e = h.local [] t r s y e
other_first Deep q F M K t r s y m h e = let i : fault TooDeep (t ∷ r) ≡ fault y (t ∷ r) = cc in at_rest (t ∷ s) i
other_first (Goes p) q F M K t r s y m h e = let one = m.viable r (fault y (t ∷ r)) e in absurd (longer t one.text r one.split)

other_later : {T A : Type 0} (m : Move T A) (q : List T → Answer T A) (F M : A → List T → Type 0) (K : A → T → Bool) (b : T) (w : List T) (t : T) (r s : List T) (y : Why) → MoveReads m F K → Reads q M K → other_at m q b (w ++ t ∷ r) ≡ Err (fault y (t ∷ r)) → other_at m q b (w ++ t ∷ s) ≡ Err (fault y (t ∷ s))
other_later Stray q F M K b w t r s y m h e = h.local (b ∷ w) t r s y e
other_later Deep q F M K b w t r s y m h e = absurd (past b w t r (rest_is (err_is (fault TooDeep (b ∷ (w ++ t ∷ r))) (fault y (t ∷ r)) e)))
other_later (Goes p) q F M K b w t r s y m h e = m.local w t r s y e

module _ {T A : Type 0} (f : T → Move T A) (q : List T → Answer T A) (F : T → A → List T → Type 0) (M : A → List T → Type 0) (K : A → T → Bool) (each : (t : T) → MoveReads (f t) (F t) K) (rest : Reads q M K)
    (apart : (x : A) (t : T) (w : List T) → M x (t ∷ w) → f t ≡ Stray) (full : (x : A) → M x [] → ⊥) where
  other_complete : (x : A) (w r : List T) → Either F M x w → Ends (K x) r → other f q (w ++ r) ≡ Ok (x, r)
  other_complete x [] r (inl h) e = absurd h
  other_complete x (t ∷ w) r (inl h) e = other_led (f t) q (F t) K t x w r (each t) h e
  other_complete x [] r (inr h) e = absurd (full x h)
  other_complete x (t ∷ w) r (inr h) e = ap (λ m. other_at m q t (w ++ r)) (apart x t w h) ∙ rest.complete x (t ∷ w) r h e

  pub other_reads : Reads (other f q) (Either F M) K
  other_reads = record {
    sound = sound;
    complete = other_complete;
    viable = viable;
    local = local;
    some = record { tree = rest.some.tree; text = rest.some.text; spells = inr rest.some.spells };
  }
    where
      sound : (ts : List T) (x : A) (r : List T) → other f q ts ≡ Ok (x, r) → Took (Either F M) K ts x r
      sound [] x r e = let one = rest.sound [] x r e in record { text = one.text; split = one.split; spells = inr one.spells; ends = one.ends }
      sound (t ∷ ts) x r e = other_sound (f t) q F M K t ts x r (each t) rest e

      viable : (ts : List T) (g : Fault T) → other f q ts ≡ Err g → Begun (Either F M) ts g.rest
      viable [] g e = let one = rest.viable [] g e in record { text = one.text; split = one.split; more = one.more; tree = one.tree; spells = inr one.spells }
      viable (t ∷ ts) g e = other_viable (f t) q F M K t ts g (each t) rest e

      local : (w : List T) (t : T) (r s : List T) (y : Why) → other f q (w ++ t ∷ r) ≡ Err (fault y (t ∷ r)) → other f q (w ++ t ∷ s) ≡ Err (fault y (t ∷ s))
      local [] t r s y e = other_first (f t) q (F t) M K t r s y (each t) rest e
      local (b ∷ w) t r s y e = other_later (f b) q (F b) M K b w t r s y (each b) rest e

other_wider : {T A : Type 0} (On : Type 0) (m n : Move T A) (p q : List T → Answer T A) (F G : A → List T → Type 0) (K : A → T → Bool) (t : T) (ts : List T) → MoveGood On m n F G K → On → Wider (p (t ∷ ts)) (q (t ∷ ts)) → Wider (other_at m p t ts) (other_at n q t ts)
other_wider On Stray Stray p q F G K t ts h on w = w
other_wider On Deep Deep p q F G K t ts h on w = absurd (h.2 on)
other_wider On Deep (Goes b) p q F G K t ts h on w = let n = shrinks b G K h.1 ts in omega (arith, n)
other_wider On (Goes a) (Goes b) p q F G K t ts h on w = h.wider on ts
other_wider On _ _ p q F G K t ts h on w = absurd h

pub other_good : {T A On : Type 0} (f g : T → Move T A) (p q : List T → Answer T A) (F G : T → A → List T → Type 0) (M N : A → List T → Type 0) (K : A → T → Bool) → ((t : T) → MoveGood On (f t) (g t) (F t) (G t) K) → Good On p q M N K
    → ((x : A) (t : T) (w : List T) → M x (t ∷ w) → f t ≡ Stray) → ((x : A) → M x [] → ⊥) → ((x : A) (t : T) (w : List T) → N x (t ∷ w) → g t ≡ Stray) → ((x : A) → N x [] → ⊥) → Good On (other f p) (other g q) (Either F M) (Either G N) K
other_good {T} {A} {On} f g p q F G M N K each rest apart full apart' full' = record {
  low = other_reads f p F M K (λ t. move_low On (f t) (g t) (F t) (G t) K (each t)) rest.low apart full;
  high = other_reads g q G N K (λ t. move_high On (f t) (g t) (F t) (G t) K (each t)) rest.high apart' full';
  wider = wider;
}
  where
    wider : On → (ts : List T) → Wider (other f p ts) (other g q ts)
    wider on [] = rest.wider on []
    wider on (t ∷ ts) = other_wider On (f t) (g t) p q (F t) (G t) K t ts (each t) on (rest.wider on (t ∷ ts))

-- ---- nothing, before a token that may follow

stop_sound : {T A : Type 0} (K : T → Bool) (a : A) (t : T) (ts : List T) (k : Bool) → K t ≡ k → (x : A) (r : List T) → stop_at k a t ts ≡ Ok (x, r) → Took (Nothing a) (λ x. K) (t ∷ ts) x r
stop_sound K a t ts true i x r e = absurd (no_ok (x, r) (fault Unexpected (t ∷ ts)) e)
stop_sound {T} {A} K a t ts false i x r e =
    let p = ok_is (a, t ∷ ts) (x, r) e in
    let r-is : t ∷ ts ≡ r = ap (λ (y : A × List T). y.1) p in
    record { text = []; split = r-is; spells = (sym (ap (λ (y : A × List T). y.0) p), tt); ends = subst (Ends K) r-is i }

stop_viable : {T A : Type 0} (a : A) (t : T) (ts : List T) (k : Bool) (f : Fault T) → stop_at k a t ts ≡ Err f → Begun (Nothing a) (t ∷ ts) f.rest
stop_viable a t ts true f e = begun_here (Nothing a) (t ∷ ts) f Unexpected (record { tree = a; text = []; spells = (refl, tt) }) (err_is _ _ e)
stop_viable a t ts false f e = absurd (no_err (a, t ∷ ts) f e)

stop_first : {T A : Type 0} (a : A) (t : T) (k : Bool) (r q : List T) (y : Why) → stop_at k a t r ≡ Err (fault y (t ∷ r)) → stop_at k a t q ≡ Err (fault y (t ∷ q))
stop_first a t true r q y e = at_rest (t ∷ q) (err_is (fault Unexpected (t ∷ r)) (fault y (t ∷ r)) e)
stop_first a t false r q y e = absurd (no_err (a, t ∷ r) (fault y (t ∷ r)) e)

stop_later : {T A : Type 0} (a : A) (s : T) (k : Bool) (w : List T) (t : T) (r q : List T) (y : Why) → stop_at k a s (w ++ t ∷ r) ≡ Err (fault y (t ∷ r)) → stop_at k a s (w ++ t ∷ q) ≡ Err (fault y (t ∷ q))
stop_later a s true w t r q y e = absurd (past s w t r (rest_is (err_is (fault Unexpected (s ∷ (w ++ t ∷ r))) (fault y (t ∷ r)) e)))
stop_later a s false w t r q y e = absurd (no_err (a, s ∷ (w ++ t ∷ r)) (fault y (t ∷ r)) e)

module _ {T A : Type 0} (K : T → Bool) (a : A) where
  stop_complete : (x : A) (w r : List T) → Nothing a x w → Ends K r → stop K a (w ++ r) ≡ Ok (x, r)
  stop_complete x [] [] h e = ap (λ y. Ok (y, [])) (sym h.0)
  stop_complete x [] (t ∷ r) h e = ap (λ k. stop_at k a t r) e ∙ ap (λ y. Ok (y, t ∷ r)) (sym h.0)
  stop_complete x (t ∷ w) r h e = absurd h.1

  stop_local : (w : List T) (t : T) (r q : List T) (y : Why) → stop K a (w ++ t ∷ r) ≡ Err (fault y (t ∷ r)) → stop K a (w ++ t ∷ q) ≡ Err (fault y (t ∷ q))
  stop_local [] t r q y e = stop_first a t (K t) r q y e
  stop_local (s ∷ w) t r q y e = stop_later a s (K s) w t r q y e

  pub stop_reads : Reads (stop K a) (Nothing a) (λ x. K)
  stop_reads = record { sound = sound; complete = stop_complete; viable = viable; local = stop_local; some = record { tree = a; text = []; spells = (refl, tt) } }
    where
      sound : (ts : List T) (x : A) (r : List T) → stop K a ts ≡ Ok (x, r) → Took (Nothing a) (λ x. K) ts x r
      sound [] x r e =
          let p = ok_is (a, []) (x, r) e in
          let r-is : [] ≡ r = ap (λ (y : A × List T). y.1) p in
          record { text = []; split = r-is; spells = (sym (ap (λ (y : A × List T). y.0) p), tt); ends = subst (Ends K) r-is tt }
      sound (t ∷ ts) x r e = stop_sound K a t ts (K t) refl x r e

      viable : (ts : List T) (f : Fault T) → stop K a ts ≡ Err f → Begun (Nothing a) ts f.rest
      viable [] f e = absurd (no_err (a, []) f e)
      viable (t ∷ ts) f e = stop_viable a t ts (K t) f e

same_wider : {T A : Type 0} (a : A) (t : T) (ts : List T) (k : Bool) → Wider (stop_at k a t ts) (stop_at k a t ts)
same_wider a t ts true = refl
same_wider a t ts false = refl

pub stop_good : {T A : Type 0} (On : Type 0) (K : T → Bool) (a : A) → Good On (stop K a) (stop K a) (Nothing a) (Nothing a) (λ x. K)
stop_good {T} On K a = record { low = stop_reads K a; high = stop_reads K a; wider = λ on ts. wider ts }
  where
    wider : (ts : List T) → Wider (stop K a ts) (stop K a ts)
    wider [] = refl
    wider (t ∷ ts) = same_wider a t ts (K t)

apart_from : {T A : Type 0} (f : T → Move T A) (q : List T → Answer T A) (M : A → List T → Type 0) (K : A → T → Bool) → Reads q M K → Apart f q → (x : A) (t : T) (w : List T) → M x (t ∷ w) → f t ≡ Stray
apart_from {T} {A} f q M K h apart x t w m = by (apart t)
  where
    by : (f t ≡ Stray) ⊎ ((ts : List T) (x : A × List T) → q (t ∷ ts) ≡ Ok x → ⊥) → f t ≡ Stray
    by (inl e) = e
    by (inr never_ok) = absurd (never_ok (w ++ []) (x, []) (h.complete x (t ∷ w) [] m tt))

pub other_apart_good : {T A On : Type 0} {p q : List T → Answer T A} {M N : A → List T → Type 0} {K : A → T → Bool} (f g : T → Move T A) (F G : T → A → List T → Type 0) → ((t : T) → MoveGood On (f t) (g t) (F t) (G t) K) → Good On p q M N K
    → Apart f p → Needs p → Apart g q → Needs q → Good On (other f p) (other g q) (Either F M) (Either G N) K
other_apart_good {T} {A} {On} {p} {q} {M} {N} {K} f g F G each rest apart full apart' full' =
    other_good f g p q F G M N K each rest
    (apart_from f p M K rest.low apart) (λ x m. full (x, []) (rest.low.complete x [] [] m tt))
    (apart_from g q N K rest.high apart') (λ x m. full' (x, []) (rest.high.complete x [] [] m tt))
