-- Two readers, of which the second has wider limits, and what follows for a family of readers.
use Rattle.std.proofs.Common.{◌≡◌, ℕ, zero, suc, ◌+◌, ◌<◌, Bool, false, List, [], ◌∷◌, ◌++◌, length, Ok, Err, refl, sym, ap, subst, ◌∙◌, append_assoc, arith, add_comm}
use Rattle.std.proofs.lemmas.List.{append-nil, length-append}
use Rattle.kola_parse.specs.declared.why.Why.{Why}
use Rattle.kola_parse.specs.declared.why.Why.TheVariants.{Unexpected, TooDeep}
use Rattle.kola_parse.specs.Reader.{Fault, fault, Answer, ◌>>=◌, then, Move, Stray, Deep, Goes, eat_at, eat, done, made, pair, end_of, whole}
use Rattle.kola_parse.specs.Faults.{Accepted, Unlimited, Begins, Through, IsCause, IsFirstFault}
use Rattle.kola_parse.proofs.ReaderLaws.{ends_none, done_reads, then_reads, eat_reads, shrinks, then_wider, ok_is, no_ok, no_err, err_is, rest_is}
use Rattle.kola_parse.specs.Reading.{Ends, never, Took, Begun, Inhabited, Reads, left, Wider, Good}
use Rattle.kola_parse.specs.Texts.{Nothing, Chained, Made, Paired, Led}
use Rattle.kola_parse.specs.Moves.{MoveReads, MoveGood}

pub done_good : {T A : Type 0} (On : Type 0) (a : A) → Good On (done {T = T} a) (done a) (Nothing a) (Nothing a) never
done_good On a = record { low = done_reads a; high = done_reads a; wider = λ on ts. refl }

-- one after the other, where what the second begins with does not go on the first
pub then_good : {T A B On : Type 0} {p q : List T → Answer T A} {k h : A → List T → Answer T B} {L M : A → List T → Type 0} {F G : A → B → List T → Type 0} {K : A → T → Bool} {J : B → T → Bool}
    → Good On p q L M K → ((a : A) → Good On (k a) (h a) (F a) (G a) J) → ((a : A) (y : B) (v r : List T) → F a y v → Ends (J y) r → Ends (K a) (v ++ r)) → ((a : A) (y : B) (v r : List T) → G a y v → Ends (J y) r → Ends (K a) (v ++ r))
    → Good On (then p k) (then q h) (Chained L F) (Chained M G) J
then_good {T} {A} {B} {On} {p} {q} {k} {h} {L} {M} {F} {G} {K} {J} one other clear clear' = record {
  low = then_reads p k L F K J one.low (λ a. (other a).low) clear;
  high = then_reads q h M G K J one.high (λ a. (other a).high) clear';
  wider = λ on ts. then_wider (p ts) (q ts) k h (one.wider on ts) (λ a s. (other a).wider on s) (λ a. shrinks (h a) (G a) J (other a).high);
}

-- the same where nothing goes on the first
pub next_good : {T A B On : Type 0} {p q : List T → Answer T A} {k h : A → List T → Answer T B} {L M : A → List T → Type 0} {F G : A → B → List T → Type 0} {J : B → T → Bool}
    → Good On p q L M never → ((a : A) → Good On (k a) (h a) (F a) (G a) J) → Good On (then p k) (then q h) (Chained L F) (Chained M G) J
next_good one other = then_good one other (λ a y v r m e. ends_none (v ++ r)) (λ a y v r m e. ends_none (v ++ r))

pub move_low : {T A : Type 0} (On : Type 0) (m n : Move T A) (F G : A → List T → Type 0) (K : A → T → Bool) → MoveGood On m n F G K → MoveReads m F K
move_low On Stray Stray F G K h = h.0
move_low On Stray Deep F G K h = absurd h
move_low On Stray (Goes q) F G K h = absurd h
move_low On Deep Stray F G K h = absurd h
move_low On Deep Deep F G K h = h.0
move_low On Deep (Goes q) F G K h = h.0
move_low On (Goes p) Stray F G K h = absurd h
move_low On (Goes p) Deep F G K h = absurd h
move_low On (Goes p) (Goes q) F G K h = h.low

pub move_high : {T A : Type 0} (On : Type 0) (m n : Move T A) (F G : A → List T → Type 0) (K : A → T → Bool) → MoveGood On m n F G K → MoveReads n G K
move_high On Stray Stray F G K h = h.1
move_high On Stray Deep F G K h = absurd h
move_high On Stray (Goes q) F G K h = absurd h
move_high On Deep Stray F G K h = absurd h
move_high On Deep Deep F G K h = h.1
move_high On Deep (Goes q) F G K h = h.1
move_high On (Goes p) Stray F G K h = absurd h
move_high On (Goes p) Deep F G K h = absurd h
move_high On (Goes p) (Goes q) F G K h = h.high

eat_wider : {T A : Type 0} (On : Type 0) (m n : Move T A) (F G : A → List T → Type 0) (K : A → T → Bool) (t : T) (ts : List T) → MoveGood On m n F G K → On → Wider (eat_at m t ts) (eat_at n t ts)
eat_wider On Stray Stray F G K t ts h on = refl
eat_wider On Stray Deep F G K t ts h on = absurd h
eat_wider On Stray (Goes q) F G K t ts h on = absurd h
eat_wider On Deep Stray F G K t ts h on = absurd h
eat_wider On Deep Deep F G K t ts h on = absurd (h.2 on)
eat_wider On Deep (Goes q) F G K t ts h on = let n = shrinks q G K h.1 ts in omega (arith, n)
eat_wider On (Goes p) Stray F G K t ts h on = absurd h
eat_wider On (Goes p) Deep F G K t ts h on = absurd h
eat_wider On (Goes p) (Goes q) F G K t ts h on = h.wider on ts

pub eat_good : {T A On : Type 0} (f g : T → Move T A) (F G : T → A → List T → Type 0) (K : A → T → Bool) → ((t : T) → MoveGood On (f t) (g t) (F t) (G t) K) → Inhabited (Led F) → Inhabited (Led G) → Good On (eat f) (eat g) (Led F) (Led G) K
eat_good {T} {A} {On} f g F G K each some some' = record {
  low = eat_reads f F K (λ t. move_low On (f t) (g t) (F t) (G t) K (each t)) some;
  high = eat_reads g G K (λ t. move_high On (f t) (g t) (F t) (G t) K (each t)) some';
  wider = wider;
}
  where
    wider : On → (ts : List T) → Wider (eat f ts) (eat g ts)
    wider on [] = refl
    wider on (t ∷ ts) = eat_wider On (f t) (g t) (F t) (G t) K t ts (each t) on

-- a language may be written otherwise
pub reads_as : {T A : Type 0} {p : List T → Answer T A} {L M : A → List T → Type 0} {K : A → T → Bool} → ((x : A) (w : List T) → L x w → M x w) → ((x : A) (w : List T) → M x w → L x w) → Reads p L K → Reads p M K
reads_as to from h = record {
  sound = λ ts x r e. let one = h.sound ts x r e in record { text = one.text; split = one.split; spells = to x one.text one.spells; ends = one.ends };
  complete = λ x w r m k. h.complete x w r (from x w m) k;
  viable = λ ts f e. let one = h.viable ts f e in record { text = one.text; split = one.split; more = one.more; tree = one.tree; spells = to one.tree (one.text ++ one.more) one.spells };
  local = h.local;
  some = record { tree = h.some.tree; text = h.some.text; spells = to h.some.tree h.some.text h.some.spells };
}

pub good_as : {T A On : Type 0} {p q : List T → Answer T A} {L M F G : A → List T → Type 0} {K : A → T → Bool} → ((x : A) (w : List T) → L x w → F x w) → ((x : A) (w : List T) → F x w → L x w) → ((x : A) (w : List T) → M x w → G x w) → ((x : A) (w : List T) → G x w → M x w)
    → Good On p q L M K → Good On p q F G K
good_as to from to' from' h = record { low = reads_as to from h.low; high = reads_as to' from' h.high; wider = h.wider }

-- ---- what is made of a value

module _ {T A B : Type 0} (f : A → B) (p : List T → Answer T A) (L : A → List T → Type 0) (K : B → T → Bool) (h : Reads p L (λ a. K (f a))) where
  made_sound : (ts : List T) (y : B) (r : List T) (z : Answer T A) → p ts ≡ z → (z >>= λ x. done (f x.0) x.1) ≡ Ok (y, r) → Took (Made f L) K ts y r
  made_sound ts y r (Ok x) e k =
      let i = ok_is (f x.0, x.1) (y, r) k in
      let y-is : f x.0 ≡ y = ap (λ (z : B × List T). z.0) i in
      let r-is : x.1 ≡ r = ap (λ (z : B × List T). z.1) i in
      let one = h.sound ts x.0 x.1 e in
      let i' : (f x.0, x.1) ≡ (y, r) = i in
      record { text = one.text; split = one.split ∙ ap (λ (z : List T). one.text ++ z) r-is; spells = record { part = x.0; is = sym y-is; spells = one.spells }; ends = subst (λ (z : B × List T). Ends (K z.0) z.1) i' one.ends }
  made_sound ts y r (Err g) e k = absurd (no_ok (y, r) g k)

  made_viable : (ts : List T) (g : Fault T) (z : Answer T A) → p ts ≡ z → (z >>= λ x. done (f x.0) x.1) ≡ Err g → Begun (Made f L) ts g.rest
  made_viable ts g (Ok x) e k = absurd (no_err (f x.0, x.1) g k)
  made_viable ts g (Err i) e k =
      let one = h.viable ts i e in
      record { text = one.text; split = one.split ∙ ap (λ (z : List T). one.text ++ z) (rest_is (err_is i g k)); more = one.more; tree = f one.tree; spells = record { part = one.tree; is = refl; spells = one.spells } }

  made_local : (ts us : List T) (t : T) (r q : List T) (y : Why) (z : Answer T A) → ((y : Why) → p ts ≡ Err (fault y (t ∷ r)) → p us ≡ Err (fault y (t ∷ q))) → p ts ≡ z → (z >>= λ x. done (f x.0) x.1) ≡ Err (fault y (t ∷ r)) → made f p us ≡ Err (fault y (t ∷ q))
  made_local ts us t r q y (Ok x) go e k = absurd (no_err (f x.0, x.1) (fault y (t ∷ r)) k)
  made_local ts us t r q y (Err i) go e k = ap (λ (z : Answer T A). z >>= λ x. done (f x.0) x.1) (go y (e ∙ ap (λ (j : Fault T). Err j) (err_is i (fault y (t ∷ r)) k)))

  pub made_reads : Reads (made f p) (Made f L) K
  made_reads = record {
    sound = λ ts y r e. made_sound ts y r (p ts) refl e;
    complete = λ y w r m k. ap (λ (z : Answer T A). z >>= λ x. done (f x.0) x.1) (h.complete m.part w r m.spells (subst (λ z. Ends (K z) r) m.is k)) ∙ ap (λ (z : B). Ok (z, r)) (sym m.is);
    viable = λ ts g e. made_viable ts g (p ts) refl e;
    local = λ w t r q y e. made_local (w ++ t ∷ r) (w ++ t ∷ q) t r q y (p (w ++ t ∷ r)) (λ y. h.local w t r q y) refl e;
    some = record { tree = f h.some.tree; text = h.some.text; spells = record { part = h.some.tree; is = refl; spells = h.some.spells } };
  }

pub made_good : {T A B On : Type 0} (f : A → B) {p q : List T → Answer T A} {L M : A → List T → Type 0} (K : B → T → Bool) → Good On p q L M (λ a. K (f a)) → Good On (made f p) (made f q) (Made f L) (Made f M) K
made_good f {p} {q} {L} {M} K h = record {
  low = made_reads f p L K h.low;
  high = made_reads f q M K h.high;
  wider = λ on ts. then_wider (p ts) (q ts) (λ a. done (f a)) (λ a. done (f a)) (h.wider on ts) (λ a s. refl) (λ a s. omega arith);
}

-- ---- a value, and then another

module _ {T A B : Type 0} (L : A → List T → Type 0) (F : A → B → List T → Type 0) where
  pub to_paired : (y : A × B) (w : List T) → Chained L (λ a. Made (λ b. (a, b)) (F a)) y w → Paired L F y w
  to_paired y w c = subst (λ (z : A × B). Paired L F z w) (sym c.second.is) (record { front = c.front; back = c.back; split = c.split; first = c.first; second = c.second.spells })

  pub from_paired : (y : A × B) (w : List T) → Paired L F y w → Chained L (λ a. Made (λ b. (a, b)) (F a)) y w
  from_paired y w h = record { mid = y.0; front = h.front; back = h.back; split = h.split; first = h.first; second = record { part = y.1; is = refl; spells = h.second } }

pub pair_good : {T A B On : Type 0} {p q : List T → Answer T A} {k h : A → List T → Answer T B} {L M : A → List T → Type 0} {F G : A → B → List T → Type 0} (J : A × B → T → Bool)
    → Good On p q L M never → ((a : A) → Good On (k a) (h a) (F a) (G a) (λ b. J (a, b))) → Good On (pair p k) (pair q h) (Paired L F) (Paired M G) J
pair_good {T} {A} {B} {On} {p} {q} {k} {h} {L} {M} {F} {G} J one other =
    good_as (to_paired L F) (from_paired L F) (to_paired M G) (from_paired M G) (next_good one (λ a. made_good (λ (b : B). (a, b)) J (other a)))

-- ---- a family of readers, each with wider limits than the one before

append_one : {T : Type 0} (w : List T) (t : T) (u : List T) → (w ++ t ∷ []) ++ u ≡ w ++ t ∷ u
append_one w t u = append_assoc w (t ∷ []) u

-- what leaves less of a list took its next token
reaches : {T : Type 0} (w : List T) (t : T) (r v s : List T) → w ++ t ∷ r ≡ v ++ s → length s < length (t ∷ r) → (u : List T) × (v ≡ (w ++ t ∷ []) ++ u)
reaches [] t r [] s e l = let n = ap length e in absurd (omega (arith, n))
reaches {T} [] t r (x ∷ v) s e l = (v, let same : x ≡ t = cc in ap (λ (y : T). y ∷ v) same)
reaches (x ∷ w) t r [] s e l = let n = ap length e in absurd (omega (arith, n, length-append w (t ∷ r)))
reaches {T} (x ∷ w) t r (y ∷ v) s e l =
    let rest : w ++ t ∷ r ≡ v ++ s = cc in
    let same : y ≡ x = cc in
    let more = reaches w t r v s rest l in
    (more.0, let v-is = more.1 in cc)

module _ {T A : Type 0} (p : ℕ → List T → Answer T A) (L : ℕ → A → List T → Type 0) (K : A → T → Bool) (good : (d : ℕ) → Good (Unit {0}) (p d) (p (suc d)) (L d) (L (suc d)) K) where
  -- a text, read with nothing after it
  pub reads_all : (d : ℕ) (x : A) (w : List T) → L d x w → p d w ≡ Ok (x, [])
  reads_all d x w h = ap (p d) (sym (append-nil w)) ∙ (good d).low.complete x w [] h tt

  pub spells_all : (d : ℕ) (x : A) (w : List T) → p d w ≡ Ok (x, []) → L d x w
  spells_all d x w e = let one = (good d).low.sound w x [] e in subst (L d x) (sym (one.split ∙ append-nil one.text)) one.spells

  -- what is not too deep stays so
  up_ok : (d k : ℕ) (ts : List T) (x : A × List T) → p d ts ≡ Ok x → p (k + d) ts ≡ Ok x
  up_ok d zero ts x e = ap (λ (n : ℕ). p n ts) (omega arith) ∙ e
  up_ok d (suc k) ts x e =
      let before = up_ok d k ts x e in
      let next = subst (λ z. Wider z (p (suc (k + d)) ts)) before ((good (k + d)).wider tt ts) in
      ap (λ (n : ℕ). p n ts) (omega arith) ∙ next

  up_err : (d k : ℕ) (ts r : List T) → p d ts ≡ Err (fault Unexpected r) → p (k + d) ts ≡ Err (fault Unexpected r)
  up_err d zero ts r e = ap (λ (n : ℕ). p n ts) (omega arith) ∙ e
  up_err d (suc k) ts r e =
      let before = up_err d k ts r e in
      let next = subst (λ z. Wider z (p (suc (k + d)) ts)) before ((good (k + d)).wider tt ts) in
      ap (λ (n : ℕ). p n ts) (omega arith) ∙ next

  -- more is spelled within wider limits
  pub up_spells : (d k : ℕ) (x : A) (w : List T) → L d x w → L (k + d) x w
  up_spells d k x w h = spells_all (k + d) x w (up_ok d k w (x, []) (reads_all d x w h))

  -- the answer on the whole list, by what the reader answered
  whole_ok : (d : ℕ) (ts : List T) (x : A) (z : Answer T A) → p d ts ≡ z → (z >>= λ y. end_of y.0 y.1) ≡ Ok x → L d x ts
  whole_ok d ts x (Ok y) e h = ended y.0 y.1 e h
    where
      ended : (a : A) (r : List T) → p d ts ≡ Ok (a, r) → end_of a r ≡ Ok x → L d x ts
      ended a [] e h = spells_all d x ts (e ∙ ap (λ b. Ok (b, [])) (let i : a ≡ x = cc in i))
      ended a (t ∷ r) e h = absurd cc
  whole_ok d ts x (Err f) e h = absurd cc

  -- no wider limits let a reader go past where it did not do so for depth
  stays_err : (d : ℕ) (w : List T) (t : T) (r : List T) → p d (w ++ t ∷ r) ≡ Err (fault Unexpected (t ∷ r)) → Begins (Unlimited L) (w ++ t ∷ []) → ⊥
  stays_err d w t r e (u, (n, x, h)) =
      let at : w ++ t ∷ u ≡ (w ++ t ∷ []) ++ u = sym (append_one w t u) in
      let here = up_err d n (w ++ t ∷ r) (t ∷ r) e in
      let moved = (good (n + d)).low.local w t r u Unexpected here in
      let spelled = up_spells n d x ((w ++ t ∷ []) ++ u) h in
      let read = reads_all (d + n) x ((w ++ t ∷ []) ++ u) spelled in
      no_ok (x, []) (fault Unexpected (t ∷ u)) (sym moved ∙ ap (λ (k : ℕ). p k (w ++ t ∷ u)) (add_comm n d) ∙ ap (p (d + n)) at ∙ read)

  stays_end : (d : ℕ) (w : List T) → p d w ≡ Err (fault Unexpected []) → (Unlimited L) w → ⊥
  stays_end d w e (n, x, h) =
      no_ok (x, []) (fault Unexpected []) (sym (up_err d n w [] e) ∙ ap (λ (k : ℕ). p k w) (add_comm n d) ∙ reads_all (d + n) x w (up_spells n d x w h))

  stays_ok : (d : ℕ) (w : List T) (t : T) (y : A) → L d y w → K y t ≡ false → Begins (Unlimited L) (w ++ t ∷ []) → ⊥
  stays_ok d w t y s k (u, (n, x, h)) =
      let at : w ++ t ∷ u ≡ (w ++ t ∷ []) ++ u = sym (append_one w t u) in
      let here = (good (n + d)).low.complete y w (t ∷ u) (up_spells d n y w s) k in
      let read = reads_all (d + n) x ((w ++ t ∷ []) ++ u) (up_spells n d x ((w ++ t ∷ []) ++ u) h) in
      let both = sym here ∙ ap (λ (k : ℕ). p k (w ++ t ∷ u)) (add_comm n d) ∙ ap (p (d + n)) at ∙ read in
      let rests = ok_is (y, t ∷ u) (x, []) both in
      let rest : t ∷ u ≡ [] = ap (λ (z : A × List T). z.1) rests in
      absurd cc

  -- what is accepted is accepted without limits
  widen : (d : ℕ) (w : List T) → Through (Accepted L d) w [] → (Unlimited L) w
  widen d w (x, h) = (d, x, h)

  through_widen : (d : ℕ) (w r : List T) → Through (Accepted L d) w r → Through (Unlimited L) w r
  through_widen d w [] (x, h) = (d, x, h)
  through_widen d w (t ∷ r) (u, (x, h)) = (u, (d, x, h))

  -- one more level takes the token that was too deep
  deeper_by : (d : ℕ) (w : List T) (t : T) (r : List T) (z : Answer T A) → p (suc d) (w ++ t ∷ r) ≡ z → length (left z) < length (t ∷ r) → Begins (Unlimited L) (w ++ t ∷ [])
  deeper_by d w t r (Ok y) e l =
      let one = (good (suc d)).low.sound (w ++ t ∷ r) y.0 y.1 e in
      let past = reaches w t r one.text y.1 one.split l in
      (past.0, (suc d, y.0, subst (L (suc d) y.0) past.1 one.spells))
  deeper_by d w t r (Err f) e l =
      let one = (good (suc d)).low.viable (w ++ t ∷ r) f e in
      let past = reaches w t r one.text f.rest one.split l in
      (past.0 ++ one.more, (suc d, one.tree, subst (L (suc d) one.tree) (ap (λ (v : List T). v ++ one.more) past.1 ∙ append_assoc (w ++ t ∷ []) past.0 one.more) one.spells))

  no_limit_left : (d : ℕ) (ts w r : List T) → ts ≡ w ++ r → p d ts ≡ Err (fault TooDeep r) → Through (Unlimited L) w r
  no_limit_left d ts w [] s e =
      let next = subst (λ z. Wider z (p (suc d) ts)) e ((good d).wider tt ts) in
      absurd (let n : length (left (p (suc d) ts)) < 0 = next in omega (arith, n))
  no_limit_left d ts w (t ∷ r) s e =
      let next = subst (λ z. Wider z (p (suc d) ts)) e ((good d).wider tt ts) in
      deeper_by d w t r (p (suc d) (w ++ t ∷ r)) refl (subst (λ v. length (left (p (suc d) v)) < length (t ∷ r)) s next)

  cause_of : (d : ℕ) (ts w r : List T) (y : Why) → ts ≡ w ++ r → p d ts ≡ Err (fault y r) → IsCause (Unlimited L) w r y
  cause_of d ts w [] Unexpected s e = λ h. stays_end d w (ap (p d) (sym (s ∙ append-nil w)) ∙ e) h
  cause_of d ts w (t ∷ r) Unexpected s e = λ h. stays_err d w t r (ap (p d) (sym s) ∙ e) h
  cause_of d ts w r TooDeep s e = no_limit_left d ts w r s e

  no_further_of : (d : ℕ) (ts w r : List T) (y : Why) → ts ≡ w ++ r → p d ts ≡ Err (fault y r) → Through (Accepted L d) w r → ⊥
  no_further_of d ts w [] y s e (x, h) = no_ok (x, []) (fault y []) (sym e ∙ ap (p d) (s ∙ append-nil w) ∙ reads_all d x w h)
  no_further_of d ts w (t ∷ r) y s e (u, (x, h)) =
      let moved = (good d).low.local w t r u y (ap (p d) (sym s) ∙ e) in
      no_ok (x, []) (fault y (t ∷ u)) (sym moved ∙ ap (p d) (sym (append_one w t u)) ∙ reads_all d x ((w ++ t ∷ []) ++ u) h)

  -- where the front of a list is read, what is refused is refused at its first fault
  pub front_fault : (d : ℕ) (ts : List T) (f : Fault T) → p d ts ≡ Err (fault f.why f.rest) → IsFirstFault (Accepted L d) (Unlimited L) ts f
  front_fault d ts f at =
      let one = (good d).low.viable ts f at in
      record {
        before = one.text;
        split = one.split;
        begins = (one.more, (one.tree, one.spells));
        no_further = no_further_of d ts one.text f.rest f.why one.split at;
        cause = cause_of d ts one.text f.rest f.why one.split at;
      }

  whole_err : (d : ℕ) (ts : List T) (f : Fault T) (z : Answer T A) → p d ts ≡ z → (z >>= λ y. end_of y.0 y.1) ≡ Err f → IsFirstFault (Accepted L d) (Unlimited L) ts f
  whole_err d ts f (Err g) e h =
      let same : g ≡ f = cc in
      front_fault d ts f (e ∙ ap (λ (k : Fault T). Err (fault k.why k.rest)) same)
  whole_err d ts f (Ok y) e h = ended y.0 y.1 e h
    where
      over : (a : A) (t : T) (r : List T) → p d ts ≡ Ok (a, t ∷ r) → IsFirstFault (Accepted L d) (Unlimited L) ts (fault Unexpected (t ∷ r))
      over a t r e =
          let one = (good d).low.sound ts a (t ∷ r) e in
          record {
            before = one.text;
            split = one.split;
            begins = ([], (a, subst (L d a) (sym (append-nil one.text)) one.spells));
            no_further = λ h. stays_ok d one.text t a one.spells one.ends (through_widen d one.text (t ∷ r) h);
            cause = stays_ok d one.text t a one.spells one.ends;
          }

      ended : (a : A) (r : List T) → p d ts ≡ Ok (a, r) → end_of a r ≡ Err f → IsFirstFault (Accepted L d) (Unlimited L) ts f
      ended a [] e h = absurd cc
      ended a (t ∷ r) e h = subst (IsFirstFault (Accepted L d) (Unlimited L) ts) (let i : fault Unexpected (t ∷ r) ≡ f = cc in i) (over a t r e)

  -- what is read is spelled so
  pub whole_sound : (d : ℕ) (ts : List T) (x : A) → whole (p d) ts ≡ Ok x → L d x ts
  whole_sound d ts x e = whole_ok d ts x (p d ts) refl e

  -- what is spelled so is read
  pub whole_complete : (d : ℕ) (ts : List T) (x : A) → L d x ts → whole (p d) ts ≡ Ok x
  whole_complete d ts x h = ap (λ (z : Answer T A). z >>= λ y. end_of y.0 y.1) (reads_all d x ts h)

  -- what is refused is refused at its first fault
  pub whole_fault : (d : ℕ) (ts : List T) (f : Fault T) → whole (p d) ts ≡ Err f → IsFirstFault (Accepted L d) (Unlimited L) ts f
  whole_fault d ts f e = whole_err d ts f (p d ts) refl e

  -- each text has one tree
  pub one_tree : (d n : ℕ) (x y : A) (w : List T) → L d x w → L n y w → x ≡ y
  one_tree d n x y w h k =
      let a = reads_all (n + d) x w (up_spells d n x w h) in
      let b = reads_all (d + n) y w (up_spells n d y w k) in
      ap (λ (z : A × List T). z.0) (ok_is (x, []) (y, []) (sym a ∙ ap (λ (m : ℕ). p m w) (add_comm n d) ∙ b))
