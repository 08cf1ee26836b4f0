-- What it is for a reader to read a language, and that the ways to join readers keep it.
use Rattle.std.proofs.Common.{◌≡◌, ℕ, ◌<◌, ◌≤◌, Bool, false, List, [], ◌∷◌, ◌++◌, length, Ok, Err, refl, sym, ap, subst, ◌∙◌, append_assoc, arith}
use Rattle.std.proofs.lemmas.List.{length-append, append_cancel_right}
use Rattle.kola_parse.specs.declared.why.Why.{Why}
use Rattle.kola_parse.specs.declared.why.Why.TheVariants.{Unexpected, TooDeep}
use Rattle.kola_parse.specs.Texts.{ends}
use Rattle.kola_parse.specs.Reader.{Fault, fault, Answer, ◌>>=◌, then, Move, Stray, Deep, Goes, eat_at, eat, may_at, may, done}
use Rattle.kola_parse.specs.Reading.{Ends, never, Took, Begun, Inhabited, Reads, left, WiderAtFault, Wider}
use Rattle.kola_parse.specs.Texts.{Nothing, Chained, Led, Maybe}
use Rattle.kola_parse.specs.Moves.{MoveReads, MayReads}

-- ---- lists and results

shorter : {T : Type 0} (t : T) (a r : List T) → r ≡ t ∷ (a ++ r) → ⊥
shorter t a r e = let n : length r ≡ length (t ∷ (a ++ r)) = ap length e in omega (arith, length-append a r, n)

tail_is : {T : Type 0} (t s : T) (a b : List T) → t ∷ a ≡ s ∷ b → a ≡ b
tail_is t s a b e = cc

pub err_is : {T A : Type 0} (f g : Fault T) → (let x : Answer T A = Err f in x ≡ Err g) → f ≡ g
err_is f g e = cc

pub no_err : {T A : Type 0} (x : A × List T) (f : Fault T) → (let y : Answer T A = Ok x in y ≡ Err f) → ⊥
no_err x f e = cc

pub no_ok : {T A : Type 0} (x : A × List T) (f : Fault T) → (let y : Answer T A = Err f in y ≡ Ok x) → ⊥
no_ok x f e = cc

pub ok_is : {T A : Type 0} (x y : A × List T) → (let z : Answer T A = Ok x in z ≡ Ok y) → x ≡ y
ok_is x y e = cc

pub past : {T : Type 0} (s : T) (w : List T) (t : T) (r : List T) → s ∷ (w ++ t ∷ r) ≡ t ∷ r → ⊥
past s w t r e = let n : length (s ∷ (w ++ t ∷ r)) ≡ length (t ∷ r) = ap length e in omega (arith, length-append w (t ∷ r), n)

pub behind : {T : Type 0} (t : T) {a b : List T} → a ≡ b → t ∷ a ≡ t ∷ b
behind {T} t e = ap (λ (y : List T). t ∷ y) e

pub rest_is : {T : Type 0} {f g : Fault T} → f ≡ g → f.rest ≡ g.rest
rest_is {T} e = ap (λ (f : Fault T). f.rest) e

pub at_rest : {T A : Type 0} {f g : Fault T} (r : List T) → f ≡ g → (let x : Answer T A = Err (fault f.why r) in x ≡ Err (fault g.why r))
at_rest {T} r e = ap (λ (f : Fault T). Err (fault f.why r)) e

pub longer : {T : Type 0} (t : T) (a r : List T) → r ≡ a ++ t ∷ r → ⊥
longer t a r e = let n : length r ≡ length (a ++ t ∷ r) = ap length e in omega (arith, length-append a (t ∷ r), n)

pub ends_none : {T : Type 0} (r : List T) → Ends (λ t. false) r
ends_none [] = tt
ends_none (t ∷ r) = refl

-- what may follow is seen by one token
ends_local : {T : Type 0} (K : T → Bool) (w : List T) (t : T) (r q : List T) → Ends K (w ++ t ∷ r) → Ends K (w ++ t ∷ q)
ends_local K [] t r q h = h
ends_local K (s ∷ w) t r q h = h

-- ---- nothing

pub nil_of : {T : Type 0} (w : List T) → ends w → w ≡ []
nil_of [] h = refl
nil_of (t ∷ w) h = absurd h

pub done_reads : {T A : Type 0} (a : A) → Reads (done a) (Nothing {T = T} a) never
done_reads {T} {A} a = record {
  sound = λ ts x r e. let i = ok_is (a, ts) (x, r) e in record { text = []; split = ap (λ (y : A × List T). y.1) i; spells = (sym (ap (λ (y : A × List T). y.0) i), tt); ends = ends_none r };
  complete = λ x w r h k. let e = nil_of w h.1 in rw (h.0, e) refl;
  viable = λ ts f e. absurd (no_err (a, ts) f e);
  local = λ w t r q y e. absurd (no_err (a, w ++ t ∷ r) (fault y (t ∷ r)) e);
  some = record { tree = a; text = []; spells = (refl, tt) };
}

-- ---- one after the other

-- what comes of two readers
pub data Two {T A B : Type 0} (p : List T → Answer T A) (k : A → List T → Answer T B) (ts : List T) : Answer T B → Type 0 where
  Fails : (f : Fault T) → p ts ≡ Err f → Two p k ts (Err f)
  Goes_on : (a : A) (r : List T) → p ts ≡ Ok (a, r) → Two p k ts (k a r)

two_from : {T A B : Type 0} (p : List T → Answer T A) (k : A → List T → Answer T B) (ts : List T) (z : Answer T A) → p ts ≡ z → Two p k ts (z >>= λ x. k x.0 x.1)
two_from p k ts (Ok x) e = Goes_on x.0 x.1 e
two_from p k ts (Err f) e = Fails f e

two : {T A B : Type 0} (p : List T → Answer T A) (k : A → List T → Answer T B) (ts : List T) → Two p k ts (then p k ts)
two p k ts = two_from p k ts (p ts) refl

module _ {T A B : Type 0} (p : List T → Answer T A) (k : A → List T → Answer T B) (L : A → List T → Type 0) (M : A → B → List T → Type 0) (K : A → T → Bool) (J : B → T → Bool)
    (first : Reads p L K) (second : (a : A) → Reads (k a) (M a) J) (clear : (a : A) (y : B) (v r : List T) → M a y v → Ends (J y) r → Ends (K a) (v ++ r)) where
  then_sound : (ts : List T) (y : B) (r : List T) (z : Answer T B) → Two p k ts z → z ≡ Ok (y, r) → Took (Chained L M) J ts y r
  then_sound ts y r z (Fails f e) h = absurd (no_ok (y, r) f h)
  then_sound ts y r z (Goes_on a s e) h =
      let one = first.sound ts a s e in
      let other = (second a).sound s y r h in
      record {
        text = one.text ++ other.text;
        split = one.split ∙ ap (λ (x : List T). one.text ++ x) other.split ∙ sym (append_assoc one.text other.text r);
        spells = record { mid = a; front = one.text; back = other.text; split = refl; first = one.spells; second = other.spells };
        ends = other.ends;
      }

  then_viable : (ts : List T) (f : Fault T) (z : Answer T B) → Two p k ts z → z ≡ Err f → Begun (Chained L M) ts f.rest
  then_viable ts f z (Fails g e) h =
      let one = first.viable ts f (e ∙ h') in
      let other = (second one.tree).some in
      record {
        text = one.text;
        split = one.split;
        more = one.more ++ other.text;
        tree = other.tree;
        spells = record { mid = one.tree; front = one.text ++ one.more; back = other.text; split = sym (append_assoc one.text one.more other.text); first = one.spells; second = other.spells };
      }
    where
      h' : (let x : Answer T A = Err g in x ≡ Err f)
      h' = ap (λ (x : Fault T). Err x) (err_is g f h)
  then_viable ts f z (Goes_on a s e) h =
      let one = first.sound ts a s e in
      let other = (second a).viable s f h in
      record {
        text = one.text ++ other.text;
        split = one.split ∙ ap (λ (x : List T). one.text ++ x) other.split ∙ sym (append_assoc one.text other.text f.rest);
        more = other.more;
        tree = other.tree;
        spells = record { mid = a; front = one.text; back = other.text ++ other.more; split = append_assoc one.text other.text other.more; first = one.spells; second = other.spells };
      }

  then_complete : (y : B) (w r : List T) → Chained L M y w → Ends (J y) r → then p k (w ++ r) ≡ Ok (y, r)
  then_complete y w r c h =
      let regroup : w ++ r ≡ c.front ++ (c.back ++ r) = ap (λ (x : List T). x ++ r) c.split ∙ append_assoc c.front c.back r in
      let one : p (w ++ r) ≡ Ok (c.mid, c.back ++ r) = ap p regroup ∙ first.complete c.mid c.front (c.back ++ r) c.first (clear c.mid y c.back r c.second h) in
      ap (λ (x : Answer T A). x >>= λ x. k x.0 x.1) one ∙ (second c.mid).complete y c.back r c.second h

  then_local : (w : List T) (t : T) (r q : List T) (y : Why) (z : Answer T B) → Two p k (w ++ t ∷ r) z → z ≡ Err (fault y (t ∷ r)) → then p k (w ++ t ∷ q) ≡ Err (fault y (t ∷ q))
  then_local w t r q y z (Fails g e) h = ap (λ (x : Answer T A). x >>= λ x. k x.0 x.1) (first.local w t r q y (e ∙ ap (λ (x : Fault T). Err x) (err_is g (fault y (t ∷ r)) h)))
  then_local w t r q y z (Goes_on a s e) h =
      let one = first.sound (w ++ t ∷ r) a s e in
      let other = (second a).viable s (fault y (t ∷ r)) h in
      let cut : w ≡ one.text ++ other.text = append_cancel_right w (one.text ++ other.text) (t ∷ r) (one.split ∙ ap (λ (x : List T). one.text ++ x) other.split ∙ sym (append_assoc one.text other.text (t ∷ r))) in
      let regroup : w ++ t ∷ q ≡ one.text ++ (other.text ++ t ∷ q) = ap (λ (x : List T). x ++ t ∷ q) cut ∙ append_assoc one.text other.text (t ∷ q) in
      let ends : Ends (K a) (other.text ++ t ∷ q) = ends_local (K a) other.text t r q (subst (Ends (K a)) other.split one.ends) in
      let again : p (w ++ t ∷ q) ≡ Ok (a, other.text ++ t ∷ q) = ap p regroup ∙ first.complete a one.text (other.text ++ t ∷ q) one.spells ends in
      ap (λ (x : Answer T A). x >>= λ x. k x.0 x.1) again ∙ (second a).local other.text t r q y (ap (k a) (sym other.split) ∙ h)

  pub then_reads : Reads (then p k) (Chained L M) J
  then_reads = record {
    sound = λ ts y r e. then_sound ts y r (then p k ts) (two p k ts) e;
    complete = then_complete;
    viable = λ ts f e. then_viable ts f (then p k ts) (two p k ts) e;
    local = λ w t r q y e. then_local w t r q y (then p k (w ++ t ∷ r)) (two p k (w ++ t ∷ r)) e;
    some = let a = first.some in let b = (second a.tree).some in record { tree = b.tree; text = a.text ++ b.text; spells = record { mid = a.tree; front = a.text; back = b.text; split = refl; first = a.spells; second = b.spells } };
  }

-- ---- a token

eat_sound : {T A : Type 0} (m : Move T A) (F : T → A → List T → Type 0) (K : A → T → Bool) (t : T) (ts : List T) (x : A) (r : List T) → MoveReads m (F t) K → eat_at m t ts ≡ Ok (x, r) → Took (Led F) K (t ∷ ts) x r
eat_sound Stray F K t ts x r m e = absurd (no_ok (x, r) (fault Unexpected (t ∷ ts)) e)
eat_sound Deep F K t ts x r m e = absurd (no_ok (x, r) (fault TooDeep (t ∷ ts)) e)
eat_sound (Goes p) F K t ts x r m e = let one = m.sound ts x r e in record { text = t ∷ one.text; split = behind t one.split; spells = one.spells; ends = one.ends }

eat_complete : {T A : Type 0} (m : Move T A) (F : T → A → List T → Type 0) (K : A → T → Bool) (t : T) (x : A) (w r : List T) → MoveReads m (F t) K → F t x w → Ends (K x) r → eat_at m t (w ++ r) ≡ Ok (x, r)
eat_complete Stray F K t x w r m h e = absurd (m x w h)
eat_complete Deep F K t x w r m h e = absurd (m x w h)
eat_complete (Goes p) F K t x w r m h e = m.complete x w r h e

pub begun_here : {T A : Type 0} (L : A → List T → Type 0) (ts : List T) (f : Fault T) (y : Why) → Inhabited L → fault y ts ≡ f → Begun L ts f.rest
begun_here L ts f y some e = record { text = []; split = rest_is e; more = some.text; tree = some.tree; spells = some.spells }

eat_viable : {T A : Type 0} (m : Move T A) (F : T → A → List T → Type 0) (K : A → T → Bool) (t : T) (ts : List T) (f : Fault T) → Inhabited (Led F) → MoveReads m (F t) K → eat_at m t ts ≡ Err f → Begun (Led F) (t ∷ ts) f.rest
eat_viable Stray F K t ts f some m e = begun_here (Led F) (t ∷ ts) f Unexpected some (err_is _ _ e)
eat_viable Deep F K t ts f some m e = begun_here (Led F) (t ∷ ts) f TooDeep some (err_is _ _ e)
eat_viable (Goes p) F K t ts f some m e = let one = m.viable ts f e in record { text = t ∷ one.text; split = behind t one.split; more = one.more; tree = one.tree; spells = one.spells }

eat_first : {T A : Type 0} (m : Move T A) (F : A → List T → Type 0) (K : A → T → Bool) (t : T) (r q : List T) (y : Why) → MoveReads m F K → eat_at m t r ≡ Err (fault y (t ∷ r)) → eat_at m t q ≡ Err (fault y (t ∷ q))
eat_first Stray F K t r q y m e = at_rest (t ∷ q) (err_is (fault Unexpected (t ∷ r)) (fault y (t ∷ r)) e)
eat_first Deep F K t r q y m e = at_rest (t ∷ q) (err_is (fault TooDeep (t ∷ r)) (fault y (t ∷ r)) e)
eat_first (Goes p) F K t r q y m e = let one = m.viable r (fault y (t ∷ r)) e in absurd (longer t one.text r one.split)

eat_later : {T A : Type 0} (m : Move T A) (F : A → List T → Type 0) (K : A → T → Bool) (s : T) (w : List T) (t : T) (r q : List T) (y : Why) → MoveReads m F K → eat_at m s (w ++ t ∷ r) ≡ Err (fault y (t ∷ r)) → eat_at m s (w ++ t ∷ q) ≡ Err (fault y (t ∷ q))
eat_later Stray F K s w t r q y m e = absurd (past s w t r (rest_is (err_is (fault Unexpected (s ∷ (w ++ t ∷ r))) (fault y (t ∷ r)) e)))
eat_later Deep F K s w t r q y m e = absurd (past s w t r (rest_is (err_is (fault TooDeep (s ∷ (w ++ t ∷ r))) (fault y (t ∷ r)) e)))
eat_later (Goes p) F K s w t r q y m e = m.local w t r q y e

module _ {T A : Type 0} (f : T → Move T A) (F : T → A → List T → Type 0) (K : A → T → Bool) (each : (t : T) → MoveReads (f t) (F t) K) (some : Inhabited (Led F)) where
  eat_reads_sound : (ts : List T) (x : A) (r : List T) → eat f ts ≡ Ok (x, r) → Took (Led F) K ts x r
  eat_reads_sound [] x r e = absurd (no_ok (x, r) (fault Unexpected []) e)
  eat_reads_sound (t ∷ ts) x r e = eat_sound (f t) F K t ts x r (each t) e

  eat_reads_complete : (x : A) (w r : List T) → Led F x w → Ends (K x) r → eat f (w ++ r) ≡ Ok (x, r)
  eat_reads_complete x [] r h e = absurd h
  eat_reads_complete x (t ∷ w) r h e = eat_complete (f t) F K t x w r (each t) h e

  eat_reads_viable : (ts : List T) (g : Fault T) → eat f ts ≡ Err g → Begun (Led F) ts g.rest
  eat_reads_viable [] g e = begun_here (Led F) [] g Unexpected some (err_is _ _ e)
  eat_reads_viable (t ∷ ts) g e = eat_viable (f t) F K t ts g some (each t) e

  eat_reads_local : (w : List T) (t : T) (r q : List T) (y : Why) → eat f (w ++ t ∷ r) ≡ Err (fault y (t ∷ r)) → eat f (w ++ t ∷ q) ≡ Err (fault y (t ∷ q))
  eat_reads_local [] t r q y e = eat_first (f t) (F t) K t r q y (each t) e
  eat_reads_local (s ∷ w) t r q y e = eat_later (f s) (F s) K s w t r q y (each s) e

  pub eat_reads : Reads (eat f) (Led F) K
  eat_reads = record { sound = eat_reads_sound; complete = eat_reads_complete; viable = eat_reads_viable; local = eat_reads_local; some = some }

-- ---- a token or none

may_sound : {T A : Type 0} (a : A) (m : Move T A) (F : T → A → List T → Type 0) (K : A → T → Bool) (t : T) (ts : List T) (x : A) (r : List T) → MayReads m (F t) K (K a t) → may_at a m t ts ≡ Ok (x, r) → Took (Maybe a F) K (t ∷ ts) x r
may_sound {T} {A} a Stray F K t ts x r m e =
    let i = ok_is (a, t ∷ ts) (x, r) e in
    let r-is : t ∷ ts ≡ r = ap (λ (y : A × List T). y.1) i in
    record { text = []; split = r-is; spells = sym (ap (λ (y : A × List T). y.0) i); ends = subst (λ (y : A × List T). Ends (K y.0) y.1) i m.1 }
may_sound a Deep F K t ts x r m e = absurd (no_ok (x, r) (fault TooDeep (t ∷ ts)) e)
may_sound a (Goes p) F K t ts x r m e = let one = m.0.sound ts x r e in record { text = t ∷ one.text; split = behind t one.split; spells = one.spells; ends = one.ends }

may_complete : {T A : Type 0} (a : A) (m : Move T A) (F : T → A → List T → Type 0) (K : A → T → Bool) (t : T) (x : A) (w r : List T) → MayReads m (F t) K (K a t) → F t x w → Ends (K x) r → may_at a m t (w ++ r) ≡ Ok (x, r)
may_complete a Stray F K t x w r m h e = absurd (m.0 x w h)
may_complete a Deep F K t x w r m h e = absurd (m.0 x w h)
may_complete a (Goes p) F K t x w r m h e = m.0.complete x w r h e

may_none : {T A : Type 0} (a x : A) (m : Move T A) (F : A → List T → Type 0) (K : A → T → Bool) (t : T) (r : List T) → MayReads m F K (K a t) → x ≡ a → K x t ≡ false → may_at a m t r ≡ Ok (x, t ∷ r)
may_none {T} a x Stray F K t r m h e = ap (λ y. Ok (y, t ∷ r)) (sym h)
may_none a x Deep F K t r m h e = absurd cc
may_none a x (Goes p) F K t r m h e = absurd (let k = m.1 in cc)

may_viable : {T A : Type 0} (a : A) (m : Move T A) (F : T → A → List T → Type 0) (K : A → T → Bool) (t : T) (ts : List T) (f : Fault T) → MayReads m (F t) K (K a t) → may_at a m t ts ≡ Err f → Begun (Maybe a F) (t ∷ ts) f.rest
may_viable a Stray F K t ts f m e = absurd (no_err (a, t ∷ ts) f e)
may_viable a Deep F K t ts f m e = begun_here (Maybe a F) (t ∷ ts) f TooDeep (record { tree = a; text = []; spells = refl }) (err_is _ _ e)
may_viable a (Goes p) F K t ts f m e = let one = m.0.viable ts f e in record { text = t ∷ one.text; split = behind t one.split; more = one.more; tree = one.tree; spells = one.spells }

may_first : {T A : Type 0} (a : A) (m : Move T A) (F : A → List T → Type 0) (K : A → T → Bool) (k : Bool) (t : T) (r q : List T) (y : Why) → MayReads m F K k → may_at a m t r ≡ Err (fault y (t ∷ r)) → may_at a m t q ≡ Err (fault y (t ∷ q))
may_first a Stray F K k t r q y m e = absurd (no_err (a, t ∷ r) (fault y (t ∷ r)) e)
may_first a Deep F K k t r q y m e = at_rest (t ∷ q) (err_is (fault TooDeep (t ∷ r)) (fault y (t ∷ r)) e)
may_first a (Goes p) F K k t r q y m e = let one = m.0.viable r (fault y (t ∷ r)) e in absurd (longer t one.text r one.split)

may_later : {T A : Type 0} (a : A) (m : Move T A) (F : A → List T → Type 0) (K : A → T → Bool) (k : Bool) (s : T) (w : List T) (t : T) (r q : List T) (y : Why) → MayReads m F K k → may_at a m s (w ++ t ∷ r) ≡ Err (fault y (t ∷ r)) → may_at a m s (w ++ t ∷ q) ≡ Err (fault y (t ∷ q))
may_later a Stray F K k s w t r q y m e = absurd (no_err (a, s ∷ (w ++ t ∷ r)) (fault y (t ∷ r)) e)
may_later a Deep F K k s w t r q y m e = absurd (past s w t r (rest_is (err_is (fault TooDeep (s ∷ (w ++ t ∷ r))) (fault y (t ∷ r)) e)))
may_later a (Goes p) F K k s w t r q y m e = m.0.local w t r q y e

module _ {T A : Type 0} (a : A) (f : T → Move T A) (F : T → A → List T → Type 0) (K : A → T → Bool) (each : (t : T) → MayReads (f t) (F t) K (K a t)) where
  may_reads_sound : (ts : List T) (x : A) (r : List T) → may a f ts ≡ Ok (x, r) → Took (Maybe a F) K ts x r
  may_reads_sound [] x r e =
      let i = ok_is (a, []) (x, r) e in
      let r-is : [] ≡ r = ap (λ (y : A × List T). y.1) i in
      record { text = []; split = r-is; spells = sym (ap (λ (y : A × List T). y.0) i); ends = subst (λ (y : A × List T). Ends (K y.0) y.1) i tt }
  may_reads_sound (t ∷ ts) x r e = may_sound a (f t) F K t ts x r (each t) e

  may_reads_complete : (x : A) (w r : List T) → Maybe a F x w → Ends (K x) r → may a f (w ++ r) ≡ Ok (x, r)
  may_reads_complete x [] [] h e = ap (λ y. Ok (y, [])) (sym h)
  may_reads_complete x [] (t ∷ r) h e = may_none a x (f t) (F t) K t r (each t) h e
  may_reads_complete x (t ∷ w) r h e = may_complete a (f t) F K t x w r (each t) h e

  may_reads_viable : (ts : List T) (g : Fault T) → may a f ts ≡ Err g → Begun (Maybe a F) ts g.rest
  may_reads_viable [] g e = absurd (no_err (a, []) g e)
  may_reads_viable (t ∷ ts) g e = may_viable a (f t) F K t ts g (each t) e

  may_reads_local : (w : List T) (t : T) (r q : List T) (y : Why) → may a f (w ++ t ∷ r) ≡ Err (fault y (t ∷ r)) → may a f (w ++ t ∷ q) ≡ Err (fault y (t ∷ q))
  may_reads_local [] t r q y e = may_first a (f t) (F t) K (K a t) t r q y (each t) e
  may_reads_local (s ∷ w) t r q y e = may_later a (f s) (F s) K (K a s) s w t r q y (each s) e

  pub may_reads : Reads (may a f) (Maybe a F) K
  may_reads = record { sound = may_reads_sound; complete = may_reads_complete; viable = may_reads_viable; local = may_reads_local; some = record { tree = a; text = []; spells = refl } }

-- ---- a reader with wider limits

abbrev pub Shrinks : {T A : Type 0} → (List T → Answer T A) → Type 0
Shrinks p = (ts : List _) → length (left (p ts)) ≤ length ts

shrinks_by : {T A : Type 0} (p : List T → Answer T A) (L : A → List T → Type 0) (K : A → T → Bool) → Reads p L K → (ts : List T) (z : Answer T A) → p ts ≡ z → length (left z) ≤ length ts
shrinks_by p L K h ts (Ok x) e = let one = h.sound ts x.0 x.1 e in let n = ap length one.split in omega (arith, n, length-append one.text x.1)
shrinks_by p L K h ts (Err f) e = let one = h.viable ts f e in let n = ap length one.split in omega (arith, n, length-append one.text f.rest)

pub shrinks : {T A : Type 0} (p : List T → Answer T A) (L : A → List T → Type 0) (K : A → T → Bool) → Reads p L K → Shrinks p
shrinks p L K h ts = shrinks_by p L K h ts (p ts) refl

then_shrinks : {T A B : Type 0} (z : Answer T A) (h : A → List T → Answer T B) (n : ℕ) → ((a : A) → Shrinks (h a)) → length (left z) < n → length (left (z >>= λ x. h x.0 x.1)) < n
then_shrinks (Ok x) h n s l = omega (arith, s x.0 x.1, l)
then_shrinks (Err f) h n s l = l

then_wider_at : {T A B : Type 0} (y : Why) (r : List T) (z : Answer T A) (h : A → List T → Answer T B) → ((a : A) → Shrinks (h a)) → WiderAtFault y r z → WiderAtFault y r (z >>= λ x. h x.0 x.1)
then_wider_at Unexpected r z h s w = ap (λ x. x >>= λ x. h x.0 x.1) w
then_wider_at TooDeep r z h s w = then_shrinks z h (length r) s w

pub then_wider : {T A B : Type 0} (y z : Answer T A) (k h : A → List T → Answer T B) → Wider y z → ((a : A) (s : List T) → Wider (k a s) (h a s)) → ((a : A) → Shrinks (h a)) → Wider (y >>= λ x. k x.0 x.1) (z >>= λ x. h x.0 x.1)
then_wider (Ok x) z k h w v s = subst (λ u. Wider (k x.0 x.1) (u >>= λ x. h x.0 x.1)) (sym w) (v x.0 x.1)
then_wider (Err f) z k h w v s = then_wider_at f.why f.rest z h s w
