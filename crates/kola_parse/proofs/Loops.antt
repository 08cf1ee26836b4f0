-- A loop that takes the links of a chain, one after the other.
use Rattle.std.proofs.Common.{◌≡◌, ◌-◌, ℕ, zero, suc, List, [], ◌∷◌, Result, Ok, Err, Some, None, refl, sym, ap, ◌∙◌, arith}
use Rattle.kola_parse.specs.declared.stop.Stop.{Stop}
use Rattle.kola_parse.specs.declared.stop.Stop.TheVariants.{Memory, Before}
use Rattle.kola_parse.specs.Given.{Fails}
use Rattle.kola_parse.specs.Reader.{Fault, fault, Answer, ◌>>=◌, Move, Stray, Deep, Goes, may_at, no_link, one_link, chain, link_by, link_at}

stops_at : {T A L : Type 0} (f : A → T → Move T L) (grow : A → L → A) (n : ℕ) (a : A) (t : T) (ts : List T) (m : Move T L) → f a t ≡ m → link_by m n t ts ≡ Ok None → chain f grow n a (t ∷ ts) ≡ Ok (a, t ∷ ts)
stops_at f grow zero a t ts Stray e h = ap (λ v. may_at a (no_link v) t ts) e
stops_at f grow (suc n) a t ts Stray e h = ap (λ v. may_at a (one_link (λ l. chain f grow n (grow a l)) v) t ts) e
stops_at f grow n a t ts Deep e h = absurd cc
stops_at f grow zero a t ts (Goes p) e h = absurd cc
stops_at {T} {A} {L} f grow (suc n) a t ts (Goes p) e h = absurd (some (p ts) h)
  where
    some : (z : Answer T L) → (z >>= λ x. Ok (Some x)) ≡ Ok None → ⊥
    some (Ok x) h = cc
    some (Err g) h = cc

-- with no further link the chain ends
pub chain_ends : {T A L : Type 0} (f : A → T → Move T L) (grow : A → L → A) (n : ℕ) (a : A) (ts : List T) → link_at (f a) n ts ≡ Ok None → chain f grow n a ts ≡ Ok (a, ts)
chain_ends f grow zero a [] h = refl
chain_ends f grow (suc n) a [] h = refl
chain_ends f grow n a (t ∷ ts) h = stops_at f grow n a t ts (f a t) refl h

fails_at : {T A L : Type 0} (f : A → T → Move T L) (grow : A → L → A) (n : ℕ) (a : A) (t : T) (ts : List T) (m : Move T L) (e : Fault T) → f a t ≡ m → link_by m n t ts ≡ Err e → chain f grow n a (t ∷ ts) ≡ Err e
fails_at f grow n a t ts Stray e i h = absurd cc
fails_at f grow zero a t ts Deep e i h = ap (λ v. may_at a (no_link v) t ts) i ∙ (let k : fault _ (t ∷ ts) ≡ e = cc in ap (λ g. Err g) k)
fails_at f grow (suc n) a t ts Deep e i h = ap (λ v. may_at a (one_link (λ l. chain f grow n (grow a l)) v) t ts) i ∙ (let k : fault _ (t ∷ ts) ≡ e = cc in ap (λ g. Err g) k)
fails_at f grow zero a t ts (Goes p) e i h = ap (λ v. may_at a (no_link v) t ts) i ∙ (let k : fault _ (t ∷ ts) ≡ e = cc in ap (λ g. Err g) k)
fails_at {T} {A} {L} f grow (suc n) a t ts (Goes p) e i h = ap (λ v. may_at a (one_link (λ l. chain f grow n (grow a l)) v) t ts) i ∙ after (p ts) h
  where
    after : (z : Answer T L) → (z >>= λ x. Ok (Some x)) ≡ Err e → (z >>= λ x. chain f grow n (grow a x.0) x.1) ≡ Err e
    after (Ok x) h = absurd cc
    after (Err g) h = ap (λ k. Err k) (let k : g ≡ e = cc in k)

-- with a link that fails it fails
pub chain_fails : {T A L : Type 0} (f : A → T → Move T L) (grow : A → L → A) (n : ℕ) (a : A) (ts : List T) (e : Fault T) → link_at (f a) n ts ≡ Err e → chain f grow n a ts ≡ Err e
chain_fails f grow n a [] e h = absurd cc
chain_fails f grow n a (t ∷ ts) e h = fails_at f grow n a t ts (f a t) e refl h

goes_at : {T A L : Type 0} (f : A → T → Move T L) (grow : A → L → A) (n : ℕ) (a : A) (t : T) (ts : List T) (m : Move T L) (l : L) (r : List T) → f a t ≡ m → link_by m n t ts ≡ Ok (Some (l, r)) → chain f grow n a (t ∷ ts) ≡ chain f grow (n - 1) (grow a l) r
goes_at f grow n a t ts Stray l r i h = absurd cc
goes_at f grow n a t ts Deep l r i h = absurd cc
goes_at f grow zero a t ts (Goes p) l r i h = absurd cc
goes_at {T} {A} {L} f grow (suc n) a t ts (Goes p) l r i h =
    ap (λ v. may_at a (one_link (λ l. chain f grow n (grow a l)) v) t ts) i ∙ after (p ts) h ∙ ap (λ k. chain f grow k (grow a l) r) (omega arith)
  where
    after : (z : Answer T L) → (z >>= λ x. Ok (Some x)) ≡ Ok (Some (l, r)) → (z >>= λ x. chain f grow n (grow a x.0) x.1) ≡ chain f grow n (grow a l) r
    after (Ok x) h = let k : x ≡ (l, r) = cc in ap (λ (y : L × List T). chain f grow n (grow a y.0) y.1) k
    after (Err g) h = absurd cc

-- with one more link it goes on
pub chain_goes : {T A L : Type 0} (f : A → T → Move T L) (grow : A → L → A) (n : ℕ) (a : A) (ts : List T) (l : L) (r : List T) → link_at (f a) n ts ≡ Ok (Some (l, r)) → chain f grow n a ts ≡ chain f grow (n - 1) (grow a l) r
chain_goes f grow n a [] l r h = absurd cc
chain_goes f grow n a (t ∷ ts) l r h = goes_at f grow n a t ts (f a t) l r refl h

-- the same for a fault that the code answers
pub chain_stops : {T A L : Type 0} (e : Stop (List T)) (f : A → T → Move T L) (grow : A → L → A) (n : ℕ) (a : A) (ts : List T) → Fails e (link_at (f a) n ts) → Fails e (chain f grow n a ts)
chain_stops Memory f grow n a ts h = tt
chain_stops (Before y r) f grow n a ts h = chain_fails f grow n a ts (fault y r) h

pub Fails-along : {T Y : Type 0} (e : Stop (List T)) (x y : Result Y (Fault T)) → x ≡ y → Fails e x → Fails e y
Fails-along Memory x y i h = tt
Fails-along (Before w r) x y i h = sym i ∙ h

-- a chain that takes no link at a token
pub chain_stays : {T A L : Type 0} (f : A → T → Move T L) (grow : A → L → A) (n : ℕ) (a : A) (t : T) (ts : List T) → f a t ≡ Stray → chain f grow n a (t ∷ ts) ≡ Ok (a, t ∷ ts)
chain_stays f grow zero a t ts e = ap (λ v. may_at a (no_link v) t ts) e
chain_stays f grow (suc n) a t ts e = ap (λ v. may_at a (one_link (λ l. chain f grow n (grow a l)) v) t ts) e

pub chain_nil : {T A L : Type 0} (f : A → T → Move T L) (grow : A → L → A) (n : ℕ) (a : A) → chain f grow n a [] ≡ Ok (a, [])
chain_nil f grow zero a = refl
chain_nil f grow (suc n) a = refl
