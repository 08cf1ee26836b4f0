-- Reading a list from left to right. T is the type of tokens.
use Rattle.std.specs.Prelude.{ℕ, zero, suc, List, [], ◌∷◌, Result, Ok, Err, Bool, true, false, length, Option, Some, None}
use Rattle.kola_parse.specs.declared.why.Why.{Why}
use Rattle.kola_parse.specs.declared.why.Why.TheVariants.{Unexpected, TooDeep}

-- where a reader stopped, and why: rest begins with the token that it did not take
pub record Fault (T : Type 0) : Type 0 where
  pub why : Why
  pub rest : List T

abbrev pub fault : {T : Type 0} → Why → List T → Fault T
fault w r = record { why = w; rest = r }

-- a value and what is left
abbrev pub Answer : Type 0 → Type 0 → Type 0
Answer T A = Result (A × List T) (Fault T)

infixl 10 ◌>>=◌
abbrev pub ◌>>=◌ : {T A B : Type 0} → Result A (Fault T) → (A → Result B (Fault T)) → Result B (Fault T)
(Ok x) >>= f = f x
(Err e) >>= f = Err e

-- one reader after the other
abbrev pub then : {T A B : Type 0} → (List T → Answer T A) → (A → List T → Answer T B) → List T → Answer T B
then p k ts = p ts >>= λ x. k x.0 x.1

-- what a reader does at a token: it is stray there, it would go too deep, or the reader takes it and goes on
pub data Move (T A : Type 0) : Type 0 where
  Stray : Move T A
  Deep : Move T A
  Goes : (List T → Answer T A) → Move T A

abbrev pub eat_at : {T A : Type 0} → Move T A → T → List T → Answer T A
eat_at Stray t ts = Err (fault Unexpected (t ∷ ts))
eat_at Deep t ts = Err (fault TooDeep (t ∷ ts))
eat_at (Goes p) t ts = p ts

-- takes a token
abbrev pub eat : {T A : Type 0} → (T → Move T A) → List T → Answer T A
eat f [] = Err (fault Unexpected [])
eat f (t ∷ ts) = eat_at (f t) t ts

abbrev pub may_at : {T A : Type 0} → A → Move T A → T → List T → Answer T A
may_at a Stray t ts = Ok (a, t ∷ ts)
may_at a Deep t ts = Err (fault TooDeep (t ∷ ts))
may_at a (Goes p) t ts = p ts

-- takes a token or none
abbrev pub may : {T A : Type 0} → A → (T → Move T A) → List T → Answer T A
may a f [] = Ok (a, [])
may a f (t ∷ ts) = may_at a (f t) t ts

abbrev pub done : {T A : Type 0} → A → List T → Answer T A
done a ts = Ok (a, ts)

-- a value, and then another
abbrev pub pair : {T A B : Type 0} → (List T → Answer T A) → (A → List T → Answer T B) → List T → Answer T (A × B)
pair p k = then p (λ a. then (k a) (λ b. done (a, b)))

-- what is made of the value
abbrev pub made : {T A B : Type 0} → (A → B) → (List T → Answer T A) → List T → Answer T B
made f p = then p (λ a. done (f a))

-- all of the list
abbrev pub end_of : {T A : Type 0} → A → List T → Result A (Fault T)
end_of a [] = Ok a
end_of a (t ∷ ts) = Err (fault Unexpected (t ∷ ts))

abbrev pub whole : {T A : Type 0} → (List T → Answer T A) → List T → Result A (Fault T)
whole p ts = p ts >>= λ x. end_of x.0 x.1

-- ---- chains

abbrev pub no_link : {T A L : Type 0} → Move T L → Move T A
no_link Stray = Stray
no_link Deep = Deep
no_link (Goes p) = Deep

abbrev pub one_link : {T A L : Type 0} → (L → List T → Answer T A) → Move T L → Move T A
one_link more Stray = Stray
one_link more Deep = Deep
one_link more (Goes p) = Goes (then p more)

-- at most n links after a, each of which makes a grow; a link may depend on what was read so far
abbrev pub chain : {T A L : Type 0} → (A → T → Move T L) → (A → L → A) → ℕ → A → List T → Answer T A
chain f grow zero a = may a (λ t. no_link (f a t))
chain f grow (suc n) a = may a (λ t. one_link (λ l. chain f grow n (grow a l)) (f a t))

-- takes a token where it can, and else reads q
abbrev pub other_at : {T A : Type 0} → Move T A → (List T → Answer T A) → T → List T → Answer T A
other_at Stray q t ts = q (t ∷ ts)
other_at Deep q t ts = Err (fault TooDeep (t ∷ ts))
other_at (Goes p) q t ts = p ts

abbrev pub other : {T A : Type 0} → (T → Move T A) → (List T → Answer T A) → List T → Answer T A
other f q [] = q []
other f q (t ∷ ts) = other_at (f t) q t ts

-- any number of links after a; no link takes nothing, so there are at most as many as tokens
abbrev pub many : {T A L : Type 0} → (A → T → Move T L) → (A → L → A) → A → List T → Answer T A
many f grow a ts = chain f grow (length ts) a ts

-- the next link of a chain, where n are left, or none
abbrev pub link_by : {T L : Type 0} → Move T L → ℕ → T → List T → Result (Option (L × List T)) (Fault T)
link_by Stray n t ts = Ok None
link_by Deep n t ts = Err (fault TooDeep (t ∷ ts))
link_by (Goes p) zero t ts = Err (fault TooDeep (t ∷ ts))
link_by (Goes p) (suc n) t ts = p ts >>= λ x. Ok (Some x)

abbrev pub link_at : {T L : Type 0} → (T → Move T L) → ℕ → List T → Result (Option (L × List T)) (Fault T)
link_at f n [] = Ok None
link_at f n (t ∷ ts) = link_by (f t) n t ts

abbrev pub stop_at : {T A : Type 0} → Bool → A → T → List T → Answer T A
stop_at true a t ts = Err (fault Unexpected (t ∷ ts))
stop_at false a t ts = Ok (a, t ∷ ts)

-- nothing, but before no token that K says
abbrev pub stop : {T A : Type 0} → (T → Bool) → A → List T → Answer T A
stop K a [] = Ok (a, [])
stop K a (t ∷ ts) = stop_at (K t) a t ts

-- ---- rounds: each says whether there is another one, whatever the next token

pub data Round (A B : Type 0) : Type 0 where
  Again : A → Round A B
  Final : B → Round A B

abbrev pub on_round : {T A B : Type 0} → (A → List T → Answer T (Round A B)) → Round A B → List T → Answer T (Round A B)
on_round q (Again a) = q a
on_round q (Final b) = done (Final b)

-- at most n rounds more than one
abbrev pub few_rounds : {T A B : Type 0} → (A → List T → Answer T (Round A B)) → ℕ → A → List T → Answer T (Round A B)
few_rounds p zero a = p a
few_rounds p (suc n) a = then (p a) (on_round (few_rounds p n))

-- Again does not occur where each round takes a token
abbrev pub final : {T A B : Type 0} → Round A B → List T → Answer T B
final (Again a) r = Err (fault Unexpected r)
final (Final b) r = Ok (b, r)

abbrev pub rounds : {T A B : Type 0} → (A → List T → Answer T (Round A B)) → A → List T → Answer T B
rounds p a ts = few_rounds p (length ts) a ts >>= λ x. final x.0 x.1
