-- What is taken of the visits that are left, and loops over the members of a set that build a list and take visits.
use Rattle.std.proofs.Common.{◌≡◌, ℕ, ◌+◌, ◌≤◌, ◌<◌, Bool, true, false, not, cond, ◌&&◌, ◌||◌, List, [], ◌∷◌, ◌++◌, length, drop, map, filter, Result, Err, refl, sym, ap, ◌∙◌, subst, arith}
use Rattle.std.specs.Prelude.{sum_by, get_or, IsErrAnd}
use Rattle.std.proofs.lemmas.List.{append_assoc, append-nil, drop_all, drop_more, drop-map, length-map}
use Rattle.std.proofs.lemmas.Result.{err_from_is_err_and}
use Rattle.std.proofs.lemmas.List.Sums.{sum_by-cons}
use Rattle.kola_values.specs.Values.{ValueTree}
use Rattle.kola_values.specs.Sets.{any, all}
use Rattle.kola_term.specs.Visits.{until}
use Rattle.kola_eval.specs.Lending.{Stopped, Paid}
use Rattle.kola_eval.specs.declared.budget.Stop.{Stop}
use Rattle.kola_eval.specs.declared.budget.Stop.TheVariants.{Limit, Memory}

-- ---- steps one behind the other

-- the stop of a call that is handed on
pub handed_on : {B : Type 0} (cost before later : ℕ) (r : Result B Stop) (e : Stop) → IsErrAnd r (λ y. y ≡ e) → Stopped cost before e → Paid cost before later r
handed_on cost before later r e h k =
    let p = err_from_is_err_and r h in
    subst (Paid cost before later) (sym (p.1 ∙ ap Err p.2)) k

-- ---- loops

-- what is left of a list, at its next element
pub at_next : {X : Type 0} (view : X → ValueTree) (xs : List X) (i : ℕ) (x : X) → i < length xs → x ≡ get_or xs i x → drop i (map view xs) ≡ view x ∷ drop (i + 1) (map view xs)
at_next view xs i x lt e =
    drop-map view i xs
    ∙ ap (map view) (drop_more xs i x lt)
    ∙ (λ k. view (sym e k) ∷ sym (drop-map view (i + 1) xs) k)

-- a list of views ends where its list does
pub past : {X : Type 0} (view : X → ValueTree) (xs : List X) (i : ℕ) → length xs ≤ i → length (map view xs) ≤ i
past view xs i h = omega (arith, length-map xs view, h)

-- so much is built and paid, where the rest is still to come
pub record Built (g : List ValueTree → List ValueTree) (c : List ValueTree → ℕ) (us rest start done : List ValueTree) (before left : ℕ) : Type 0 where
  pub made : done ++ g rest ≡ start ++ g us
  pub paid : before + c rest ≡ c us + left

module _ (g : List ValueTree → List ValueTree) (c : List ValueTree → ℕ) where
  pub built_start : (us start : List ValueTree) (before : ℕ) → Built g c us us start start before before
  built_start us start before = record { made = refl; paid = omega arith }

  pub built_more : (e : ValueTree → List ValueTree) (k : ValueTree → ℕ) → ((x : ValueTree) (xs : List ValueTree) → g (x ∷ xs) ≡ e x ++ g xs) → ((x : ValueTree) (xs : List ValueTree) → c (x ∷ xs) ≡ k x + c xs)
      → (us start done done' : List ValueTree) (i before mid after : ℕ) (x : ValueTree) → drop i us ≡ x ∷ drop (i + 1) us → Built g c us (drop i us) start done before mid → done' ≡ done ++ e x → mid ≡ k x + after
      → Built g c us (drop (i + 1) us) start done' before after
  built_more e k sg sc us start done done' i before mid after x d b m p =
      let s = ap c d ∙ sc x (drop (i + 1) us) in
      let q = b.paid in
      record {
        made = ap (λ l. l ++ g (drop (i + 1) us)) m ∙ append_assoc done (e x) (g (drop (i + 1) us)) ∙ ap (λ l. done ++ l) (sym (ap g d ∙ sg x (drop (i + 1) us))) ∙ b.made;
        paid = omega arith;
      }

  pub built_stop : (k : ValueTree → ℕ) → ((x : ValueTree) (xs : List ValueTree) → c (x ∷ xs) ≡ k x + c xs)
      → (us start done : List ValueTree) (i before mid : ℕ) (x : ValueTree) (e : Stop) → drop i us ≡ x ∷ drop (i + 1) us → Built g c us (drop i us) start done before mid → Stopped (k x) mid e → Stopped (c us) before e
  built_stop k sc us start done i before mid x Limit d b p = let s = ap c d ∙ sc x (drop (i + 1) us) in let q = b.paid in omega arith
  built_stop k sc us start done i before mid x Memory d b p = tt

  pub built_made : (us start done : List ValueTree) (i before left : ℕ) → g [] ≡ [] → length us ≤ i → Built g c us (drop i us) start done before left → done ≡ start ++ g us
  built_made us start done i before left z l b = sym (append-nil done) ∙ ap (λ r. done ++ r) (sym z ∙ ap g (sym (drop_all i us l))) ∙ b.made

  pub built_paid : (us start done : List ValueTree) (i before left : ℕ) → c [] ≡ 0 → length us ≤ i → Built g c us (drop i us) start done before left → before ≡ c us + left
  built_paid us start done i before left z l b = let s = ap c (drop_all i us l) in let q = b.paid in omega arith

-- ---- the steps of what loops build and pay

pub pick_step : (p : ValueTree → Bool) (f : ValueTree → ValueTree) (x : ValueTree) (xs : List ValueTree) → map f (filter p (x ∷ xs)) ≡ cond (p x) (f x ∷ []) [] ++ map f (filter p xs)
pick_step p f x xs = at (p x)
  where
    at : (b : Bool) → map f (cond b (x ∷ filter p xs) (filter p xs)) ≡ cond b (f x ∷ []) [] ++ map f (filter p xs)
    at true = refl
    at false = refl

-- a value of each member is built
pub each_more : (f : ValueTree → ValueTree) (k : ValueTree → ℕ) (us start done done' : List ValueTree) (i before mid after : ℕ) (x : ValueTree) → drop i us ≡ x ∷ drop (i + 1) us → Built (map f) (sum_by k) us (drop i us) start done before mid → done' ≡ done ++ f x ∷ [] → mid ≡ k x + after
    → Built (map f) (sum_by k) us (drop (i + 1) us) start done' before after
each_more f k us start done done' i before mid after x d b m p = built_more (map f) (sum_by k) (λ y. f y ∷ []) k (λ y ys. refl) (sum_by-cons k) us start done done' i before mid after x d b m p

-- ---- quantifiers

-- so much is paid, and no member so far has stopped
pub record Seeking (stop : ValueTree → Bool) (cost : ValueTree → ℕ) (us rest : List ValueTree) (before left : ℕ) : Type 0 where
  pub found : any stop us ≡ any stop rest
  pub paid : before + until stop cost rest ≡ until stop cost us + left

module _ (stop : ValueTree → Bool) (cost : ValueTree → ℕ) where
  pub seeking_start : (us : List ValueTree) (before : ℕ) → Seeking stop cost us us before before
  seeking_start us before = record { found = refl; paid = omega arith }

  module _ (us : List ValueTree) (i before mid after : ℕ) (x : ValueTree) (d : drop i us ≡ x ∷ drop (i + 1) us) (b : Seeking stop cost us (drop i us) before mid) where
    pub seeking_more : stop x ≡ false → mid ≡ cost x + after → Seeking stop cost us (drop (i + 1) us) before after
    unfolding any
    seeking_more h p =
        let s = ap (until stop cost) d ∙ ap (λ r. cost x + cond r 0 (until stop cost (drop (i + 1) us))) h in
        let q = b.paid in
        record { found = b.found ∙ ap (any stop) d ∙ ap (λ r. r || any stop (drop (i + 1) us)) h; paid = omega arith }

    pub seeking_found : stop x ≡ true → any stop us ≡ true
    unfolding any
    seeking_found h = b.found ∙ ap (any stop) d ∙ ap (λ r. r || any stop (drop (i + 1) us)) h

    pub seeking_paid : stop x ≡ true → mid ≡ cost x + after → before ≡ until stop cost us + after
    seeking_paid h p =
        let s = ap (until stop cost) d ∙ ap (λ r. cost x + cond r 0 (until stop cost (drop (i + 1) us))) h in
        let q = b.paid in
        omega arith

    pub seeking_stop : (e : Stop) → Stopped (cost x) mid e → Stopped (until stop cost us) before e
    seeking_stop Limit p =
        let s = ap (until stop cost) d in
        let q = b.paid in
        omega arith
    seeking_stop Memory p = tt

  pub seeking_none : (us : List ValueTree) (i before left : ℕ) → length us ≤ i → Seeking stop cost us (drop i us) before left → any stop us ≡ false
  unfolding any
  seeking_none us i before left l b = b.found ∙ ap (any stop) (drop_all i us l)

  pub seeking_end : (us : List ValueTree) (i before left : ℕ) → length us ≤ i → Seeking stop cost us (drop i us) before left → before ≡ until stop cost us + left
  seeking_end us i before left l b = let s = ap (until stop cost) (drop_all i us l) in let q = b.paid in omega arith

-- each passes where none fails
pub all_any : (q : ValueTree → Bool) (vs : List ValueTree) → all q vs ≡ not (any (λ v. not (q v)) vs)
unfolding any all
all_any q [] = refl
all_any q (v ∷ vs) = at (q v) (all_any q vs)
  where
    at : (b : Bool) → all q vs ≡ not (any (λ w. not (q w)) vs) → (b && all q vs) ≡ not (not b || any (λ w. not (q w)) vs)
    at true h = h
    at false h = refl
