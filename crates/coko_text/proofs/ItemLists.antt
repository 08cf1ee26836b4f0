-- Lists of items up to what begins none: they are read as chains of any number of links. I says which tokens go on an item.
use Rattle.std.proofs.Common.{◌≡◌, ◌<◌, ◌≤◌, ◌-◌, ◌||◌, ℕ, zero, suc, Bool, true, false, List, [], ◌∷◌, ◌++◌, length, map, Option, Some, None, Ok, Err, refl, sym, ap, subst, ◌∙◌, append_assoc, arith}
use Rattle.std.proofs.lemmas.List.{append-nil, map-append}
use Rattle.kola_base.specs.Placed.{Placed}
use Rattle.kola_parse.specs.declared.stop.Stop.{Stop}
use Rattle.kola_parse.specs.declared.stop.Stop.TheVariants.{Memory, Before}
use Rattle.kola_parse.specs.Given.{Fails}
use Rattle.kola_parse.specs.Kinds.{Lang, when}
use Rattle.kola_parse.specs.Listed.{Listed}
use Rattle.kola_parse.specs.Moves.{NoText, LinkGood}
use Rattle.kola_parse.specs.Reader.{Answer, ◌>>=◌, fault, done, made, Move, Stray, Deep, Goes, may_at, link_by}
use Rattle.kola_parse.specs.Reading.{Ends, never, Reads, Good, left}
use Rattle.kola_parse.specs.Texts.{◌·◌, ends, Nothing, Chained, Led, ChainText, ManyText}
use Rattle.kola_parse.proofs.Chains.{MoveShrinks}
use Rattle.kola_parse.proofs.GoodReaders.{good_as}
use Rattle.kola_parse.proofs.Loops.{chain_goes, chain_ends, chain_stops}
use Rattle.kola_parse.proofs.ManyChains.{enough, manied_good}
use Rattle.kola_parse.proofs.ReaderLaws.{Shrinks, ends_none, done_reads, ok_is}
use Rattle.coko_text.specs.LedReaders.{led, grow, items_from, items_at, next_at, Takes}

-- ---- which tokens go on a list

module _ {A : Type 0} (I : A → Placed → Bool) where
  -- those that go on its last item
  abbrev pub last_goes : List A → Placed → Bool
  last_goes [] t = false
  last_goes (x ∷ []) t = I x t
  last_goes (x ∷ y ∷ xs) t = last_goes (y ∷ xs) t

  pub last_is : (xs : List A) (x : A) (t : Placed) → last_goes (grow xs x) t ≡ I x t
  last_is [] x t = refl
  last_is (y ∷ []) x t = refl
  last_is (y ∷ z ∷ xs) x t = last_is (z ∷ xs) x t

  last_none : (xs : List A) (t : Placed) → ((x : A) → I x t ≡ false) → last_goes xs t ≡ false
  last_none [] t h = refl
  last_none (x ∷ []) t h = h x
  last_none (x ∷ y ∷ xs) t h = last_none (y ∷ xs) t h

  -- those that go on its last item, and those that begin one more
  abbrev pub list_goes : (Placed → Bool) → List A → Placed → Bool
  list_goes k xs t = last_goes xs t || k t

-- what two moves read as items, where k says whether the token begins one
abbrev pub ItemGood : {A : Type 0} → Type 0 → (A → Placed → Bool) → Placed → Move Placed A → Move Placed A → Lang Placed A → Lang Placed A → Bool → Type 0
ItemGood On I t Stray Stray F G k = NoText F × NoText G × (k ≡ false)
ItemGood {A} On I t (Goes p) (Goes q) F G k = Good On p q F G I × (k ≡ true) × ((x : A) → I x t ≡ false)
ItemGood On I t _ _ F G k = ⊥

or_false : (j k : Bool) → k ≡ false → (j || k) ≡ j
or_false true k e = refl
or_false false k e = e

or_true : (j k : Bool) → j ≡ false → k ≡ true → (j || k) ≡ true
or_true true k i e = refl
or_true false k i e = e

-- nothing goes on a list where nothing goes on its items and begins one
pub list_clear : {A : Type 0} (I : A → Placed → Bool) (k : Placed → Bool) (xs : List A) (t : Placed) → ((x : A) → I x t ≡ false) → k t ≡ false → list_goes I k xs t ≡ false
list_clear I k xs t h e = or_false (last_goes I xs t) (k t) e ∙ last_none I xs t h

-- nothing, with any tokens that do not go on it
pub done_clear : {A : Type 0} (On : Type 0) (a : A) (K : A → Placed → Bool) → ((t : Placed) → K a t ≡ false) → Good On (done a) (done a) (Nothing a) (Nothing a) K
done_clear {A} On a K clear = record { low = reads; high = reads; wider = λ on ts. refl }
  where
    free : (r : List Placed) → Ends (K a) r
    free [] = tt
    free (t ∷ r) = clear t

    under : Reads {T = Placed} {A = A} (done a) (Nothing a) never → Reads {T = Placed} {A = A} (done a) (Nothing a) K
    under h = record {
      sound = λ ts x r e. let one = h.sound ts x r e in record { text = one.text; split = one.split; spells = one.spells; ends = subst (λ z. Ends (K z) r) (sym one.spells.0) (free r) };
      complete = λ x w r l k. h.complete x w r l (ends_none r);
      viable = h.viable;
      local = h.local;
      some = h.some;
    }

    reads : Reads {T = Placed} {A = A} (done a) (Nothing a) K
    reads = under (done_reads a)

module _ {A : Type 0} (On : Type 0) (I : A → Placed → Bool) where
  link_of : (xs : List A) (t : Placed) (m n : Move Placed A) (F G : Lang Placed A) (k : Bool) → ItemGood On I t m n F G k → LinkGood On m n F G I (last_goes I xs t) (last_goes I xs t || k)
  link_of xs t Stray Stray F G k h = (h.0, h.1, or_false (last_goes I xs t) k h.2)
  link_of xs t Stray Deep F G k h = absurd h
  link_of xs t Stray (Goes q) F G k h = absurd h
  link_of xs t Deep n F G k h = absurd h
  link_of xs t (Goes p) Stray F G k h = absurd h
  link_of xs t (Goes p) Deep F G k h = absurd h
  link_of xs t (Goes p) (Goes q) F G k h = let none = last_none I xs t h.2 in (h.0, or_true (last_goes I xs t) k none h.1, none)

-- ---- their texts

module _ {A : Type 0} (F : Placed → Lang Placed A) where
  abbrev Chain : List A → Placed → Lang Placed A
  Chain xs t = F t

  led_is : (x : A) (t : Placed) (w v : List Placed) → w ≡ t ∷ v → F t x v → Led F x w
  led_is x t w v e h = subst (Led F x) (sym e) h

  chain_to : (n : ℕ) (a xs : List A) (w : List Placed) → ChainText Chain grow n a xs w → (ys : List A) × (xs ≡ a ++ ys) × Listed (Led F) ends ys w
  chain_to zero a xs [] h = ([], h ∙ sym (append-nil a), tt)
  chain_to zero a xs (t ∷ v) h = absurd h
  chain_to (suc n) a xs [] h = ([], h ∙ sym (append-nil a), tt)
  chain_to (suc n) a xs (t ∷ v) h =
      let more = chain_to n (grow a h.mid) xs h.back h.second in (
        h.mid ∷ more.0,
        more.1 ∙ append_assoc a (h.mid ∷ []) more.0,
        record { front = t ∷ h.front; back = h.back; split = ap (λ (z : List Placed). t ∷ z) h.split; first = h.first; second = more.2 },
      )

  chain_from : (ys a : List A) (w : List Placed) → Listed (Led F) ends ys w → ManyText Chain grow a (a ++ ys) w
  chain_from [] a [] h = (zero, append-nil a)
  chain_from [] a (t ∷ v) h = absurd h
  chain_from (y ∷ ys) a w h = led h.front h.back h.split h.first (chain_from ys (grow a y) h.back h.second)
    where
      led : (front back : List Placed) → w ≡ front ++ back → Led F y front → ManyText Chain grow (grow a y) (grow a y ++ ys) back → ManyText Chain grow a (a ++ y ∷ ys) w
      led [] back e f more = absurd f
      led (t ∷ front) back e f more = (
        suc more.0,
        subst (ChainText Chain grow (suc more.0) a (a ++ y ∷ ys)) (sym e) (record {
          mid = y;
          front = front;
          back = back;
          split = refl;
          first = f;
          second = subst (λ z. ChainText Chain grow more.0 (grow a y) z back) (append_assoc a (y ∷ []) ys) more.1;
        }),
      )

  abbrev Whole : Lang Placed (List A)
  Whole = Chained (Nothing []) (λ a. ManyText Chain grow a)

  whole_at : (a xs : List A) (front back : List Placed) → a ≡ [] → ends front → ManyText Chain grow a xs back → Listed (Led F) ends xs (front ++ back)
  whole_at a xs [] back e f h =
      let all = chain_to h.0 a xs back h.1 in
      subst (λ z. Listed (Led F) ends z back) (sym (all.1 ∙ ap (λ (z : List A). z ++ all.0) e)) all.2
  whole_at a xs (t ∷ front) back e f h = absurd f

  pub whole_to : (xs : List A) (w : List Placed) → Whole xs w → Listed (Led F) ends xs w
  whole_to xs w c = subst (Listed (Led F) ends xs) (sym c.split) (whole_at c.mid xs c.front c.back c.first.0 c.first.1 c.second)

  pub whole_from : (xs : List A) (w : List Placed) → Listed (Led F) ends xs w → Whole xs w
  whole_from xs w h = record { mid = []; front = []; back = w; split = refl; first = (refl, tt); second = chain_from xs [] w h }

-- items of one language are items of another that has the same texts
pub listed_as : {A : Type 0} (I J : Lang Placed A) (L : List Placed → Type 0) → ((x : A) (w : List Placed) → I x w → J x w) → (xs : List A) (w : List Placed) → Listed I L xs w → Listed J L xs w
listed_as I J L to [] w h = h
listed_as I J L to (x ∷ xs) w h = record { front = h.front; back = h.back; split = h.split; first = to x h.front h.first; second = listed_as I J L to xs h.back h.second }

-- a list and then a last text
pub listed_before : {A : Type 0} (I : Lang Placed A) (Z : List Placed → Type 0) (xs : List A) (w : List Placed) → (Listed I ends xs · Z) w → Listed I Z xs w
listed_before I Z [] w h = subst Z (sym (h.split ∙ ap (λ (z : List Placed). z ++ h.back) (nothing h.front h.first))) h.second
  where
    nothing : (v : List Placed) → ends v → v ≡ []
    nothing [] e = refl
    nothing (t ∷ v) e = absurd e
listed_before I Z (x ∷ xs) w h =
    let f = h.first in record {
      front = f.front;
      back = f.back ++ h.back;
      split = h.split ∙ ap (λ (z : List Placed). z ++ h.back) f.split ∙ append_assoc f.front f.back h.back;
      first = f.first;
      second = listed_before I Z xs (f.back ++ h.back) (record { front = f.back; back = h.back; split = refl; first = f.second; second = h.second });
    }

pub listed_behind : {A : Type 0} (I : Lang Placed A) (Z : List Placed → Type 0) (xs : List A) (w : List Placed) → Listed I Z xs w → (Listed I ends xs · Z) w
listed_behind I Z [] w h = record { front = []; back = w; split = refl; first = tt; second = h }
listed_behind I Z (x ∷ xs) w h =
    let more = listed_behind I Z xs h.back h.second in record {
      front = h.front ++ more.front;
      back = more.back;
      split = h.split ∙ ap (λ (z : List Placed). h.front ++ z) more.split ∙ sym (append_assoc h.front more.front more.back);
      first = record { front = h.front; back = more.front; split = refl; first = h.first; second = more.first };
      second = more.second;
    }

-- ---- the readers of such lists

pub items_good : {A On : Type 0} (f g : Placed → Move Placed A) (F G : Placed → Lang Placed A) (I : A → Placed → Bool) (k : Placed → Bool) → ((t : Placed) → ItemGood On I t (f t) (g t) (F t) (G t) (k t))
    → Good On (items_at f) (items_at g) (Listed (Led F) ends) (Listed (Led G) ends) (list_goes I k)
items_good {A} {On} f g F G I k each =
    good_as (whole_to F) (whole_from F) (whole_to G) (whole_from G)
    (manied_good On (λ _ t. f t) (λ _ t. g t) (Chain F) (Chain G) grow (last_goes I) (list_goes I k) I (last_is I) (λ xs t. link_of On I xs t (f t) (g t) (F t) (G t) (k t) (each t))
    (done []) (done []) (Nothing []) (Nothing []) (done_clear On [] (last_goes I) (λ t. refl)))

-- ---- for a loop: what comes of one more item, of none, and of a fault

-- items that p reads, each behind a token that passes the test
module _ {A : Type 0} (passes : Placed → Bool) (p : List Placed → Answer Placed A) (less : Shrinks p) where
  small : (xs : List A) (t : Placed) → MoveShrinks (led passes p t)
  small xs t = by (passes t)
    where
      by : (b : Bool) → MoveShrinks (when b p)
      by true = less
      by false = tt

  -- the parts of an answer
  value_is : (a b : Option A) (r s : List Placed) → (let x : Answer Placed (Option A) = Ok (a, r) in x ≡ Ok (b, s)) → a ≡ b
  value_is a b r s e = ap (λ (z : Option A × List Placed). z.0) (ok_is (a, r) (b, s) e)

  rest_is : (a b : Option A) (r s : List Placed) → (let x : Answer Placed (Option A) = Ok (a, r) in x ≡ Ok (b, s)) → r ≡ s
  rest_is a b r s e = ap (λ (z : Option A × List Placed). z.1) (ok_is (a, r) (b, s) e)

  some_is : (b c : A) → Some b ≡ Some c → b ≡ c
  some_is b c e = cc

  not_none : (c : A) → Some c ≡ None → ⊥
  not_none c e = cc

  some_read : (z : Answer Placed A) (c : A) (r : List Placed) → (z >>= λ x. done (Some x.0) x.1) ≡ Ok (Some c, r) → z ≡ Ok (c, r)
  some_read (Ok x) c r e = let i = some_is x.0 c (value_is (Some x.0) (Some c) x.1 r e) in let j = rest_is (Some x.0) (Some c) x.1 r e in ap (λ a. Ok (a, x.1)) i ∙ ap (λ s. Ok (c, s)) j
  some_read (Err g) c r e = absurd cc

  none_read : (z : Answer Placed A) (r : List Placed) → (z >>= λ x. done (Some x.0) x.1) ≡ Ok (None, r) → ⊥
  none_read (Ok x) r e = not_none x.0 (value_is (Some x.0) None x.1 r e)
  none_read (Err g) r e = cc

  fault_read : (z : Answer Placed A) (e : Stop (List Placed)) → Fails e (z >>= λ x. done (Some x.0) x.1) → Fails e (z >>= λ x. Ok (Some x))
  fault_read z Memory h = tt
  fault_read (Ok x) (Before y r) h = absurd cc
  fault_read (Err g) (Before y r) h = let i : g ≡ fault y r = cc in ap (λ g. Err g) i

  -- a link of the chain, by what the reader of one more item gives
  link_some : (n : ℕ) (b : Bool) (t : Placed) (ts : List Placed) (c : A) (r : List Placed) → may_at None (when b (made Some p)) t ts ≡ Ok (Some c, r) → (link_by (when b p) (suc n) t ts ≡ Ok (Some (c, r))) × (length r ≤ length ts)
  link_some n false t ts c r e = absurd (not_none c (sym (value_is None (Some c) (t ∷ ts) r e)))
  link_some n true t ts c r e =
      let one = some_read (p ts) c r e in
      (ap (λ (z : Answer Placed A). z >>= λ x. Ok (Some x)) one, subst (λ (z : Answer Placed A). length (left z) ≤ length ts) one (less ts))

  link_none : (n : ℕ) (b : Bool) (t : Placed) (ts r : List Placed) → may_at None (when b (made Some p)) t ts ≡ Ok (None, r) → (link_by (when b p) (suc n) t ts ≡ Ok None) × (r ≡ t ∷ ts)
  link_none n false t ts r e = (refl, sym (rest_is None None (t ∷ ts) r e))
  link_none n true t ts r e = absurd (none_read (p ts) r e)

  link_fails : (n : ℕ) (b : Bool) (e : Stop (List Placed)) (t : Placed) (ts : List Placed) → Fails e (may_at None (when b (made Some p)) t ts) → Fails e (link_by (when b p) (suc n) t ts)
  link_fails n b Memory t ts h = tt
  link_fails n false (Before y r) t ts h = absurd cc
  link_fails n true (Before y r) t ts h = fault_read (p ts) (Before y r) h

  abbrev link : List A → Placed → Move Placed A
  link xs t = led passes p t

  item_goes : (xs : List A) (x : A) (ts r : List Placed) → next_at passes p ts ≡ Ok (Some x, r) → (items_from (led passes p) xs ts ≡ items_from (led passes p) (grow xs x) r) × (length r < length ts)
  item_goes xs x [] r e = absurd (not_none x (sym (value_is None (Some x) [] r e)))
  item_goes xs x (t ∷ ts) r e =
      let one = link_some (length ts) (passes t) t ts x r e in
      (chain_goes link grow (suc (length ts)) xs (t ∷ ts) x r one.0 ∙ enough link grow small (suc (length ts) - 1) (length r) (grow xs x) r (let l = one.1 in omega (arith, l)) (omega arith), let l = one.1 in omega (arith, l))

  pub item_shorter : (x : A) (ts r : List Placed) → next_at passes p ts ≡ Ok (Some x, r) → length r < length ts
  item_shorter x ts r e = let one = item_goes [] x ts r e in one.1

  pub items_end : (xs : List A) (ts r : List Placed) → next_at passes p ts ≡ Ok (None, r) → items_from (led passes p) xs ts ≡ Ok (xs, r)
  items_end xs [] r e = ap (λ z. Ok (xs, z)) (rest_is None None [] r e)
  items_end xs (t ∷ ts) r e = let one = link_none (length ts) (passes t) t ts r e in chain_ends link grow (suc (length ts)) xs (t ∷ ts) one.0 ∙ ap (λ z. Ok (xs, z)) (sym one.1)

  pub items_fail : (xs : List A) (e : Stop (List Placed)) (ts : List Placed) → Fails e (next_at passes p ts) → Fails e (items_from (led passes p) xs ts)
  items_fail xs Memory [] h = tt
  items_fail xs (Before y r) [] h = absurd cc
  items_fail xs e (t ∷ ts) h = chain_stops e link grow (suc (length ts)) xs (t ∷ ts) (link_fails (length ts) (passes t) e t ts h)

  pub more_items : (xs ys : List A) (x : A) (ts r : List Placed) → ys ≡ xs ++ x ∷ [] → next_at passes p ts ≡ Ok (Some x, r) → items_from (led passes p) ys r ≡ items_from (led passes p) xs ts
  more_items xs ys x ts r i e =
      let one = item_goes xs x ts r e in
      sym (one.0 ∙ ap (λ (z : List A). items_from (led passes p) z r) (sym i))

  -- the items as they are seen
  pub items_more : {X : Type 0} (view : X → A) (xs ys : List X) (x : X) (ts r : List Placed) → ys ≡ xs ++ x ∷ [] → next_at passes p ts ≡ Ok (Some (view x), r) → items_from (led passes p) (map view ys) r ≡ items_from (led passes p) (map view xs) ts
  items_more {X} view xs ys x ts r i e =
      let one = item_goes (map view xs) (view x) ts r e in
      sym (one.0 ∙ ap (λ (z : List A). items_from (led passes p) z r) (sym (ap (map view) i ∙ map-append view xs (x ∷ []))))

-- ---- what the code finds at the first token

pub next_goes : {A : Type 0} (passes : Placed → Bool) (p : List Placed → Answer Placed A) (ts r : List Placed) → Takes passes ts (Some r) → next_at passes p ts ≡ made Some p r
next_goes passes p ts r h = ap (next_at passes p) h.1 ∙ ap (λ b. may_at None (when b (made Some p)) h.0 r) h.2

pub next_stays : {A : Type 0} (passes : Placed → Bool) (p : List Placed → Answer Placed A) (ts : List Placed) → Takes passes ts None → next_at passes p ts ≡ Ok (None, ts)
next_stays passes p [] h = refl
next_stays passes p (t ∷ ts) h = ap (λ b. may_at None (when b (made Some p)) t ts) h
