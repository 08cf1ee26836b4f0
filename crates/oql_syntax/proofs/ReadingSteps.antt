-- What comes of a reader's parts, for the code that reads them one by one.
use Rattle.std.proofs.Common.{◌≡◌, ℕ, zero, suc, ◌-◌, Bool, true, false, List, [], ◌∷◌, Option, Result, Ok, Err, Some, None, refl, ap, ◌∙◌}
use Rattle.kola_base.specs.Alphabets.{sign}
use Rattle.kola_base.specs.Named.{Named}
use Rattle.kola_base.specs.Placed.{Placed}
use Rattle.kola_base.specs.declared.sign.Sign.TheVariants as s
use Rattle.kola_parse.specs.declared.stop.Stop.{Stop}
use Rattle.kola_parse.specs.declared.stop.Stop.TheVariants.{Memory, Before}
use Rattle.kola_parse.specs.Given.{Fails, Gives}
use Rattle.kola_parse.specs.Kinds.{expect, ahead, deeper}
use Rattle.kola_parse.specs.Reader.{Fault, fault, Answer, ◌>>=◌, Move, Stray, Deep, Goes, eat, eat_at, other, other_at, then, done, chain, link_at}
use Rattle.kola_parse.proofs.Loops.{chain_goes}
use Rattle.oql_syntax.specs.Alphabet.{Kind, KWord, KName, kind}
use Rattle.oql_syntax.specs.QueryForms.{lead, is_select, kind_name, behind_word, behind_in}
use Rattle.oql_syntax.specs.declared.link.Lead.TheVariants as leads
use Rattle.oql_syntax.specs.Tails.{Tail, Plain, Compared, opened}
use Rattle.oql_tree.specs.QueryTrees.{QueryTree, QCompare, NoWhere, Where}
use Rattle.oql_tree.specs.declared.query.Sign.{Sign}
use Rattle.oql_syntax.specs.declared.word.QueryWord.TheVariants as q
use Rattle.oql_syntax.specs.QueryReaders.{Reader, Level, Tailed, sets, sets_from, cmp_from, plain, is_word, comparison_move, comparison_by, comparison_of, compared, quantified, with_body, led, RangeParts, RangesTailed, SelectParts, no_where, with_where, where_move, select_rest, selected, RangeRead, in_move, range_move, prim_move, opennot_move, full_move, or_from, openor_from, as_from, range_from}

-- behind a comparison there is no other
compared_stays : (p : Reader QueryTree) (n : ℕ) (e : QueryTree) (ts : List Placed)
    → chain (λ (v : Tailed) t. comparison_move p v.1 t.at (kind t)) compared n (e, Compared) ts ≡ Ok ((e, Compared), ts)
compared_stays p zero e [] = refl
compared_stays p zero e (t ∷ ts) = refl
compared_stays p (suc n) e [] = refl
compared_stays p (suc n) e (t ∷ ts) = refl

pub compared_once : (p : Reader QueryTree) (n : ℕ) (e : QueryTree) (ts r : List Placed) (l : ℕ × Sign × QueryTree)
    → link_at (λ t. comparison_by p t.at (comparison_of (kind t))) (suc n) ts ≡ Ok (Some (l, r))
    → chain (λ (v : Tailed) t. comparison_move p v.1 t.at (kind t)) compared (suc n) (e, Plain) ts ≡ Ok (compared (e, Plain) l, r)
compared_once p n e ts r l h =
    chain_goes (λ (v : Tailed) t. comparison_move p v.1 t.at (kind t)) compared (suc n) (e, Plain) ts l r h
    ∙ compared_stays p (suc n - 1) (QCompare l.0 l.1 e l.2) r

pub cmp_ends : (n : ℕ) (o : Option Level) (p : Reader QueryTree) (ts r u : List Placed) (e : QueryTree) (l : ℕ × Sign × QueryTree) → sets_from n o p ts ≡ Ok (e, r)
    → link_at (λ t. comparison_by (sets n o) t.at (comparison_of (kind t))) (suc n) r ≡ Ok (Some (l, u)) → cmp_from n o p ts ≡ Ok (compared (e, Plain) l, u)
cmp_ends n o p ts r u e l h k =
    ap (λ (z : Answer Placed QueryTree). (z >>= λ x. done (plain x.0) x.1) >>= λ x. chain (λ (v : Tailed) t. comparison_move (sets n o) v.1 t.at (kind t)) compared (suc n) x.0 x.1) h
    ∙ compared_once (sets n o) n e r u l k

module _ (i : Level) (b : Bool) (k : QueryTree → QueryTree → QueryTree) (ts r u w : List Placed) (range : QueryTree)
    (word : expect (is_word q.In) ts ≡ Ok (tt, r)) (first : i.sets r ≡ Ok (range, u)) (colon : expect (sign s.Colon) u ≡ Ok (tt, w)) where
  from_body : quantified i b k ts ≡ (i.full b w >>= λ x. done (with_body k range x.0) x.1)
  from_body = rw (word, first, colon) refl

  pub quantified_ends : (v : Tailed) (rest : List Placed) → i.full b w ≡ Ok (v, rest) → quantified i b k ts ≡ Ok (with_body k range v, rest)
  quantified_ends v rest h = from_body ∙ ap (λ (z : Answer Placed Tailed). z >>= λ x. done (with_body k range x.0) x.1) h

  pub quantified_stops : (e : Stop (List Placed)) → Fails e (i.full b w) → Fails e (quantified i b k ts)
  quantified_stops Memory h = tt
  quantified_stops (Before y z) h = from_body ∙ ap (λ (z : Answer Placed Tailed). z >>= λ x. done (with_body k range x.0) x.1) h

-- ---- readers that go on from a first operand

-- g reads a first operand with p, and goes on from it
pub record Runs {A B : Type 0} (g : Reader A → Reader B) : Type 0 where
  pub goes : (p : Reader A) (ts r : List Placed) (x : A) → p ts ≡ Ok (x, r) → g p ts ≡ g (done x) r
  pub fails : (p : Reader A) (ts : List Placed) (f : Fault Placed) → p ts ≡ Err f → g p ts ≡ Err f

pub cmp_runs : (n : ℕ) (o : Option Level) → Runs (cmp_from n o)
cmp_runs n o = record { goes = λ p ts r x h. rw h refl; fails = λ p ts f h. rw h refl }

pub or_runs : (n : ℕ) (m : Reader Tailed) → Runs (or_from n m)
or_runs n m = record { goes = λ p ts r x h. rw h refl; fails = λ p ts f h. rw h refl }

pub openor_runs : (n : ℕ) (b : Bool) (o : Option Level) → Runs (openor_from n b o)
openor_runs n b o = record { goes = λ p ts r x h. rw h refl; fails = λ p ts f h. rw h refl }

pub as_runs : (n : ℕ) (o : Option Level) → Runs (as_from n o)
as_runs n o = record { goes = λ p ts r x h. rw h refl; fails = λ p ts f h. rw h refl }

pub range_runs : (n : ℕ) (o : Option Level) → Runs (range_from n o)
range_runs n o = record { goes = λ p ts r x h. rw h refl; fails = λ p ts f h. rw h refl }

module _ {A B : Type 0} {g : Reader A → Reader B} (runs : Runs g) (t : Placed) (r : List Placed) where
  pub led_goes : (m : Move Placed A) (x : A) (u : List Placed) → eat_at m t r ≡ Ok (x, u) → eat_at (led g m) t r ≡ g (done x) u
  led_goes Stray x u h = absurd cc
  led_goes Deep x u h = absurd cc
  led_goes (Goes p) x u h = runs.goes p r u x h

  pub led_stops : (m : Move Placed A) (e : Stop (List Placed)) → Fails e (eat_at m t r) → Fails e (eat_at (led g m) t r)
  led_stops m Memory h = tt
  led_stops Stray (Before y z) h = cc
  led_stops Deep (Before y z) h = cc
  led_stops (Goes p) (Before y z) h = runs.fails p r (fault y z) h

-- ---- one token

pub eat_as : {A : Type 0} (m : Placed → Move Placed A) (t : Placed) (r ts : List Placed) → ts ≡ t ∷ r → eat m ts ≡ eat_at (m t) t r
eat_as m t r ts h = ap (eat m) h

pub deeper_as : {A I : Type 0} (o : Option I) (i : I) (p : I → Reader A) (t : Placed) (r : List Placed) → o ≡ Some i → eat_at (deeper o p) t r ≡ p i r
deeper_as o i p t r h = ap (λ z. eat_at (deeper z p) t r) h

pub ahead_goes : {A B : Type 0} (a : Placed → Bool) (p : Reader A) (k : A → Reader B) (ts r u : List Placed) (x : A)
    → expect a ts ≡ Ok (tt, r) → p r ≡ Ok (x, u) → ahead a (then p k) ts ≡ k x u
ahead_goes a p k ts r u x h i = rw (h, i) refl

-- ---- what was returned, along an equation of readings

pub gives_along : {X Y : Type 0} (view : X → Y) (z : Result X (Stop (List Placed))) (a b : Result Y (Fault Placed)) → a ≡ b → Gives view z b → Gives view z a
gives_along view (Ok x) a b e h = e ∙ h
gives_along view (Err Memory) a b e h = tt
gives_along view (Err (Before y r)) a b e h = e ∙ h

-- ---- by what stands first

pub not_led : (k : Kind) → lead k ≡ leads.Not → k ≡ KWord q.Not
not_led (KWord q.Not) e = refl
not_led _ e = absurd cc

pub exists_led : (k : Kind) → lead k ≡ leads.Exists → k ≡ KWord q.Exists
exists_led (KWord q.Exists) e = refl
exists_led _ e = absurd cc

pub for_led : (k : Kind) → lead k ≡ leads.All → k ≡ KWord q.For
for_led (KWord q.For) e = refl
for_led _ e = absurd cc

pub other_led : (n : ℕ) (b : Bool) (o : Option Level) (at : ℕ) (k : Kind) → lead k ≡ leads.Other → opennot_move n b o k at ≡ led (cmp_from n o) (prim_move o k at)
other_led n b o at (KWord q.Not) e = absurd cc
other_led n b o at (KWord q.Exists) e = absurd cc
other_led n b o at (KWord q.For) e = absurd cc
other_led n b o at _ e = refl

pub select_is : (k : Kind) → is_select k ≡ true → k ≡ KWord q.Select
select_is (KWord q.Select) e = refl
select_is _ e = absurd cc

pub no_select : (n : ℕ) (b : Bool) (o : Option Level) (at : ℕ) (k : Kind) → is_select k ≡ false → full_move n b o k at ≡ led (openor_from n b o) (opennot_move n b o k at)
no_select n b o at (KWord q.Select) e = absurd cc
no_select n b o at _ e = refl

pub runs_stops : {A B : Type 0} {g : Reader A → Reader B} → Runs g → (p : Reader A) (ts : List Placed) (e : Stop (List Placed)) → Fails e (p ts) → Fails e (g p ts)
runs_stops runs p ts Memory h = tt
runs_stops runs p ts (Before y z) h = runs.fails p ts (fault y z) h

no_in_at : (n : ℕ) (o : Option Level) (x : Named) (p : Reader RangeRead) (t : Placed) (r : List Placed) (k : Kind) → behind_word k r ≡ None → other_at (in_move n o x k) p t r ≡ p (t ∷ r)
no_in_at n o x p t r (KWord q.In) e = absurd cc
no_in_at n o x p t r _ e = refl

pub no_in : (n : ℕ) (o : Option Level) (x : Named) (p : Reader RangeRead) (ts : List Placed) → behind_in ts ≡ None → other (λ u. in_move n o x (kind u)) p ts ≡ p ts
no_in n o x p [] e = refl
no_in n o x p (t ∷ r) e = no_in_at n o x p t r (kind t) e

pub name_is : (k : Kind) (x : List ℕ) → kind_name k ≡ Some x → k ≡ KName x
name_is (KName y) x e = cc
name_is _ x e = absurd cc

pub no_name : (n : ℕ) (o : Option Level) (at : ℕ) (k : Kind) → kind_name k ≡ None → range_move n o k at ≡ led (as_from n o) (prim_move o k at)
no_name n o at (KName x) e = absurd cc
no_name n o at _ e = refl

-- ---- the condition of a select: there is no other behind one

abbrev where_chain : Reader Tailed → ℕ → SelectParts → Reader SelectParts
where_chain p n x = chain (λ (x : SelectParts) t. where_move p x.1 x.2 t.at (kind t)) with_where n x

where_stays : (p : Reader Tailed) (n : ℕ) (rs : List RangeParts) (at : ℕ) (e : QueryTree) (z : Tail) (ts : List Placed) → where_chain p n (rs, Where at e, z) ts ≡ Ok ((rs, Where at e, z), ts)
where_stays p zero rs at e z [] = refl
where_stays p zero rs at e z (t ∷ ts) = refl
where_stays p (suc n) rs at e z [] = refl
where_stays p (suc n) rs at e z (t ∷ ts) = refl

pub select_ends : (n : ℕ) (i : Level) (b : Bool) (at : ℕ) (h : QueryTree) (ts r u : List Placed) (rs : List RangeParts) (z : Tail) (l : ℕ × QueryTree × Tail) → i.ranges b ts ≡ Ok ((rs, z), r)
    → link_at (λ t. where_move (i.full b) NoWhere z t.at (kind t)) (suc n) r ≡ Ok (Some (l, u)) → select_rest n i b at h ts ≡ Ok (selected at h (with_where (rs, NoWhere, z) l), u)
select_ends n i b at h ts r u rs z l e k =
    ap (λ (y : Answer Placed RangesTailed). ((y >>= λ x. done (no_where x.0) x.1) >>= λ x. where_chain (i.full b) (suc n) x.0 x.1) >>= λ x. done (selected at h x.0) x.1) e
    ∙ ap (λ (y : Answer Placed SelectParts). y >>= λ x. done (selected at h x.0) x.1)
    (chain_goes (λ (x : SelectParts) t. where_move (i.full b) x.1 x.2 t.at (kind t)) with_where (suc n) (rs, NoWhere, z) r l u k
    ∙ where_stays (i.full b) (suc n - 1) rs l.0 l.1 (opened l.2) u)
