-- The loops over the ranges of a select and over the fields of a struct: what one more of them makes of those that are left.
use Rattle.std.proofs.Common.{◌≡◌, ℕ, zero, suc, ◌-◌, ◌<◌, List, Ok, Err, Some, refl, sym, ap, ◌∙◌, arith}
use Rattle.kola_base.specs.Placed.{Placed}
use Rattle.kola_parse.specs.declared.stop.Stop.{Stop}
use Rattle.kola_parse.specs.declared.stop.Stop.TheVariants.{Memory, Before}
use Rattle.kola_parse.specs.declared.why.Why.TheVariants.{Unexpected}
use Rattle.kola_parse.specs.Given.{Fails}
use Rattle.kola_parse.specs.Reader.{Answer, ◌>>=◌, fault, chain, link_at, Round, Again, Final, on_round, few_rounds, final}
use Rattle.kola_parse.proofs.Loops.{chain_goes}
use Rattle.oql_syntax.specs.Alphabet.{kind}
use Rattle.oql_syntax.specs.Tails.{Tail}
use Rattle.oql_syntax.specs.QueryReaders.{Reader, Tailed, RangeParts, RangesTailed, Next, ARange, ALabel, comma_move, more_ranges, FieldState, FieldRound, field, field_end, add_field}
use Rattle.oql_syntax.specs.TailViews.{ranges_with, tail_with}

more_split : (x : RangesTailed) (c : Next) → more_ranges x c ≡ (ranges_with x.0 c, tail_with c)
more_split x (ARange r) = refl
more_split x (ALabel l) = refl

pub range_more : (m : Reader Next) (left : ℕ) (rs qs : List RangeParts) (z y : Tail) (ts r : List Placed) (c : Next)
    → link_at (λ t. comma_move m z (kind t)) left ts ≡ Ok (Some (c, r)) → qs ≡ ranges_with rs c → y ≡ tail_with c
    → chain (λ (x : RangesTailed) t. comma_move m x.1 (kind t)) more_ranges (left - 1) (qs, y) r ≡ chain (λ (x : RangesTailed) t. comma_move m x.1 (kind t)) more_ranges left (rs, z) ts
range_more m left rs qs z y ts r c h e f =
    (λ j. chain (λ (x : RangesTailed) t. comma_move m x.1 (kind t)) more_ranges (left - 1) (e j, f j) r)
    ∙ ap (λ (x : RangesTailed). chain (λ (x : RangesTailed) t. comma_move m x.1 (kind t)) more_ranges (left - 1) x r) (sym (more_split (rs, z) c))
    ∙ sym (chain_goes (λ (x : RangesTailed) t. comma_move m x.1 (kind t)) more_ranges left (rs, z) ts c r h)

-- ---- fields

pub one_field : (p : Reader Tailed) (a : FieldState) (ts u r : List Placed) (v : Tailed) (d : FieldRound) → p ts ≡ Ok (v, u) → field_end (add_field a v.0) v.1 u ≡ Ok (d, r) → field p a ts ≡ Ok (d, r)
one_field p a ts u r v d h k = ap (λ (z : Answer Placed Tailed). z >>= λ x. field_end (add_field a x.0.0) x.0.1 x.1) h ∙ k

module _ {A B : Type 0} (p : A → Reader (Round A B)) where
  pub rounds_more : (left : ℕ) (a c : A) (ts r : List Placed) → 0 < left → p a ts ≡ Ok (Again c, r) → (few_rounds p left a ts >>= λ x. final x.0 x.1) ≡ (few_rounds p (left - 1) c r >>= λ x. final x.0 x.1)
  rounds_more zero a c ts r i h = absurd (omega (arith, i))
  rounds_more (suc n) a c ts r i h =
      ap (λ (z : Answer Placed (Round A B)). (z >>= λ x. on_round (few_rounds p n) x.0 x.1) >>= λ x. final x.0 x.1) h
      ∙ ap (λ (k : ℕ). few_rounds p k c r >>= λ x. final x.0 x.1) (let e : n ≡ suc n - 1 = omega arith in e)

  pub rounds_end : (left : ℕ) (a : A) (b : B) (ts r : List Placed) → p a ts ≡ Ok (Final b, r) → (few_rounds p left a ts >>= λ x. final x.0 x.1) ≡ Ok (b, r)
  rounds_end zero a b ts r h = ap (λ (z : Answer Placed (Round A B)). z >>= λ x. final x.0 x.1) h
  rounds_end (suc n) a b ts r h = ap (λ (z : Answer Placed (Round A B)). (z >>= λ x. on_round (few_rounds p n) x.0 x.1) >>= λ x. final x.0 x.1) h

  pub rounds_out : (left : ℕ) (a c : A) (ts r : List Placed) → left ≡ zero → p a ts ≡ Ok (Again c, r) → (few_rounds p left a ts >>= λ x. final x.0 x.1) ≡ Err (fault Unexpected r)
  rounds_out zero a c ts r i h = ap (λ (z : Answer Placed (Round A B)). z >>= λ x. final x.0 x.1) h
  rounds_out (suc n) a c ts r i h = absurd (omega (arith, i))

  pub rounds_stop : (left : ℕ) (a : A) (ts : List Placed) (e : Stop (List Placed)) → Fails e (p a ts) → Fails e (few_rounds p left a ts >>= λ x. final x.0 x.1)
  rounds_stop left a ts Memory h = tt
  rounds_stop zero a ts (Before y r) h = ap (λ (z : Answer Placed (Round A B)). z >>= λ x. final x.0 x.1) h
  rounds_stop (suc n) a ts (Before y r) h = ap (λ (z : Answer Placed (Round A B)). (z >>= λ x. on_round (few_rounds p n) x.0 x.1) >>= λ x. final x.0 x.1) h

pub field_stops : (p : Reader Tailed) (a : FieldState) (ts : List Placed) (e : Stop (List Placed)) → Fails e (p ts) → Fails e (field p a ts)
field_stops p a ts Memory h = tt
field_stops p a ts (Before y r) h = ap (λ (z : Answer Placed Tailed). z >>= λ x. field_end (add_field a x.0.0) x.0.1 x.1) h

pub field_end_stops : (p : Reader Tailed) (a : FieldState) (ts u : List Placed) (v : Tailed) (e : Stop (List Placed)) → p ts ≡ Ok (v, u) → Fails e (field_end (add_field a v.0) v.1 u) → Fails e (field p a ts)
field_end_stops p a ts u v Memory h k = tt
field_end_stops p a ts u v (Before y r) h k = ap (λ (z : Answer Placed Tailed). z >>= λ x. field_end (add_field a x.0.0) x.0.1 x.1) h ∙ k
