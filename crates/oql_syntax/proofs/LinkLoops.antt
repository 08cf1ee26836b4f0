-- What comes of a link of a chain, for the code that reads one.
use Rattle.std.proofs.Common.{◌≡◌, ℕ, zero, suc, ◌<◌, List, ◌∷◌, Ok, Some, sym, ap, subst, arith}
use Rattle.kola_base.specs.Placed.{Placed}
use Rattle.kola_parse.specs.declared.stop.Stop.{Stop}
use Rattle.kola_parse.specs.declared.stop.Stop.TheVariants.{Memory, Before}
use Rattle.kola_parse.specs.Given.{Fails}
use Rattle.kola_parse.specs.Reader.{Answer, ◌>>=◌, Move, Goes, made, done, link_by, link_at}
use Rattle.oql_syntax.specs.QueryReaders.{Reader}

module _ {A L : Type 0} (f : A → L) (p : Reader A) where
  made_fails : (e : Stop (List Placed)) (r : List Placed) → Fails e (p r) → Fails e (made f p r)
  made_fails Memory r h = tt
  made_fails (Before y s) r h = ap (λ (z : Answer Placed A). z >>= λ x. done (f x.0) x.1) h

  goes_fails : (e : Stop (List Placed)) (n : ℕ) (t : Placed) (r : List Placed) → 0 < n → Fails e (p r) → Fails e (link_by (Goes (made f p)) n t r)
  goes_fails Memory n t r i h = tt
  goes_fails (Before y s) zero t r i h = absurd (omega (arith, i))
  goes_fails (Before y s) (suc n) t r i h = ap (λ z. z >>= λ x. Ok (Some x)) (made_fails (Before y s) r h)

  -- where a link goes on with what p reads, it stops as p does
  pub link_stops : (e : Stop (List Placed)) (m : Placed → Move Placed L) (n : ℕ) (t : Placed) (r ts : List Placed) → ts ≡ t ∷ r → m t ≡ Goes (made f p) → 0 < n → Fails e (p r) → Fails e (link_at m n ts)
  link_stops e m n t r ts s g i h =
      subst (λ z. Fails e (link_at m n z)) (sym s) (subst (λ z. Fails e (link_by z n t r)) (sym g) (goes_fails e n t r i h))
