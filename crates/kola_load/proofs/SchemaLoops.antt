-- What comes of one more class, and of none.
use Rattle.std.proofs.Common.{◌≡◌, ◌<◌, ◌≤◌, ◌-◌, ℕ, suc, List, [], ◌∷◌, ◌++◌, length, map, Option, Some, None, Ok, Err, refl, sym, ap, subst, ◌∙◌, arith}
use Rattle.std.proofs.lemmas.List.{map-append}
use Rattle.kola_base.specs.Placed.{Placed}
use Rattle.kola_parse.specs.declared.stop.Stop.{Stop}
use Rattle.kola_parse.specs.declared.stop.Stop.TheVariants.{Memory, Before}
use Rattle.kola_parse.specs.Given.{Fails}
use Rattle.kola_parse.specs.Reader.{Answer, ◌>>=◌, fault, done, then, Move, may_at, many, link_by}
use Rattle.kola_parse.specs.Reading.{Reads, left}
use Rattle.kola_parse.proofs.ReaderLaws.{Shrinks, shrinks, ok_is}
use Rattle.kola_parse.proofs.Chains.{MoveShrinks}
use Rattle.kola_parse.proofs.ManyChains.{enough}
use Rattle.kola_parse.proofs.Loops.{chain_goes, chain_ends, chain_stops}
use Rattle.kola_load.specs.declared.schema_alphabet.Word.TheVariants as w
use Rattle.kola_base.specs.Alphabets.{KWord}
use Rattle.kola_load.specs.SchemaTree.{ClassAt}
use Rattle.kola_load.specs.SchemaAlphabet.{Kind, kind}
use Rattle.kola_load.specs.SchemaReaders.{type_at, body_at, end_at, class_move, next_class_move, next_class, grow}
use Rattle.kola_load.proofs.SchemaLaws.{type_good}
use Rattle.kola_load.proofs.SchemaWhole.{Rest, on_class, rest_good}

module _ (d : ℕ) where
  abbrev link : List ClassAt → Placed → Move Placed ClassAt
  link cs t = class_move (type_at d) (kind t)

  abbrev class_text : List Placed → Answer Placed ClassAt
  class_text = then (body_at (type_at d)) end_at

  reads : Reads class_text (Rest d) on_class
  reads = (rest_good (type_good d)).low

  shrinks_text : Shrinks class_text
  shrinks_text = shrinks class_text (Rest d) on_class reads

  small_at : (k : Kind) → MoveShrinks (class_move (type_at d) k)
  small_at (KWord w.Class) = shrinks_text
  small_at _ = tt

  small : (cs : List ClassAt) (t : Placed) → MoveShrinks (link cs t)
  small cs t = small_at (kind t)

  -- the parts of an answer
  value_is : (a b : Option ClassAt) (r s : List Placed) → (let x : Answer Placed (Option ClassAt) = Ok (a, r) in x ≡ Ok (b, s)) → a ≡ b
  value_is a b r s e = ap (λ (z : Option ClassAt × List Placed). z.0) (ok_is (a, r) (b, s) e)

  rest_is : (a b : Option ClassAt) (r s : List Placed) → (let x : Answer Placed (Option ClassAt) = Ok (a, r) in x ≡ Ok (b, s)) → r ≡ s
  rest_is a b r s e = ap (λ (z : Option ClassAt × List Placed). z.1) (ok_is (a, r) (b, s) e)

  some_is : (b c : ClassAt) → Some b ≡ Some c → b ≡ c
  some_is b c e = cc

  not_none : (c : ClassAt) → Some c ≡ None → ⊥
  not_none c e = cc

  some_read : (z : Answer Placed ClassAt) (c : ClassAt) (r : List Placed) → (z >>= λ x. done (Some x.0) x.1) ≡ Ok (Some c, r) → z ≡ Ok (c, r)
  some_read (Ok x) c r e = let i = some_is x.0 c (value_is (Some x.0) (Some c) x.1 r e) in let j = rest_is (Some x.0) (Some c) x.1 r e in ap (λ a. Ok (a, x.1)) i ∙ ap (λ s. Ok (c, s)) j
  some_read (Err f) c r e = absurd cc

  none_read : (z : Answer Placed ClassAt) (r : List Placed) → (z >>= λ x. done (Some x.0) x.1) ≡ Ok (None, r) → ⊥
  none_read (Ok x) r e = not_none x.0 (value_is (Some x.0) None x.1 r e)
  none_read (Err f) r e = cc

  fault_read : (z : Answer Placed ClassAt) (e : Stop (List Placed)) → Fails e (z >>= λ x. done (Some x.0) x.1) → Fails e (z >>= λ x. Ok (Some x))
  fault_read z Memory h = tt
  fault_read (Ok x) (Before y r) h = absurd cc
  fault_read (Err f) (Before y r) h = let i : f ≡ fault y r = cc in ap (λ g. Err g) i

  -- a link of the chain, by what the reader of one more class gives
  link_some : (n : ℕ) (k : Kind) (t : Placed) (ts : List Placed) (c : ClassAt) (r : List Placed) → may_at None (next_class_move (type_at d) k) t ts ≡ Ok (Some c, r) → (link_by (class_move (type_at d) k) (suc n) t ts ≡ Ok (Some (c, r))) × (length r ≤ length ts)
  link_some n (KWord w.Class) t ts c r e =
      let one = some_read (class_text ts) c r e in
      (ap (λ (z : Answer Placed ClassAt). z >>= λ x. Ok (Some x)) one, subst (λ (z : Answer Placed ClassAt). length (left z) ≤ length ts) one (shrinks_text ts))
  link_some n _ t ts c r e = absurd (not_none c (sym (value_is None (Some c) (t ∷ ts) r e)))

  link_none : (n : ℕ) (k : Kind) (t : Placed) (ts r : List Placed) → may_at None (next_class_move (type_at d) k) t ts ≡ Ok (None, r) → (link_by (class_move (type_at d) k) (suc n) t ts ≡ Ok None) × (r ≡ t ∷ ts)
  link_none n (KWord w.Class) t ts r e = absurd (none_read (class_text ts) r e)
  link_none n _ t ts r e = (refl, sym (rest_is None None (t ∷ ts) r e))

  link_fails : (n : ℕ) (k : Kind) (e : Stop (List Placed)) (t : Placed) (ts : List Placed) → Fails e (may_at None (next_class_move (type_at d) k) t ts) → Fails e (link_by (class_move (type_at d) k) (suc n) t ts)
  link_fails n k Memory t ts h = tt
  link_fails n (KWord w.Class) (Before y r) t ts h = fault_read (class_text ts) (Before y r) h
  link_fails n _ (Before y r) t ts h = absurd cc

  abbrev all : List ClassAt → List Placed → Answer Placed (List ClassAt)
  all = many link grow

  class_goes : (cs : List ClassAt) (c : ClassAt) (ts r : List Placed) → next_class (type_at d) ts ≡ Ok (Some c, r) → (all cs ts ≡ all (grow cs c) r) × (length r < length ts)
  class_goes cs c [] r e = absurd (not_none c (sym (value_is None (Some c) [] r e)))
  class_goes cs c (t ∷ ts) r e =
      let one = link_some (length ts) (kind t) t ts c r e in
      (chain_goes link grow (suc (length ts)) cs (t ∷ ts) c r one.0 ∙ enough link grow small (suc (length ts) - 1) (length r) (grow cs c) r (let l = one.1 in omega (arith, l)) (omega arith), let l = one.1 in omega (arith, l))

  pub class_shorter : (c : ClassAt) (ts r : List Placed) → next_class (type_at d) ts ≡ Ok (Some c, r) → length r < length ts
  class_shorter c ts r e = let one = class_goes [] c ts r e in one.1

  pub class_ends : (cs : List ClassAt) (ts r : List Placed) → next_class (type_at d) ts ≡ Ok (None, r) → all cs ts ≡ Ok (cs, r)
  class_ends cs [] r e = ap (λ z. Ok (cs, z)) (rest_is None None [] r e)
  class_ends cs (t ∷ ts) r e = let one = link_none (length ts) (kind t) t ts r e in chain_ends link grow (suc (length ts)) cs (t ∷ ts) one.0 ∙ ap (λ z. Ok (cs, z)) (sym one.1)

  pub class_fails : (cs : List ClassAt) (e : Stop (List Placed)) (ts : List Placed) → Fails e (next_class (type_at d) ts) → Fails e (all cs ts)
  class_fails cs Memory [] h = tt
  class_fails cs (Before y r) [] h = absurd cc
  class_fails cs e (t ∷ ts) h = chain_stops e link grow (suc (length ts)) cs (t ∷ ts) (link_fails (length ts) (kind t) e t ts h)

  -- the classes as they are seen
  pub class_more : {X : Type 0} (view : X → ClassAt) (xs ys : List X) (x : X) (ts r : List Placed) → ys ≡ xs ++ x ∷ [] → next_class (type_at d) ts ≡ Ok (Some (view x), r) → all (map view ys) r ≡ all (map view xs) ts
  class_more view xs ys x ts r i e =
      let one = class_goes (map view xs) (view x) ts r e in
      sym (one.0 ∙ ap (λ (z : List ClassAt). all z r) (sym (ap (map view) i ∙ map-append view xs (x ∷ []))))
