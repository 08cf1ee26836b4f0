-- A list of items is read by what reads one item or the last text.
use Rattle.std.proofs.Common.{length, ◌<◌, map, arith, ◌≡◌, ℕ, zero, suc, List, [], ◌∷◌, ◌++◌, Option, Some, None, Ok, Err, refl, sym, ap, subst, ◌∙◌, append_assoc}
use Rattle.std.proofs.lemmas.List.{append-nil, map-append, length-append}
use Rattle.kola_parse.specs.declared.stop.Stop.{Stop}
use Rattle.kola_parse.specs.declared.stop.Stop.TheVariants.{Memory, Before}
use Rattle.kola_parse.specs.Given.{Fails}
use Rattle.kola_parse.specs.Reader.{Answer, ◌>>=◌, done, fault, made, Round, Again, Final}
use Rattle.kola_parse.specs.Reading.{never, Inhabited, Reads, Good}
use Rattle.kola_parse.specs.Texts.{ends, Made, OnRound, FewText, RoundsText}
use Rattle.kola_parse.specs.Kinds.{Lang}
use Rattle.kola_parse.proofs.ReaderLaws.{nil_of}
use Rattle.kola_parse.proofs.GoodReaders.{good_as, made_good, made_reads}
use Rattle.kola_parse.proofs.Rounds.{rounds_good, rounds_goes, rounds_ends, rounds_fails}
use Rattle.kola_parse.specs.Listed.{Listed, grown, listed}

-- an item, or the last text
abbrev pub ItemOr : {T A : Type 0} → Lang T A → (List T → Type 0) → Lang T (Option A)
ItemOr Item Last (Some v) = Item v
ItemOr Item Last None = Last

-- behind the items vs: the others, and the last text
abbrev pub Others : {T A : Type 0} → Lang T A → (List T → Type 0) → List A → Lang T (List A)
Others {T} {A} Item Last vs us w = (ms : List A) × (us ≡ vs ++ ms) × Listed Item Last ms w

module _ {T A : Type 0} (Item : Lang T A) (Last : List T → Type 0) where
  abbrev One : List A → Lang T (Round (List A) (List A))
  One vs = Made (grown vs) (ItemOr Item Last)

  -- nothing behind a text
  without : (w front back : List T) → w ≡ front ++ back → ends back → front ≡ w
  without w front back e h = sym (e ∙ ap (λ (z : List T). front ++ z) (nil_of back h) ∙ append-nil front)

  again_is : (vs d : List A) (o : Option A) (w : List T) → Again d ≡ grown vs o → ItemOr Item Last o w → (v : A) × (d ≡ vs ++ v ∷ []) × Item v w
  again_is vs d (Some v) w e h = (v, let i : d ≡ vs ++ v ∷ [] = cc in i, h)
  again_is vs d None w e h = absurd cc

  final_is : (vs d : List A) (o : Option A) (w : List T) → Final d ≡ grown vs o → ItemOr Item Last o w → (d ≡ vs) × Last w
  final_is vs d (Some v) w e h = absurd cc
  final_is vs d None w e h = (let i : d ≡ vs = cc in i, h)

  same_final : (a b : List A) → (let x : Round (List A) (List A) = Final a in x ≡ Final b) → a ≡ b
  same_final a b e = cc

  listed_to : (n : ℕ) (vs us : List A) (w : List T) → FewText One n vs (Final us) w → Others Item Last vs us w
  listed_to zero vs us w h = let f = final_is vs us h.part w h.is h.spells in ([], f.0 ∙ sym (append-nil vs), f.1)
  listed_to (suc n) vs us w h = by (λ d back s. listed_to n d us back s) h.mid h.front h.back h.split h.first h.second
    where
      by : ((d : List A) (back : List T) → FewText One n d (Final us) back → Others Item Last d us back)
          → (x : Round (List A) (List A)) (front back : List T) → w ≡ front ++ back → One vs x front → OnRound (FewText One n) x (Final us) back → Others Item Last vs us w
      by go (Again d) front back e g s =
          let f = again_is vs d g.part front g.is g.spells in
          let more = go d back s in
          (f.0 ∷ more.0, more.1 ∙ ap (λ (z : List A). z ++ more.0) f.1 ∙ append_assoc vs (f.0 ∷ []) more.0, record { front = front; back = back; split = e; first = f.2; second = more.2 })
      by go (Final v) front back e g s =
          let f = final_is vs v g.part front g.is g.spells in
          ([], same_final us v s.0 ∙ f.0 ∙ sym (append-nil vs), subst Last (without w front back e s.1) f.1)

  listed_from : (ms vs : List A) (w : List T) → Listed Item Last ms w → RoundsText One vs (vs ++ ms) w
  listed_from [] vs w h = (zero, record { part = None; is = ap Final (append-nil vs); spells = h })
  listed_from (v ∷ ms) vs w h =
      let more = listed_from ms (vs ++ v ∷ []) h.back h.second in (
        suc more.0,
        record {
          mid = Again (vs ++ v ∷ []);
          front = h.front;
          back = h.back;
          split = h.split;
          first = record { part = Some v; is = refl; spells = h.first };
          second = subst (λ z. FewText One more.0 (vs ++ v ∷ []) (Final z) h.back) (append_assoc vs (v ∷ []) ms) more.1;
        },
      )

  others_to : (vs us : List A) (w : List T) → RoundsText One vs us w → Others Item Last vs us w
  others_to vs us w h = listed_to h.0 vs us w h.1

  others_from : (vs us : List A) (w : List T) → Others Item Last vs us w → RoundsText One vs us w
  others_from vs us w h = subst (λ z. RoundsText One vs z w) (sym h.1) (listed_from h.0 vs w h.2)

  -- no item and no last text is empty, and there is a last text
  pub record IsTaken : Type 0 where
    pub item : (v : A) → Item v [] → ⊥
    pub last : Last [] → ⊥
    pub text : List T
    pub is : Last text

  none_empty : IsTaken → (o : Option A) → ItemOr Item Last o [] → ⊥
  none_empty h (Some v) k = h.item v k
  none_empty h None k = h.last k

  taken_full : IsTaken → (vs : List A) (x : Round (List A) (List A)) → One vs x [] → ⊥
  taken_full h vs x k = none_empty h k.part k.spells

  taken_some : IsTaken → (vs : List A) → Inhabited (RoundsText One vs)
  taken_some h vs = record { tree = vs; text = h.text; spells = (zero, record { part = None; is = refl; spells = h.is }) }

pub others_good : {T A On : Type 0} {p q : List T → Answer T (Option A)} {I J : Lang T A} {L M : List T → Type 0} → IsTaken I L → IsTaken J M
    → Good On p q (ItemOr I L) (ItemOr J M) never → (vs : List A) → Good On (listed p vs) (listed q vs) (Others I L vs) (Others J M vs) never
others_good {T} {A} {On} {p} {q} {I} {J} {L} {M} t u h vs =
    good_as (others_to I L vs) (others_from I L vs) (others_to J M vs) (others_from J M vs)
    (rounds_good (λ vs. made (grown vs) p) (λ vs. made (grown vs) q) (One I L) (One J M) (λ vs. made_good (grown vs) never h) (taken_full I L t) (taken_some I L t) (taken_full J M u) (taken_some J M u) vs)

all_to : {T A : Type 0} (I : Lang T A) (L : List T → Type 0) (us : List A) (w : List T) → Others I L [] us w → Listed I L us w
all_to I L us w h = subst (λ z. Listed I L z w) (sym h.1) h.2

all_from : {T A : Type 0} (I : Lang T A) (L : List T → Type 0) (us : List A) (w : List T) → Listed I L us w → Others I L [] us w
all_from I L us w h = (us, refl, h)

-- all items from the first one on
pub listed_good : {T A On : Type 0} {p q : List T → Answer T (Option A)} {I J : Lang T A} {L M : List T → Type 0} → IsTaken I L → IsTaken J M
    → Good On p q (ItemOr I L) (ItemOr J M) never → Good On (listed p []) (listed q []) (Listed I L) (Listed J M) never
listed_good {T} {A} {On} {p} {q} {I} {J} {L} {M} t u h = good_as (all_to I L) (all_from I L) (all_to J M) (all_from J M) (others_good t u h [])

-- ---- for a loop: what comes of one more item, of the last text, and of a fault

pub record IsList {T A : Type 0} (p : List T → Answer T (Option A)) : Type 1 where
  pub item : Lang T A
  pub last : List T → Type 0
  pub reads : Reads p (ItemOr item last) never
  pub taken : IsTaken item last

module _ {T A : Type 0} {p : List T → Answer T (Option A)} (h : IsList p) where
  abbrev one : List A → List T → Answer T (Round (List A) (List A))
  one vs = made (grown vs) p

  one_reads : (vs : List A) → Reads (one vs) (One h.item h.last vs) never
  one_reads vs = made_reads (grown vs) p (ItemOr h.item h.last) never h.reads

  made_is : (vs : List A) (ts : List T) (z : Answer T (Option A)) → p ts ≡ z → one vs ts ≡ (z >>= λ x. done (grown vs x.0) x.1)
  made_is vs ts z e = ap (λ (z : Answer T (Option A)). z >>= λ x. done (grown vs x.0) x.1) e

  pub listed_goes : (vs : List A) (v : A) (ts r : List T) → p ts ≡ Ok (Some v, r) → listed p vs ts ≡ listed p (vs ++ v ∷ []) r
  listed_goes vs v ts r e = rounds_goes one (One h.item h.last) one_reads (taken_full h.item h.last h.taken) (taken_some h.item h.last h.taken) vs (vs ++ v ∷ []) ts r (made_is vs ts (Ok (Some v, r)) e)

  pub listed_ends : (vs : List A) (ts r : List T) → p ts ≡ Ok (None, r) → listed p vs ts ≡ Ok (vs, r)
  listed_ends vs ts r e = rounds_ends one (One h.item h.last) one_reads (taken_full h.item h.last h.taken) (taken_some h.item h.last h.taken) vs vs ts r (made_is vs ts (Ok (None, r)) e)

  pub listed_fails : (vs : List A) (e : Stop (List T)) (ts : List T) → Fails e (p ts) → Fails e (listed p vs ts)
  listed_fails vs Memory ts i = tt
  listed_fails vs (Before y r) ts i = rounds_fails one (One h.item h.last) one_reads (taken_full h.item h.last h.taken) (taken_some h.item h.last h.taken) vs (fault y r) ts (made_is vs ts (Err (fault y r)) i)

  -- the items as they are seen
  pub listed_more : {X : Type 0} (view : X → A) (xs ys : List X) (x : X) (ts r : List T) → ys ≡ xs ++ x ∷ [] → p ts ≡ Ok (Some (view x), r) → listed p (map view ys) r ≡ listed p (map view xs) ts
  listed_more {X} view xs ys x ts r i e = sym (listed_goes (map view xs) (view x) ts r e ∙ ap (λ (z : List A). listed p z r) (sym (ap (map view) i ∙ map-append view xs (x ∷ []))))

  pub item_shorter : (o : Option A) (ts r : List T) → p ts ≡ Ok (o, r) → length r < length ts
  item_shorter o ts r e = let one = h.reads.sound ts o r e in shorter one.text one.split one.spells
    where
      shorter : (text : List T) → ts ≡ text ++ r → ItemOr h.item h.last o text → length r < length ts
      shorter [] i k = absurd (none_empty h.item h.last h.taken o k)
      shorter (t ∷ text) i k = let n = ap length i in omega (arith, n, length-append text r)
