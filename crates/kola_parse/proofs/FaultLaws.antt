-- A text that is accepted has no first fault, and no text has two.
use Rattle.std.proofs.Common.{◌≡◌, List, [], ◌∷◌, ◌++◌, refl, sym, ap, subst, ◌∙◌, append_assoc}
use Rattle.std.proofs.lemmas.List.{append-nil}
use Rattle.kola_parse.specs.declared.why.Why.{Why}
use Rattle.kola_parse.specs.declared.why.Why.TheVariants.{Unexpected, TooDeep}
use Rattle.kola_parse.specs.Reader.{Fault}
use Rattle.kola_parse.specs.Faults.{Begins, Through, IsCause, IsFirstFault}

-- what is accepted goes through each of its tokens and its end
goes_through : {T : Type 0} (A : List T → Type 0) (w r : List T) → A (w ++ r) → Through A w r
goes_through A w [] h = subst A (append-nil w) h
goes_through A w (t ∷ r) h = (r, subst A (sym (append_assoc w (t ∷ []) r)) h)

pub no_fault : {T : Type 0} (A U : List T → Type 0) (ts : List T) (f : Fault T) → A ts → IsFirstFault A U ts f → ⊥
no_fault A U ts f h k = k.no_further (goes_through A k.before f.rest (subst A k.split h))

-- a shorter front of a list goes on with the next token of the longer one
data Splits {T : Type 0} (v r w s : List T) : Type 0 where
  same : v ≡ w → r ≡ s → Splits v r w s
  shorter : (t : T) (q u : List T) → r ≡ t ∷ q → w ≡ v ++ t ∷ u → Splits v r w s
  longer : (t : T) (q u : List T) → s ≡ t ∷ q → v ≡ w ++ t ∷ u → Splits v r w s

splits : {T : Type 0} (v r w s : List T) → v ++ r ≡ w ++ s → Splits v r w s
splits [] r [] s e = same refl e
splits [] r (t ∷ w) s e = shorter t (w ++ s) w e refl
splits (t ∷ v) r [] s e = longer t (v ++ r) v (sym e) refl
splits {T} (t ∷ v) r (x ∷ w) s e = grow (splits v r w s (let i : v ++ r ≡ w ++ s = cc in i))
  where
    head : t ≡ x
    head = cc

    grow : Splits v r w s → Splits (t ∷ v) r (x ∷ w) s
    grow (same a b) = same (let c = head in cc) b
    grow (shorter y q u a b) = shorter y q u a (let c = head in cc)
    grow (longer y q u a b) = longer y q u a (let c = head in cc)

-- no accepted text goes on beyond a first fault
not_beyond : {T : Type 0} (A : List T → Type 0) (v r w : List T) (t : T) (q u : List T) → r ≡ t ∷ q → w ≡ v ++ t ∷ u → Begins A w → Through A v r
not_beyond A v r w t q u a b h =
    subst (Through A v) (sym a) (u ++ h.0, subst A (ap (λ (z : List _). z ++ h.0) b ∙ append_assoc v (t ∷ u) h.0 ∙ sym (append_assoc v (t ∷ []) (u ++ h.0))) h.1)

one_cause : {T : Type 0} (U : List T → Type 0) (w r : List T) (x y : Why) → IsCause U w r x → IsCause U w r y → x ≡ y
one_cause U w r Unexpected Unexpected a b = refl
one_cause U w r Unexpected TooDeep a b = absurd (a b)
one_cause U w r TooDeep Unexpected a b = absurd (b a)
one_cause U w r TooDeep TooDeep a b = refl

pub one_fault : {T : Type 0} (A U : List T → Type 0) (ts : List T) (f g : Fault T) → IsFirstFault A U ts f → IsFirstFault A U ts g → (f.why ≡ g.why) × (f.rest ≡ g.rest)
one_fault {T} A U ts f g h k = by (splits h.before f.rest k.before g.rest (sym h.split ∙ k.split))
  where
    by : Splits h.before f.rest k.before g.rest → (f.why ≡ g.why) × (f.rest ≡ g.rest)
    by (same a b) = (one_cause U k.before g.rest f.why g.why (subst (λ (z : List T). IsCause U k.before z f.why) b (subst (λ (z : List T). IsCause U z f.rest f.why) a h.cause)) k.cause, b)
    by (shorter t q u a b) = absurd (h.no_further (not_beyond A h.before f.rest k.before t q u a b k.begins))
    by (longer t q u a b) = absurd (k.no_further (not_beyond A k.before g.rest h.before t q u a b h.begins))
